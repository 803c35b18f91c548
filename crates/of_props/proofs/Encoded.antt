-- What encoding leaves, and its bytes with those that were encoded behind them.
use Rattle.std.proofs.Common.{◌≡◌, ℕ, zero, suc, ◌+◌, ◌/◌, ◌%◌, ◌^◌, ◌<◌, ◌≤◌, nat_le, nat_lt, eqb, Bool, true, false}
use Rattle.std.proofs.Common.{List, ◌++◌, length, None, Result, Ok, Err, if◌then◌else◌}
use Rattle.std.proofs.Common.{refl, ap, sym, arith, length-append}
use Rattle.std.proofs.lemmas.Bool.{leb-true, lt-ltb}
use Rattle.std.proofs.lemmas.Bool.Decides.{nat_tests}
use Rattle.std.proofs.Math.Nat.{mod-eq_of_lt}
use Rattle.of_memory.specs.Regions.{data_start, data_limit, region_of, span}
use Rattle.of_memory.specs.DataSpace.{DataSpace, IsSound, bytes_from, is_readable, written}
use Rattle.of_memory.specs.Access.{all_from, are_readable, read_fault}
use Rattle.of_memory.specs.RangeLaws.{WritesJoin}
use Rattle.of_memory.specs.declared.fault.MemFault.TheVariants.{Full}
use Rattle.of_memory.specs.declared.width.Width.TheVariants.{One}
use Rattle.of_props.specs.Arrays.{bytes_of, joined}
use Rattle.of_props.specs.Encoding.{as_array, encoded}
use Rattle.of_props.specs.RoundTrips.{BytesReadBack}
use Rattle.of_props.specs.declared.arrays.Array.{Array}
use Rattle.of_props.specs.declared.fault.PropFault.{PropFault}
use Rattle.of_props.proofs.Readable.{byte_fault}

-- the data region can be read
byte_open : (m : DataSpace) (a : ℕ) → data_start ≤ a → a < data_limit → is_readable m a ≡ true
byte_open m a from to =
    let one : a / span ≡ 1 = omega arith in
    let region : region_of a ≡ region_of data_start = rw one refl in
    let small : nat_lt (a % span) 262144 ≡ true = lt-ltb (a % span) 262144 (omega arith) in
    rw (region, small) refl

pub data_open : (m : DataSpace) (a n : ℕ) → data_start ≤ a → a + n ≤ data_limit → are_readable m a n ≡ true
unfolding all_from
data_open m a zero from to = refl
data_open m a (suc n) from to =
    rw (byte_open m a from (omega arith), data_open m (suc a) n (omega arith) (omega arith)) refl

-- the state with bytes put at `here`
abbrev pub put : DataSpace → List ℕ → DataSpace
put m xs = record (written m m.here xs) { here = m.here + length xs }

abbrev pub array : ℕ → ℕ → Array
array a n = record { address = record { 0 = a }; length = record { 0 = n } }

-- what an encoding shows
pub record IsEncoded (m after : DataSpace) (xs : List ℕ) (p : Array) : Type 0 where
  pub array_is : p ≡ array m.here (length xs)
  pub after_is : after ≡ put m xs
  pub fits : m.here + length xs ≤ data_limit

encoded_if :
    (t : Bool) (m after new : DataSpace) (a n : ℕ) (p : Array)
    → ◌≡◌ {A = Result (Array × DataSpace) PropFault} (as_array n (if t then Ok (a, new) else Err Full)) (Ok (p, after))
    → (t ≡ true) × (p ≡ array a n) × (after ≡ new)
encoded_if true m after new a n p e =
    let pair : ◌≡◌ {A = Array × DataSpace} (array a n, new) (p, after) = cc in
    (refl, sym (ap (λ (x : Array × DataSpace). x.0) pair), sym (ap (λ (x : Array × DataSpace). x.1) pair))
encoded_if false m after new a n p e = cc

pub is_encoded : (m after : DataSpace) (xs : List ℕ) (p : Array) → encoded m xs ≡ Ok (p, after) → IsEncoded m after xs p
is_encoded m after xs p e =
    let all = encoded_if (nat_le (m.here + length xs) data_limit) m after (put m xs) m.here (length xs) p e in
    record { array_is = all.1; after_is = all.2; fits = leb-true (m.here + length xs) data_limit all.0 }

pub bytes_if :
    (t : Bool) (x y : List ℕ) (e : PropFault) → t ≡ true → x ≡ y
    → ◌≡◌ {A = Result (List ℕ) PropFault} (if t then Ok x else Err e) (Ok y)
bytes_if t x y e f g = rw (f, g) refl

no_fault : (m : DataSpace) (a n : ℕ) → data_start ≤ a → a + n ≤ data_limit → read_fault m a n One ≡ None
no_fault m a n from to = rw (byte_fault m a n, data_open m a n from to) refl

-- the bytes that were put
pub put_bytes :
    WritesJoin → (m : DataSpace) (xs : List ℕ) → IsSound m → m.here + length xs ≤ data_limit
    → bytes_from (put m xs) m.here (length xs) ≡ xs
put_bytes join m xs sound fits =
    join.back m m.here xs sound (no_fault m m.here (length xs) sound.here_from fits)

pub bytes_read_back : WritesJoin → BytesReadBack
bytes_read_back join m after xs p sound e =
    let is = is_encoded m after xs p e in
    rw (is.array_is, is.after_is)
    (bytes_if (are_readable (put m xs) m.here (length xs)) _ xs _
    (data_open (put m xs) m.here (length xs) sound.here_from is.fits) (put_bytes join m xs sound is.fits))

-- two encodings, one behind the other, are one of their bytes
two_put :
    WritesJoin → (m : DataSpace) (xs ys : List ℕ) → IsSound m → m.here + length xs + length ys ≤ data_limit
    → bytes_from (put (put m xs) ys) m.here (length (xs ++ ys)) ≡ xs ++ ys
two_put join m xs ys sound fits =
    let fault = no_fault m m.here (length xs + length ys) sound.here_from (omega arith) in
    let both = join.behind m m.here xs ys sound fault in
    let bytes : (put (put m xs) ys).bytes ≡ (written m m.here (xs ++ ys)).bytes =
    ap (λ (s : DataSpace). s.bytes) both in
    rw bytes (put_bytes join m (xs ++ ys) sound (rw length-append (omega arith)))

-- two arrays as one
pub record AreJoined (m after : DataSpace) (xs ys : List ℕ) (p q : Array) : Type 0 where
  pub first : p ≡ array m.here (length xs)
  pub second : q ≡ array (m.here + length xs) (length ys)
  pub joined_is : joined p q ≡ Ok (array m.here (length xs + length ys))
  pub bytes : bytes_of after (array m.here (length xs + length ys)) ≡ Ok (xs ++ ys)
  pub fits : m.here + length xs + length ys ≤ data_limit

small : (n : ℕ) → n ≤ data_limit → n % 2 ^ 32 ≡ n
small n l = mod-eq_of_lt (omega arith)

join_arrays :
    (h n k : ℕ) → h + n + k ≤ data_limit → joined (array h n) (array (h + n) k) ≡ Ok (array h (n + k))
join_arrays h n k fits =
    let at = small (h + n) (omega arith) in
    let many = small (n + k) (omega arith) in
    let same : eqb (h + n) (h + n) ≡ true = grind (arith, nat_tests) in
    rw (at, many, same) refl

pub are_joined :
    WritesJoin → (m between after : DataSpace) (xs ys : List ℕ) (p q : Array) → IsSound m
    → encoded m xs ≡ Ok (p, between) → encoded between ys ≡ Ok (q, after) → AreJoined m after xs ys p q
are_joined join m between after xs ys p q sound e f =
    let one = is_encoded m between xs p e in
    let two = is_encoded between after ys q f in
    let here : between.here ≡ m.here + length xs = ap (λ (s : DataSpace). s.here) one.after_is in
    let fits : m.here + length xs + length ys ≤ data_limit = omega (arith, two.fits, here) in
    let state : after ≡ put (put m xs) ys = rw one.after_is at two.after_is in
    let many : length (xs ++ ys) ≡ length xs + length ys = length-append xs ys in
    let readable = data_open after m.here (length xs + length ys) sound.here_from (omega arith) in
    let all : bytes_from after m.here (length xs + length ys) ≡ xs ++ ys =
    rw (state, ← many) (two_put join m xs ys sound fits) in
    record {
      first = one.array_is;
      second = rw here at two.array_is;
      joined_is = rw (one.array_is, rw here at two.array_is) (join_arrays m.here (length xs) (length ys) fits);
      bytes = bytes_if (are_readable after m.here (length xs + length ys)) _ (xs ++ ys) _ readable all;
      fits = fits;
    }
