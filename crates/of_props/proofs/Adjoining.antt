-- Arrays that adjoin are one.
use Rattle.std.proofs.Common.{◌≡◌, ℕ, zero, suc, ◌+◌, ◌/◌, ◌%◌, ◌^◌, ◌<◌, ◌≤◌}
use Rattle.std.proofs.Common.{eqb, Bool, true, false, ◌&&◌}
use Rattle.std.proofs.Common.{List, [], ◌++◌, take, drop, None, Result, Ok, Err, if◌then◌else◌}
use Rattle.std.proofs.Common.{refl, ap, sym, ◌∙◌, arith, inl, inr}
use Rattle.std.specs.Result.{is_ok}
use Rattle.std.proofs.lemmas.Bool.{cases_eq}
use Rattle.std.proofs.lemmas.Bool.Decides.{nat_tests}
use Rattle.std.proofs.lemmas.List.{drop-drop}
use Rattle.std.proofs.Math.Nat.{mod-eq_of_lt}
use Rattle.std.proofs.Math.Seq.{take-add}
use Rattle.of_cells.specs.Arithmetic.{plus}
use Rattle.of_memory.specs.Regions.{place_of, span}
use Rattle.of_memory.specs.DataSpace.{DataSpace, bytes_from, is_readable}
use Rattle.of_memory.specs.Access.{IsPlaced, all_from, are_readable, read_fault}
use Rattle.of_memory.specs.RangeLaws.{RangesArePlaced}
use Rattle.of_memory.specs.declared.width.Width.TheVariants.{One}
use Rattle.of_props.specs.Arrays.{bytes_of, joined}
use Rattle.of_props.specs.Laws.{ArraysAdjoin, Follows}
use Rattle.of_props.specs.declared.arrays.Array.{Array}
use Rattle.of_props.specs.declared.fault.PropFault.{PropFault}
use Rattle.of_props.specs.declared.fault.PropFault.TheVariants.{Address, NotAdjacent}
use Rattle.of_props.proofs.Encoded.{bytes_if}
use Rattle.of_props.proofs.Readable.{byte_fault}

-- what joining shows
joined_if : (t : Bool) (x r : Array)
    → ◌≡◌ {A = Result Array PropFault} (if t then Ok x else Err NotAdjacent) (Ok r) → (t ≡ true) × (x ≡ r)
joined_if true x r e = (refl, cc)
joined_if false x r e = cc

-- the one array of two
abbrev whole : Array → Array → Array
whole p q = record { address = p.address; length = plus p.length q.length }

is_joined : (p q r : Array) → joined p q ≡ Ok r → Follows q p × (whole p q ≡ r)
is_joined p q r e =
    let all = joined_if (eqb ((p.address.0 + p.length.0) % 2 ^ 32) q.address.0) (whole p q) r e in
    let at : q.address.0 ≡ (p.address.0 + p.length.0) % 2 ^ 32 = grind (arith, nat_tests, all.0) in
    (at, all.1)

-- what the bytes of an array show
read_if : (t : Bool) (x y : List ℕ)
    → ◌≡◌ {A = Result (List ℕ) PropFault} (if t then Ok x else Err Address) (Ok y) → (t ≡ true) × (x ≡ y)
read_if true x y e = (refl, cc)
read_if false x y e = cc

-- a test that each of n numbers passes, and each of k behind them
all_both : (p : ℕ → Bool) (a n k : ℕ) → all_from p a n ≡ true → all_from p (a + n) k ≡ true
    → all_from p a (n + k) ≡ true
unfolding all_from
all_both p a zero k e f = let z : a + 0 ≡ a = omega arith in let s : 0 + k ≡ k = omega arith in rw (s, ← z) f
all_both p a (suc n) k e f =
    let here = first_true (p a) (all_from p (suc a) n) e in
    let on : a + suc n ≡ suc a + n = omega arith in
    let more : suc n + k ≡ suc (n + k) = omega arith in
    let rest = all_both p (suc a) n k here.1 (rw (← on) f) in
    rw more (rw (here.0, rest) refl)
  where
    first_true : (s t : Bool) → (s && t) ≡ true → (s ≡ true) × (t ≡ true)
    first_true true t e = (refl, e)
    first_true false t e = cc

-- the bytes of an array by its parts
abbrev Bytes : DataSpace → ℕ → ℕ → List ℕ → Type 0
Bytes m a n xs = (are_readable m a n ≡ true) × (bytes_from m a n ≡ xs)

-- where some bytes that can be read stand
ends : RangesArePlaced → (m : DataSpace) (a n : ℕ) → are_readable m a n ≡ true → 0 < n
    → IsPlaced a n × (a + n ≤ 0x64_0000)
ends placed m a n open_ l =
    let none : read_fault m a n One ≡ None = rw (byte_fault m a n, open_) refl in
    (placed.placed m a n One none l, placed.ends m a n One none l)

place_on : (a n : ℕ) → IsPlaced a n → place_of (a + n) ≡ place_of a + n
place_on a n at =
    let one : (a + n) / span ≡ a / span = omega (arith, at.within) in
    let two : (a + n) % span ≡ a % span + n = omega (arith, at.within) in
    rw (one, two) (omega arith)

both : RangesArePlaced → (m : DataSpace) (a n k : ℕ) (xs ys : List ℕ) → 0 < n → Bytes m a n xs → Bytes m (a + n) k ys
    → Bytes m a (n + k) (xs ++ ys)
both placed m a n k xs ys l e f =
    let at = (ends placed m a n e.0 l).0 in
    let readable = all_both (is_readable m) a n k e.0 f.0 in
    let parts = take-add n k (drop (place_of a) m.bytes) in
    let on : drop n (drop (place_of a) m.bytes) ≡ drop (place_of (a + n)) m.bytes =
    rw (place_on a n at) (drop-drop n (place_of a) m.bytes) in
    let behind : take k (drop n (drop (place_of a) m.bytes)) ≡ ys = rw on f.1 in
    (readable, rw (parts, e.1, behind) refl)

-- a count of bytes that can be read is below 2 ^ 32
few : RangesArePlaced → (m : DataSpace) (a n : ℕ) → are_readable m a n ≡ true → n ≤ 0x64_0000
few placed m a n open_ =
    elim (cases_eq n 0) [ inl z ↦ omega arith | inr some ↦ omega (arith, (ends placed m a n open_ (omega arith)).1) ]

-- the bytes of both, by the lengths and addresses of the arrays
bytes_both :
    RangesArePlaced → (m : DataSpace) (a n b k : ℕ) (xs ys : List ℕ) → a < 2 ^ 32 → b ≡ (a + n) % 2 ^ 32
    → Bytes m a n xs → Bytes m b k ys → Bytes m a ((n + k) % 2 ^ 32) (xs ++ ys)
bytes_both placed m a n b k xs ys small at e f =
    let n_few = few placed m a n e.0 in
    let k_few = few placed m b k f.0 in
    let sum : (n + k) % 2 ^ 32 ≡ n + k = mod-eq_of_lt (omega arith) in
    rw sum (
    elim (cases_eq n 0) [
      | inl z ↦
          let sum : a + n ≡ a = omega arith in
          let there : b ≡ a = at ∙ rw sum (mod-eq_of_lt small) in
          let none : xs ≡ [] = sym e.1 ∙ rw z refl in
          let many : n + k ≡ k = omega arith in
          rw (many, none, ← there) f
      | inr some ↦
          let l : 0 < n = omega arith in
          let there : b ≡ a + n = at ∙ mod-eq_of_lt (omega (arith, (ends placed m a n e.0 l).1)) in
          both placed m a n k xs ys l e (rw (← there) f)
    ]
    )

pub arrays_adjoin : RangesArePlaced → ArraysAdjoin
arrays_adjoin placed = record { apart = apart; one = one; begins = begins; long = long; bytes = bytes }
  where
    apart : (p q : Array) → ¬ Follows q p → joined p q ≡ Err NotAdjacent
    apart p q n =
        let t : eqb ((p.address.0 + p.length.0) % 2 ^ 32) q.address.0 ≡ false = grind (arith, nat_tests) in rw t refl

    one : (p q : Array) → Follows q p → is_ok (joined p q) ≡ true
    one p q e =
        let t : eqb ((p.address.0 + p.length.0) % 2 ^ 32) q.address.0 ≡ true = grind (arith, nat_tests) in rw t refl

    begins : (p q r : Array) → joined p q ≡ Ok r → r.address ≡ p.address
    begins p q r e = sym (ap (λ (x : Array). x.address) (is_joined p q r e).1)

    long : (p q r : Array) → joined p q ≡ Ok r → r.length.0 ≡ (p.length.0 + q.length.0) % 2 ^ 32
    long p q r e = sym (ap (λ (x : Array). x.length.0) (is_joined p q r e).1)

    bytes :
        (m : DataSpace) (p q r : Array) (xs ys : List ℕ) → p.address.0 < 2 ^ 32 → joined p q ≡ Ok r
        → bytes_of m p ≡ Ok xs → bytes_of m q ≡ Ok ys → bytes_of m r ≡ Ok (xs ++ ys)
    bytes m p q r xs ys small e f g =
        let is = is_joined p q r e in
        let first = read_if (are_readable m p.address.0 p.length.0) (bytes_from m p.address.0 p.length.0) xs f in
        let second = read_if (are_readable m q.address.0 q.length.0) (bytes_from m q.address.0 q.length.0) ys g in
        let all =
        bytes_both placed m p.address.0 p.length.0 q.address.0 q.length.0 xs ys small is.0 first second in
        rw (← is.1) (bytes_if _ _ (xs ++ ys) Address all.0 all.1)
