-- Which arrays are refused, and for what.
use Rattle.std.proofs.Common.{◌≡◌, ◌≢◌, ℕ, zero, suc, ◌+◌, ◌*◌, ◌<◌, ◌≤◌, eqb, nat_le, nat_lt, true, false}
use Rattle.std.proofs.Common.{List, [], ◌∷◌, ◌++◌, length, drop, get_or}
use Rattle.std.proofs.Common.{Ok, Err}
use Rattle.std.proofs.Common.{refl, arith, length-append, inl, inr}
use Rattle.std.specs.List.{All, position_or_len}
use Rattle.std.specs.Result.{is_ok}
use Rattle.std.proofs.lemmas.Bool.{cases_eq, lt-leb}
use Rattle.std.proofs.lemmas.Bool.Decides.{nat_tests}
use Rattle.std.proofs.lemmas.List.{length-take}
use Rattle.of_cells.specs.declared.cells.Cell.{Cell}
use Rattle.of_memory.specs.Regions.{data_limit, place_of}
use Rattle.of_memory.specs.DataSpace.{DataSpace, IsSound, bytes_from}
use Rattle.of_memory.specs.Access.{are_readable}
use Rattle.of_memory.specs.RangeLaws.{RangesArePlaced}
use Rattle.of_props.specs.Arrays.{bytes_of}
use Rattle.of_props.specs.Decoding.{int_decoded, phys_decoded, string_decoded}
use Rattle.of_props.specs.Encoding.{copy_encoded}
use Rattle.of_props.specs.Laws.{DecodingsAreRefused, EncodingsAreRefused, IsReadable, IsUnreadable}
use Rattle.of_props.specs.declared.arrays.Array.{Array}
use Rattle.of_props.specs.declared.fault.PropFault.TheVariants.{Address, Full, Short}
use Rattle.of_props.proofs.StringsBack.{many_bytes}

lt_true : (a b : ℕ) → a < b → nat_lt a b ≡ true
lt_true a b l = grind (arith, nat_tests)

lt_false : (a b : ℕ) → b ≤ a → nat_lt a b ≡ false
lt_false a b l = grind (arith, nat_tests)

-- the bytes of an array by whether it can be read
open_bytes : (m : DataSpace) (p : Array) → IsReadable m p → bytes_of m p ≡ Ok (bytes_from m p.address.0 p.length.0)
open_bytes m p e = rw e refl

no_bytes : (m : DataSpace) (p : Array) → IsUnreadable m p → bytes_of m p ≡ Err Address
no_bytes m p e = rw e refl

-- no more bytes than were asked for
few_bytes : (m : DataSpace) (a n : ℕ) → length (bytes_from m a n) ≤ n
few_bytes m a n = omega (arith, length-take n (drop (place_of a) m.bytes))

-- where no byte is zero
not_zero : (x : ℕ) → x ≢ 0 → eqb x 0 ≡ false
not_zero x l = grind (arith, nat_tests)

none_zero : (s : List ℕ) → All (λ b. b ≢ 0) s → position_or_len (λ b. eqb b 0) s ≡ length s
none_zero [] h = refl
none_zero (x ∷ s) h =
    let head : eqb x 0 ≡ false = not_zero x (h 0 0 (omega arith)) in
    let rest = none_zero s (λ k d l. h (suc k) d (omega arith)) in
    rw (head, rest) (omega arith)

-- a zero byte stands no further than the first
first_zero : (s : List ℕ) (k : ℕ) → k < length s → get_or s k 0 ≡ 0 → position_or_len (λ b. eqb b 0) s < length s
first_zero [] k l e = absurd (omega arith)
first_zero (x ∷ s) zero l e =
    let head : eqb x 0 ≡ true = grind (arith, nat_tests, e) in rw head (omega arith)
first_zero (x ∷ s) (suc k) l e =
    let rest = first_zero s k (omega arith) e in
    elim (cases_eq x 0) [
      | inl z ↦ let head : eqb x 0 ≡ true = grind (arith, nat_tests, z) in rw head (omega arith)
      | inr some ↦ rw (not_zero x some) (omega arith)
    ]

pub decodings_are_refused : RangesArePlaced → DecodingsAreRefused
decodings_are_refused placed = record {
  int_unreadable = λ m p e. rw (no_bytes m p e) refl;
  string_unreadable = λ m p e. rw (no_bytes m p e) refl;
  phys_unreadable = λ m p n e. rw (no_bytes m p e) refl;
  int_short = int_short;
  int_enough = int_enough;
  phys_short = phys_short;
  phys_enough = phys_enough;
  no_zero = no_zero;
  some_zero = some_zero;
}
  where
    int_short : (m : DataSpace) (p : Array) → IsReadable m p → p.length.0 < 4 → int_decoded m p ≡ Err Short
    int_short m p e l =
        let xs = bytes_from m p.address.0 p.length.0 in
        let t = lt_true (length xs) 4 (omega (arith, few_bytes m p.address.0 p.length.0)) in
        rw (open_bytes m p e, t) refl

    int_enough : (m : DataSpace) (p : Array) → IsSound m → IsReadable m p → 4 ≤ p.length.0
        → is_ok (int_decoded m p) ≡ true
    int_enough m p sound e l =
        let many = many_bytes placed m p.address.0 p.length.0 sound e in
        let t = lt_false (length (bytes_from m p.address.0 p.length.0)) 4 (omega (arith, many)) in
        rw (open_bytes m p e, t) refl

    phys_short : (m : DataSpace) (p : Array) (n : ℕ) → IsReadable m p → p.length.0 < 4 * n
        → phys_decoded m p n ≡ Err Short
    phys_short m p n e l =
        let xs = bytes_from m p.address.0 p.length.0 in
        let t = lt_true (length xs) (4 * n) (omega (arith, few_bytes m p.address.0 p.length.0)) in
        rw (open_bytes m p e, t) refl

    phys_enough : (m : DataSpace) (p : Array) (n : ℕ) → IsSound m → IsReadable m p → 4 * n ≤ p.length.0
        → is_ok (phys_decoded m p n) ≡ true
    phys_enough m p n sound e l =
        let many = many_bytes placed m p.address.0 p.length.0 sound e in
        let t = lt_false (length (bytes_from m p.address.0 p.length.0)) (4 * n) (omega (arith, many)) in
        rw (open_bytes m p e, t) refl

    no_zero : (m : DataSpace) (p : Array) → IsReadable m p → All (λ b. b ≢ 0) (bytes_from m p.address.0 p.length.0)
        → string_decoded m p ≡ Err Short
    no_zero m p e h =
        let xs = bytes_from m p.address.0 p.length.0 in
        let t = lt_false (length xs) (length xs) (omega arith) in
        rw (open_bytes m p e, none_zero xs h, t) refl

    some_zero : (m : DataSpace) (p : Array) (k : ℕ) → IsReadable m p
        → k < length (bytes_from m p.address.0 p.length.0) → get_or (bytes_from m p.address.0 p.length.0) k 0 ≡ 0
        → is_ok (string_decoded m p) ≡ true
    some_zero m p k e l z =
        let xs = bytes_from m p.address.0 p.length.0 in
        let t = lt_true (position_or_len (λ b. eqb b 0) xs) (length xs) (first_zero xs k l z) in
        rw (open_bytes m p e, t) refl

pub encodings_are_refused : RangesArePlaced → EncodingsAreRefused
encodings_are_refused placed = record {
  bytes_unreadable = λ m a n e. rw e refl;
  string_unreadable = λ m a n e. rw e refl;
  bytes_full = λ m a n sound e l. copy_full m a n [] sound e (omega arith);
  string_full = λ m a n sound e l. copy_full m a n (0 ∷ []) sound e (omega arith);
}
  where
    copy_full : (m : DataSpace) (a n : Cell) (tail : List ℕ) → IsSound m → are_readable m a.0 n.0 ≡ true
        → data_limit < m.here + (n.0 + length tail) → copy_encoded m a n tail ≡ Err Full
    copy_full m a n tail sound e l =
        let xs = bytes_from m a.0 n.0 in
        let many = many_bytes placed m a.0 n.0 sound e in
        let t = lt-leb (m.here + length (xs ++ tail)) data_limit
        (omega (arith, length-append xs tail, many)) in
        rw (e, t) refl
