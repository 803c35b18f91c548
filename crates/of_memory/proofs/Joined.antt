-- What was written reads back, and two writes side by side are one.
use Rattle.std.proofs.Common.{◌≡◌, ℕ, ◌+◌, ◌^◌, ◌<◌, ◌≤◌, List, [], ◌∷◌, ◌++◌, length, take, drop, None, inl, inr, refl}
use Rattle.std.proofs.Common.{ap, ◌∙◌, arith}
use Rattle.std.proofs.lemmas.List.{places, same_lists}
use Rattle.std.proofs.lemmas.Bool.{cases_eq}
use Rattle.std.proofs.Math.Nat.{mod-eq_of_lt}
use Rattle.byteorder.specs.Endian.{big_bytes}
use Rattle.of_memory.specs.Regions.{place_of}
use Rattle.of_memory.specs.DataSpace.{DataSpace, IsSound, bytes_from, splice, written}
use Rattle.of_memory.specs.Access.{read_fault, write_fault, unless}
use Rattle.of_memory.specs.RangeLaws.{WritesJoin}
use Rattle.of_memory.specs.declared.width.Width.TheVariants.{One}
use Rattle.of_memory.proofs.Ranges.{ranges_are_placed}
use Rattle.of_memory.proofs.Splices.{splice_behind, splice_apart}
use Rattle.of_memory.proofs.Nothing.{written_none}

pub read_back : (l ys : List ℕ) (i : ℕ) → i + length ys ≤ length l → take (length ys) (drop i (splice l i ys)) ≡ ys
read_back l ys i fits = same_lists _ _ (grind (arith, places)) (λ k d h. grind (arith, places))

room : (m : DataSpace) (a n : ℕ) → IsSound m → read_fault m a n One ≡ None → 0 < n → place_of a + n ≤ length m.bytes
room m a n sound e some =
    let at = ranges_are_placed.placed m a n One e some in
    omega (arith, at.some, at.last, at.within, sound.bytes)

next_place :
    (m : DataSpace) (a n k : ℕ) → read_fault m a n One ≡ None → 0 < n → k ≤ n → place_of (a + k) ≡ place_of a + k
next_place m a n k e some l =
    let at = ranges_are_placed.placed m a n One e some in
    omega (arith, at.some, at.last, at.within)

no_list : (ys : List ℕ) → length ys ≡ 0 → ys ≡ []
no_list [] e = refl
no_list (y ∷ ys) e = absurd (omega arith)

back :
    (m : DataSpace) (a : ℕ) (ys : List ℕ) → IsSound m → read_fault m a (length ys) One ≡ None
    → bytes_from (written m a ys) a (length ys) ≡ ys
back m a [] sound e = refl
back m a (y ∷ ys) sound e = read_back m.bytes (y ∷ ys) (place_of a) (room m a (length (y ∷ ys)) sound e (omega arith))

-- one list of bytes behind another, both in the list of all
behind :
    (m : DataSpace) (a : ℕ) (xs ys : List ℕ) → IsSound m → read_fault m a (length xs + length ys) One ≡ None
    → written (written m a xs) (a + length xs) ys ≡ written m a (xs ++ ys)
behind m a xs ys sound e =
    elim (cases_eq (length xs + length ys) 0) [
      | inl z ↦
          let no_xs : xs ≡ [] = no_list xs (omega arith) in
          let no_ys : ys ≡ [] = no_list ys (omega arith) in
          rw (no_xs, no_ys) (written_none (written m a []) (a + 0))
      | inr some ↦
          let n = length xs + length ys in
          let next : place_of (a + length xs) ≡ place_of a + length xs =
          next_place m a n (length xs) e (omega arith) (omega arith) in
          let fits : place_of a + n ≤ length m.bytes = room m a n sound e (omega arith) in
          rw next (ap (λ (l : List ℕ). record m { bytes = l })
          (splice_behind m.bytes xs ys (place_of a) (place_of a + length xs) refl (omega arith)))
    ]

before :
    (m : DataSpace) (a : ℕ) (xs ys : List ℕ) → IsSound m → read_fault m a (length xs + length ys) One ≡ None
    → written (written m (a + length xs) ys) a xs ≡ written m a (xs ++ ys)
before m a xs ys sound e =
    elim (cases_eq (length xs + length ys) 0) [
      | inl z ↦
          let no_xs : xs ≡ [] = no_list xs (omega arith) in
          let no_ys : ys ≡ [] = no_list ys (omega arith) in
          rw (no_xs, no_ys) (ap (λ (s : DataSpace). written s a []) (written_none m (a + 0)))
      | inr some ↦
          let n = length xs + length ys in
          let next : place_of (a + length xs) ≡ place_of a + length xs =
          next_place m a n (length xs) e (omega arith) (omega arith) in
          let fits : place_of a + n ≤ length m.bytes = room m a n sound e (omega arith) in
          let apart = splice_apart m.bytes xs ys (place_of a) (place_of (a + length xs)) (omega arith) (omega arith) in
          ap (λ (l : List ℕ). record m { bytes = l }) apart ∙ behind m a xs ys sound e
    ]

one_byte : (x : ℕ) → x < 2 ^ 8 → big_bytes 1 x ≡ x ∷ []
one_byte x l = let small : x < 256 = omega arith in rw (mod-eq_of_lt small) refl

pub writes_join : WritesJoin
writes_join = record {
  back = back;
  none = written_none;
  before = before;
  behind = behind;
  byte = λ m a x l. ap (λ (ys : List ℕ). unless (write_fault m a 1 One) (written m a ys)) (one_byte x l);
}
