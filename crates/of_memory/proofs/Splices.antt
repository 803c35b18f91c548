-- Lists put into the list of all bytes, one after another.
use Rattle.std.proofs.Common.{◌≡◌, ℕ, ◌+◌, ◌≤◌, List, ◌++◌, length, take, drop, get_or, ◌⊎◌, inl, inr, ◌<◌, ◌-◌, arith}
use Rattle.std.proofs.lemmas.List.{places, same_lists, length-take, length-drop}
use Rattle.std.proofs.lemmas.Bool.{cases_lt}
use Rattle.of_memory.specs.DataSpace.{splice}
use Rattle.of_memory.specs.SoundChanges.{AreBytes}

-- one behind another
pub splice_behind :
    (l xs ys : List ℕ) (i j : ℕ) → j ≡ i + length xs → j + length ys ≤ length l
    → splice (splice l i xs) j ys ≡ splice l i (xs ++ ys)
splice_behind l xs ys i j e fits = same_lists _ _ (grind (arith, places)) (λ k d h. grind (arith, places))

-- in either order, where they don't meet
pub splice_apart :
    (l xs ys : List ℕ) (i j : ℕ) → i + length xs ≤ j → j + length ys ≤ length l
    → splice (splice l j ys) i xs ≡ splice (splice l i xs) j ys
splice_apart l xs ys i j apart fits = same_lists _ _ (grind (arith, places)) (λ k d h. grind (arith, places))

-- a part of a list that lies in it has its whole length
pub part_length : (l : List ℕ) (i n : ℕ) → i + n ≤ length l → length (take n (drop i l)) ≡ n
part_length l i n fits = omega (arith, length-take n (drop i l), length-drop i l)

in_splice :
    (l ys : List ℕ) (i k d : ℕ) → i + length ys ≤ length l → i ≤ k → k < i + length ys
    → get_or (splice l i ys) k d ≡ get_or ys (k - i) d
in_splice l ys i k d fits from to = grind (arith, places)

out_splice :
    (l ys : List ℕ) (i k d : ℕ) → i + length ys ≤ length l → (k < i) ⊎ (i + length ys ≤ k)
    → get_or (splice l i ys) k d ≡ get_or l k d
out_splice l ys i k d fits out = grind (arith, places)

splice_length : (l ys : List ℕ) (i : ℕ) → i + length ys ≤ length l → length (splice l i ys) ≡ length l
splice_length l ys i fits = grind (arith, places)

pub bytes_spliced :
    (l ys : List ℕ) (i : ℕ) → i + length ys ≤ length l → AreBytes l → AreBytes ys → AreBytes (splice l i ys)
bytes_spliced l ys i fits old new k d lt =
    let len : length (splice l i ys) ≡ length l = splice_length l ys i fits in
    elim (cases_lt k i) [
      | inl h ↦ rw (out_splice l ys i k d fits (inl h)) (old k d (omega arith))
      | inr h ↦ elim (cases_lt k (i + length ys)) [
        | inl g ↦ rw (in_splice l ys i k d fits h g) (new (k - i) d (omega arith))
        | inr g ↦ rw (out_splice l ys i k d fits (inr g)) (old k d (omega arith))
      ]
    ]

part_at : (l : List ℕ) (i n k d : ℕ) → k < n → get_or (take n (drop i l)) k d ≡ get_or l (i + k) d
part_at l i n k d lt = grind (arith, places)

pub bytes_part : (l : List ℕ) (i n : ℕ) → i + n ≤ length l → AreBytes l → AreBytes (take n (drop i l))
bytes_part l i n fits h k d lt =
    let len : length (take n (drop i l)) ≡ n = part_length l i n fits in
    rw (part_at l i n k d (omega arith)) (h (i + k) d (omega arith))
