-- Cells under others on the stack, one more at a time.
use Rattle.std.proofs.Common.{◌≡◌, ℕ, zero, suc, ◌+◌, ◌≤◌, List, [], ◌∷◌, ◌++◌, length, take, drop, ap, ◌∙◌}
use Rattle.std.proofs.Common.{Some, None, arith}
use Rattle.std.proofs.lemmas.List.{get_or-drop, length-drop, take_more}
use Rattle.std.proofs.lemmas.Option.{get_or_from_slice_get, slice_get_within}
use Rattle.std.specs.List.{slice_get}
use Rattle.of_cells.specs.declared.cells.Cell.{Cell}

-- a cell that isn't there is under no fewer cells than there are
pub past : (xs : List Cell) (k : ℕ) → slice_get xs k ≡ None → length xs ≤ k
past [] k e = omega arith
past (x ∷ xs) zero e = absurd cc
past (x ∷ xs) (suc k) e = let rest = past xs k e in omega (arith, rest)

-- one more cell under j others
pub one_more : (xs : List Cell) (j i : ℕ) (x : Cell) → slice_get xs (j + i) ≡ Some x
    → take (i + 1) (drop j xs) ≡ take i (drop j xs) ++ x ∷ []
one_more xs j i x e =
    let within = slice_get_within xs (j + i) x e in
    take_more (drop j xs) i x (omega (arith, length-drop j xs, within))
    ∙ ap (λ y. take i (drop j xs) ++ y ∷ []) (get_or-drop j xs i x ∙ get_or_from_slice_get xs (j + i) x x e)
