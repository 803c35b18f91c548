-- Items counted cell by cell.
use Rattle.std.proofs.Common.{◌≡◌, ℕ, ◌+◌, ◌-◌, ◌<◌, zero, suc, List, [], ◌∷◌, drop, take, get_or, Option, None, refl}
use Rattle.std.proofs.Common.{ap, ◌∙◌, arith}
use Rattle.std.specs.Prelude.{cond, is_some}
use Rattle.std.specs.List.{count_by}
use Rattle.std.proofs.lemmas.List.Sums.{sum_by-cons}
use Rattle.of_code.specs.declared.item.Item.{Item}
use Rattle.of_code.specs.Numbering.{items_between}

-- whether an item begins at a cell, as a number
abbrev one_item : Option Item → ℕ
one_item cell = cond (is_some cell) 1 0

first_counted :
    (xs : List (Option Item)) (i n : ℕ) →
    count_by is_some (take (suc n) (drop i xs))
    ≡ one_item (get_or xs i None) + count_by is_some (take n (drop (suc i) xs))
first_counted [] zero zero = refl
first_counted [] zero (suc n) = refl
first_counted [] (suc i) zero = refl
first_counted [] (suc i) (suc n) = refl
first_counted (x ∷ xs) zero n = sum_by-cons one_item x (take n xs)
first_counted (x ∷ xs) (suc i) n = first_counted xs i n

-- the item of the first cell, and those behind it
pub between_more :
    (xs : List (Option Item)) (i j : ℕ) → i < j →
    items_between i j xs ≡ cond (is_some (get_or xs i None)) 1 0 + items_between (i + 1) j xs
between_more xs i j l =
    let first : j - i ≡ suc (j - (i + 1)) = omega (arith, l) in
    let next : suc i ≡ i + 1 = omega arith in
    ap (λ n. count_by is_some (take n (drop i xs))) first
    ∙ first_counted xs i (j - (i + 1))
    ∙ ap (λ n. one_item (get_or xs i None) + count_by is_some (take (j - (i + 1)) (drop n xs))) next
