-- The elements of a definition, cell by cell.
use Rattle.std.proofs.Common.{◌≡◌, ◌+◌, ◌++◌, ℕ, List, ◌∷◌, drop, Option, ap, sym, ◌∙◌, arith}
use Rattle.std.proofs.lemmas.List.{append_assoc}
use Rattle.of_code.specs.declared.item.Item.{Item}
use Rattle.of_compile.specs.declared.element.Element.{Element}
use Rattle.of_see.specs.SeeItems.{Open, begins, cell_elements, elements_from, open_after}

-- what a cell gives was appended
pub goes_on : (first k : ℕ) (all : List (Option Item)) (cell : Option Item) (count : ℕ) (o new : Open)
    → (out after whole : List Element) → drop k all ≡ cell ∷ drop (k + 1) all
    → count ≡ begins (first + k) (drop k all) → after ≡ out ++ cell_elements first all (first + k) cell count o
    → new ≡ open_after (first + k) cell o → out ++ elements_from first all (first + k) (drop k all) o ≡ whole
    → after ++ elements_from first all (first + (k + 1)) (drop (k + 1) all) new ≡ whole
goes_on first k all cell count o new out after whole here counts appended opens shown =
    let next : first + (k + 1) ≡ first + k + 1 = omega arith in
    let more = drop (k + 1) all in
    let begun : count ≡ begins (first + k) (cell ∷ more) = counts ∙ ap (begins (first + k)) here in
    let own = cell_elements first all (first + k) cell (begins (first + k) (cell ∷ more)) o in
    let rest = elements_from first all (first + k + 1) more (open_after (first + k) cell o) in
    ap (λ p. after ++ elements_from first all p more new) next
    ∙ ap (λ s. after ++ elements_from first all (first + k + 1) more s) opens
    ∙ ap (λ e. e ++ rest) (appended ∙ ap (λ n. out ++ cell_elements first all (first + k) cell n o) begun)
    ∙ append_assoc out own rest
    ∙ ap (λ cells. out ++ elements_from first all (first + k) cells o) (sym here)
    ∙ shown
