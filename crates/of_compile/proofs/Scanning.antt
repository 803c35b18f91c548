-- Targets set cell by cell, the last cell first.
use Rattle.std.proofs.Common.{◌≡◌, ℕ, ◌<◌, ◌≤◌, zero, suc, false, List, [], ◌∷◌, ◌++◌, length, take, drop}
use Rattle.std.proofs.Common.{get_or, set, Option, Some, None, refl, sym, ap, ◌∙◌, arith}
use Rattle.std.specs.Prelude.{map, if◌then◌else◌}
use Rattle.of_code.specs.declared.item.Place.{Place}
use Rattle.of_code.specs.declared.item.Item.{Item}
use Rattle.of_code.specs.Items.{with_target}
use Rattle.of_code.specs.Code.{Code, item_in}
use Rattle.of_compile.specs.declared.waiting.Waiting.{Waiting}
use Rattle.of_compile.specs.Coding.{aimed_cell, aimed_from, place_of, waits}

set_same : (xs : List (Option Item)) (i : ℕ) → set xs i (get_or xs i None) ≡ xs
set_same [] i = refl
set_same (x ∷ xs) zero = refl
set_same (x ∷ xs) (suc i) = ap (λ l. x ∷ l) (set_same xs i)

-- an item that doesn't wait stays
set_other :
    (w : Waiting) (to : Place) (xs : List (Option Item)) (i : ℕ) (item : Item) → get_or xs i None ≡ Some item →
    waits w item ≡ false → set xs i (aimed_cell w to (get_or xs i None)) ≡ xs
set_other w to xs i item e f =
    ap (λ c. set xs i (aimed_cell w to c)) e ∙ ap (λ b. set xs i (Some (if b then with_target item to else item))) f
    ∙ ap (set xs i) (sym e) ∙ set_same xs i

set_empty :
    (w : Waiting) (to : Place) (xs : List (Option Item)) (i : ℕ) → get_or xs i None ≡ None →
    set xs i (aimed_cell w to (get_or xs i None)) ≡ xs
set_empty w to xs i e = ap (λ c. set xs i (aimed_cell w to c)) e ∙ ap (set xs i) (sym e) ∙ set_same xs i

-- code with the cell at a place aimed
abbrev pub aimed_at : Waiting → Place → Place → Code → Code
aimed_at w at to c = record c { cells = set c.cells at.cell (aimed_cell w to (item_in c at)) }

pub other_stays :
    (w : Waiting) (at to : Place) (c : Code) (item : Item) → item_in c at ≡ Some item → waits w item ≡ false →
    c ≡ aimed_at w at to c
other_stays w at to c item e f = ap (λ l. record c { cells = l }) (sym (set_other w to c.cells at.cell item e f))

pub empty_stays : (w : Waiting) (at to : Place) (c : Code) → item_in c at ≡ None → c ≡ aimed_at w at to c
empty_stays w at to c e = ap (λ l. record c { cells = l }) (sym (set_empty w to c.cells at.cell e))

-- ---- one cell more

step_cells :
    (w : Waiting) (to : Place) (xs : List (Option Item)) (n : ℕ) → n < length xs →
    set (take (suc n) xs ++ map (aimed_cell w to) (drop (suc n) xs)) n
    (aimed_cell w to (get_or (take (suc n) xs ++ map (aimed_cell w to) (drop (suc n) xs)) n None))
    ≡ take n xs ++ map (aimed_cell w to) (drop n xs)
step_cells w to [] n l = absurd (omega (arith, l))
step_cells w to (x ∷ xs) zero l = refl
step_cells w to (x ∷ xs) (suc n) l = ap (λ k. x ∷ k) (step_cells w to xs n (omega (arith, l)))

past_cells :
    (w : Waiting) (to : Place) (xs : List (Option Item)) (n : ℕ) → length xs ≤ n →
    take n xs ++ map (aimed_cell w to) (drop n xs) ≡ xs
past_cells w to [] zero l = refl
past_cells w to [] (suc n) l = refl
past_cells w to (x ∷ xs) zero l = absurd (omega (arith, l))
past_cells w to (x ∷ xs) (suc n) l = ap (λ k. x ∷ k) (past_cells w to xs n (omega (arith, l)))

pub aimed_step :
    (w : Waiting) (to : Place) (c d e : Code) (n m : ℕ) → n ≡ suc m → m < length c.cells →
    d ≡ aimed_from w (place_of n) to c → e ≡ aimed_at w (place_of m) to d → e ≡ aimed_from w (place_of m) to c
aimed_step w to c d e n m q l g h =
    let i : d ≡ aimed_from w (place_of (suc m)) to c = g ∙ ap (λ k. aimed_from w (place_of k) to c) q in
    h ∙ ap (aimed_at w (place_of m) to) i ∙ ap (λ k. record c { cells = k }) (step_cells w to c.cells m l)

pub aimed_past : (w : Waiting) (to : Place) (c : Code) (n : ℕ) → length c.cells ≤ n → aimed_from w (place_of n) to c ≡ c
aimed_past w to c n l = ap (λ k. record c { cells = k }) (past_cells w to c.cells n l)
