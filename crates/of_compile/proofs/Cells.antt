-- Items in cells: what changes one item's target, or that of all that wait, changes the list of items so.
use Rattle.std.proofs.Common.{◌≡◌, ◌-◌, ℕ, ◌+◌, ◌<◌, zero, suc, Bool, true, false, List, [], ◌∷◌, ◌++◌, length, take}
use Rattle.std.proofs.Common.{drop, get_or, set, Option, Some, None, refl, sym, ap, ◌∙◌, arith, append_assoc}
use Rattle.std.proofs.Common.{length-append}
use Rattle.std.specs.Prelude.{map, if◌then◌else◌}
use Rattle.std.proofs.lemmas.List.{map-append, take-append-drop}
use Rattle.std.proofs.Math.Seq.{take-append_seam, drop-append_seam}
use Rattle.of_code.specs.declared.item.Place.{Place}
use Rattle.of_code.specs.declared.item.Item.{Item}
use Rattle.of_code.specs.declared.item.Item.TheVariants.{Branch, BranchIfZero, Call, Do, EndCase, EndOf, Leave, Literal}
use Rattle.of_code.specs.declared.item.Item.TheVariants.{Loop, Of, Operation, PlusLoop, QuestionDo, Return, Store}
use Rattle.of_code.specs.declared.item.Item.TheVariants.{String}
use Rattle.of_code.specs.Items.{cells_of, laid_out, with_target}
use Rattle.of_code.specs.Code.{retargeted_item}
use Rattle.of_compile.specs.declared.waiting.Waiting.{Waiting}
use Rattle.of_compile.specs.Coding.{aimed, aimed_cell, waits}
use Rattle.of_compile.specs.Layout.{laid_items, total}

pub record IsLaid (item : Item) : Type 0 where
  pub begins : laid_out item ≡ Some item ∷ take (cells_of item - 1) (None ∷ None ∷ [])
  pub size : length (laid_out item) ≡ cells_of item

pub laid : (item : Item) → IsLaid item
laid (Operation xt) = record { begins = refl; size = refl }
laid (Literal x) = record { begins = refl; size = refl }
laid (String address n) = record { begins = refl; size = refl }
laid (Call xt) = record { begins = refl; size = refl }
laid (Store xt) = record { begins = refl; size = refl }
laid (Branch to) = record { begins = refl; size = refl }
laid (BranchIfZero to) = record { begins = refl; size = refl }
laid (Do to) = record { begins = refl; size = refl }
laid (QuestionDo to) = record { begins = refl; size = refl }
laid (Loop to) = record { begins = refl; size = refl }
laid (PlusLoop to) = record { begins = refl; size = refl }
laid (Leave to) = record { begins = refl; size = refl }
laid (Of to) = record { begins = refl; size = refl }
laid (EndOf to) = record { begins = refl; size = refl }
laid EndCase = record { begins = refl; size = refl }
laid Return = record { begins = refl; size = refl }

pub cells_of-with_target : (item : Item) (to : Place) → cells_of (with_target item to) ≡ cells_of item
cells_of-with_target (Operation xt) to = refl
cells_of-with_target (Literal x) to = refl
cells_of-with_target (String address n) to = refl
cells_of-with_target (Call xt) to = refl
cells_of-with_target (Store xt) to = refl
cells_of-with_target (Branch from) to = refl
cells_of-with_target (BranchIfZero from) to = refl
cells_of-with_target (Do from) to = refl
cells_of-with_target (QuestionDo from) to = refl
cells_of-with_target (Loop from) to = refl
cells_of-with_target (PlusLoop from) to = refl
cells_of-with_target (Leave from) to = refl
cells_of-with_target (Of from) to = refl
cells_of-with_target (EndOf from) to = refl
cells_of-with_target EndCase to = refl
cells_of-with_target Return to = refl

cells_of-if : (b : Bool) (item : Item) (to : Place) → cells_of (if b then with_target item to else item) ≡ cells_of item
cells_of-if true item to = cells_of-with_target item to
cells_of-if false item to = refl

pub cells_of-aimed : (w : Waiting) (to : Place) (item : Item) → cells_of (aimed w to item) ≡ cells_of item
cells_of-aimed w to item = cells_of-if (waits w item) item to

-- the cells of an item begin with it
laid_as : (item : Item) (n : ℕ) → cells_of item ≡ n → laid_out item ≡ Some item ∷ take (n - 1) (None ∷ None ∷ [])
laid_as item n e = (laid item).begins ∙ ap (λ k. Some item ∷ take (k - 1) (None ∷ None ∷ [])) e

map-nones :
    (w : Waiting) (to : Place) (n : ℕ) → map (aimed_cell w to) (take n (None ∷ None ∷ [])) ≡ take n (None ∷ None ∷ [])
map-nones w to zero = refl
map-nones w to (suc zero) = refl
map-nones w to (suc (suc zero)) = refl
map-nones w to (suc (suc (suc n))) = refl

aimed-laid_out :
    (w : Waiting) (to : Place) (item : Item) → map (aimed_cell w to) (laid_out item) ≡ laid_out (aimed w to item)
aimed-laid_out w to item =
    ap (map (aimed_cell w to)) (laid item).begins
    ∙ ap (λ l. Some (aimed w to item) ∷ l) (map-nones w to (cells_of item - 1))
    ∙ sym (laid_as (aimed w to item) (cells_of item) (cells_of-aimed w to item))

pub aimed-laid_items :
    (w : Waiting) (to : Place) (xs : List Item) →
    map (aimed_cell w to) (laid_items xs) ≡ laid_items (map (aimed w to) xs)
aimed-laid_items w to [] = refl
aimed-laid_items w to (x ∷ xs) =
    map-append (aimed_cell w to) (laid_out x) (laid_items xs)
    ∙ ap (λ l. l ++ map (aimed_cell w to) (laid_items xs)) (aimed-laid_out w to x)
    ∙ ap (λ l. laid_out (aimed w to x) ++ l) (aimed-laid_items w to xs)

pub laid_items-append : (xs ys : List Item) → laid_items (xs ++ ys) ≡ laid_items xs ++ laid_items ys
laid_items-append [] ys = refl
laid_items-append (x ∷ xs) ys =
    ap (λ l. laid_out x ++ l) (laid_items-append xs ys)
    ∙ sym (append_assoc (laid_out x) (laid_items xs) (laid_items ys))

pub length-laid_items : (xs : List Item) → length (laid_items xs) ≡ total (map cells_of xs)
length-laid_items [] = refl
length-laid_items (x ∷ xs) =
    omega (arith, length-append (laid_out x) (laid_items xs), (laid x).size, length-laid_items xs)

pub sizes_upto : (n : ℕ) (xs : List Item) → map cells_of (take n xs) ≡ take n (map cells_of xs)
sizes_upto zero xs = refl
sizes_upto (suc n) [] = refl
sizes_upto (suc n) (x ∷ xs) = ap (λ l. cells_of x ∷ l) (sizes_upto n xs)

seam :
    (w : Waiting) (to : Place) (a r : List (Option Item)) (from : ℕ) → from ≡ length a →
    take from (a ++ r) ++ map (aimed_cell w to) (drop from (a ++ r)) ≡ a ++ map (aimed_cell w to) r
seam w to a r from e =
    ap (λ n. take n (a ++ r) ++ map (aimed_cell w to) (drop n (a ++ r))) e
    ∙ ap (λ l. l ++ map (aimed_cell w to) (drop (length a) (a ++ r))) (take-append_seam a r)
    ∙ ap (λ l. a ++ map (aimed_cell w to) l) (drop-append_seam a r)

-- all that wait from item n on
pub aimed-from :
    (w : Waiting) (to : Place) (front : List (Option Item)) (xs : List Item) (n from : ℕ) →
    from ≡ length front + total (take n (map cells_of xs)) →
    take from (front ++ laid_items xs) ++ map (aimed_cell w to) (drop from (front ++ laid_items xs))
    ≡ front ++ laid_items (take n xs ++ map (aimed w to) (drop n xs))
aimed-from w to front xs n from e =
    let a = front ++ laid_items (take n xs) in
    let r = laid_items (drop n xs) in
    let whole : front ++ laid_items xs ≡ a ++ r =
    ap (λ l. front ++ laid_items l) (sym (take-append-drop n xs))
    ∙ ap (λ l. front ++ l) (laid_items-append (take n xs) (drop n xs))
    ∙ sym (append_assoc front (laid_items (take n xs)) r) in
    let there : from ≡ length a =
    e ∙ ap (λ l. length front + total l) (sym (sizes_upto n xs))
    ∙ ap (λ k. length front + k) (sym (length-laid_items (take n xs)))
    ∙ sym (length-append front (laid_items (take n xs))) in
    ap (λ l. take from l ++ map (aimed_cell w to) (drop from l)) whole
    ∙ seam w to a r from there
    ∙ ap (λ l. a ++ l) (aimed-laid_items w to (drop n xs))
    ∙ append_assoc front (laid_items (take n xs)) (laid_items (map (aimed w to) (drop n xs)))
    ∙ ap (λ l. front ++ l) (sym (laid_items-append (take n xs) (map (aimed w to) (drop n xs))))

-- item n with another target
abbrev pub aim_nth : ℕ → Place → List Item → List Item
aim_nth n to [] = []
aim_nth zero to (x ∷ xs) = with_target x to ∷ xs
aim_nth (suc n) to (x ∷ xs) = x ∷ aim_nth n to xs

-- the cell at p with another target
abbrev set_at : ℕ → Place → List (Option Item) → List (Option Item)
set_at p to cells = set cells p (retargeted_item (get_or cells p None) to)

past_front :
    (front rest : List (Option Item)) (p q : ℕ) (to : Place) → p ≡ length front + q →
    set_at p to (front ++ rest) ≡ front ++ set_at q to rest
past_front [] rest p q to e = ap (λ n. set_at n to rest) (omega (arith, e))
past_front (x ∷ front) rest zero q to e = absurd (omega (arith, e))
past_front (x ∷ front) rest (suc p) q to e = ap (λ l. x ∷ l) (past_front front rest p q to (omega (arith, e)))

set_first :
    (x : Item) (rest : List (Option Item)) (to : Place) →
    set_at 0 to (laid_out x ++ rest) ≡ laid_out (with_target x to) ++ rest
set_first x rest to =
    ap (λ l. set_at 0 to (l ++ rest)) (laid x).begins
    ∙ ap (λ l. l ++ rest) (sym (laid_as (with_target x to) (cells_of x) (cells_of-with_target x to)))

set_nth :
    (xs : List Item) (n p : ℕ) (to : Place) → n < length xs → p ≡ total (take n (map cells_of xs)) →
    set_at p to (laid_items xs) ≡ laid_items (aim_nth n to xs)
set_nth [] n p to l e = absurd (omega (arith, l))
set_nth (x ∷ xs) zero p to l e = ap (λ k. set_at k to (laid_out x ++ laid_items xs)) e ∙ set_first x (laid_items xs) to
set_nth (x ∷ xs) (suc n) p to l e =
    past_front (laid_out x) (laid_items xs) p (total (take n (map cells_of xs))) to (omega (arith, e, (laid x).size))
    ∙ ap (λ k. laid_out x ++ k) (set_nth xs n (total (take n (map cells_of xs))) to (omega (arith, l)) refl)

pub set-laid :
    (front : List (Option Item)) (xs : List Item) (n p : ℕ) (to : Place) → n < length xs →
    p ≡ length front + total (take n (map cells_of xs)) →
    set (front ++ laid_items xs) p (retargeted_item (get_or (front ++ laid_items xs) p None) to)
    ≡ front ++ laid_items (aim_nth n to xs)
set-laid front xs n p to l e =
    past_front front (laid_items xs) p (total (take n (map cells_of xs))) to e
    ∙ ap (λ k. front ++ k) (set_nth xs n (total (take n (map cells_of xs))) to l refl)

pub sizes-aim_nth : (n : ℕ) (to : Place) (xs : List Item) → map cells_of (aim_nth n to xs) ≡ map cells_of xs
sizes-aim_nth n to [] = refl
sizes-aim_nth zero to (x ∷ xs) = ap (λ k. k ∷ map cells_of xs) (cells_of-with_target x to)
sizes-aim_nth (suc n) to (x ∷ xs) = ap (λ l. cells_of x ∷ l) (sizes-aim_nth n to xs)

sizes-all : (w : Waiting) (to : Place) (xs : List Item) → map cells_of (map (aimed w to) xs) ≡ map cells_of xs
sizes-all w to [] = refl
sizes-all w to (x ∷ xs) =
    ap (λ k. k ∷ map cells_of (map (aimed w to) xs)) (cells_of-aimed w to x)
    ∙ ap (λ l. cells_of x ∷ l) (sizes-all w to xs)

pub sizes-aimed_from :
    (w : Waiting) (to : Place) (n : ℕ) (xs : List Item) →
    map cells_of (take n xs ++ map (aimed w to) (drop n xs)) ≡ map cells_of xs
sizes-aimed_from w to zero xs = sizes-all w to xs
sizes-aimed_from w to (suc n) [] = refl
sizes-aimed_from w to (suc n) (x ∷ xs) = ap (λ l. cells_of x ∷ l) (sizes-aimed_from w to n xs)
