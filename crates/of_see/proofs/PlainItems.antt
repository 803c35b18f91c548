-- Items that go on at the next one, as they are printed.
use Rattle.std.proofs.Common.{◌≡◌, ◌+◌, ◌++◌, ℕ, Bool, false, List, [], ◌∷◌, map, Option, Some, None, refl, ap}
use Rattle.std.proofs.Common.{◌∙◌, arith}
use Rattle.std.specs.Prelude.{cond, replicate}
use Rattle.std.proofs.lemmas.List.Sums.{sum_by-cons}
use Rattle.of_code.specs.declared.item.Item.{Item}
use Rattle.of_code.specs.declared.item.Item.TheVariants as I
use Rattle.of_compile.specs.declared.element.Element.{Element}
use Rattle.of_compile.specs.declared.element.Element.TheVariants as E
use Rattle.of_compile.specs.declared.element.PlainItem.{PlainItem}
use Rattle.of_compile.specs.declared.element.PlainItem.TheVariants as P
use Rattle.of_see.specs.SeeItems.{Open, begins, branches_to, elements_from}
use Rattle.of_see.specs.Laws.{PlainItemsAreListed, laid}

-- nothing is open
abbrev none_open : Open
none_open = record { branches = []; cases = [] }

-- 1 where a test passes
abbrev unit_if : Bool → ℕ
unit_if b = cond b 1 0

begins_cons : (p : ℕ) (cell : Option Item) (cells : List (Option Item)) → branches_to p cell ≡ false
    → begins p cells ≡ 0 → begins p (cell ∷ cells) ≡ 0
begins_cons p cell cells not none =
    let sum = sum_by-cons (λ c. cond (branches_to p c) 1 0) cell cells in
    let zero : unit_if (branches_to p cell) ≡ 0 = ap unit_if not in
    omega (arith, sum, zero, none)

gap : (p : ℕ) (cells : List (Option Item)) → begins p cells ≡ 0 → begins p (None ∷ cells) ≡ 0
gap p cells none = begins_cons p None cells refl none

-- none goes back
none_back : (p : ℕ) (ks : List PlainItem) → begins p (laid ks) ≡ 0
none_back p [] = refl
none_back p (P.Operation xt ∷ ks) = begins_cons p (Some (I.Operation xt)) (laid ks) refl (none_back p ks)
none_back p (P.Literal x ∷ ks) =
    begins_cons p (Some (I.Literal x)) (None ∷ laid ks) refl (gap p (laid ks) (none_back p ks))
none_back p (P.String address n ∷ ks) =
    begins_cons p (Some (I.String address n)) (None ∷ None ∷ laid ks) refl
    (gap p (None ∷ laid ks) (gap p (laid ks) (none_back p ks)))
none_back p (P.Call xt ∷ ks) = begins_cons p (Some (I.Call xt)) (laid ks) refl (none_back p ks)
none_back p (P.Store xt ∷ ks) =
    begins_cons p (Some (I.Store xt)) (None ∷ laid ks) refl (gap p (laid ks) (none_back p ks))

-- the elements of one item, with no `begin` before them
abbrev with_begins : ℕ → Element → List Element → List Element
with_begins n e es = (replicate n (E.Mark None) ++ e ∷ []) ++ es

listed : (first : ℕ) (all : List (Option Item)) (p : ℕ) (ks : List PlainItem)
    → elements_from first all p (laid ks) none_open ≡ map (λ k. E.Plain k) ks
listed first all p [] = refl
listed first all p (P.Operation xt ∷ ks) =
    ap (λ n. with_begins n (E.Plain (P.Operation xt)) (elements_from first all (p + 1) (laid ks) none_open))
    (none_back p (P.Operation xt ∷ ks))
    ∙ ap (λ es. E.Plain (P.Operation xt) ∷ es) (listed first all (p + 1) ks)
listed first all p (P.Literal x ∷ ks) =
    ap (λ n. with_begins n (E.Plain (P.Literal x)) (elements_from first all (p + 1 + 1) (laid ks) none_open))
    (none_back p (P.Literal x ∷ ks))
    ∙ ap (λ es. E.Plain (P.Literal x) ∷ es) (listed first all (p + 1 + 1) ks)
listed first all p (P.String address n ∷ ks) =
    ap (λ c. with_begins c (E.Plain (P.String address n))
    (elements_from first all (p + 1 + 1 + 1) (laid ks) none_open)) (none_back p (P.String address n ∷ ks))
    ∙ ap (λ es. E.Plain (P.String address n) ∷ es) (listed first all (p + 1 + 1 + 1) ks)
listed first all p (P.Call xt ∷ ks) =
    ap (λ n. with_begins n (E.Plain (P.Call xt)) (elements_from first all (p + 1) (laid ks) none_open))
    (none_back p (P.Call xt ∷ ks))
    ∙ ap (λ es. E.Plain (P.Call xt) ∷ es) (listed first all (p + 1) ks)
listed first all p (P.Store xt ∷ ks) =
    ap (λ n. with_begins n (E.Plain (P.Store xt)) (elements_from first all (p + 1 + 1) (laid ks) none_open))
    (none_back p (P.Store xt ∷ ks))
    ∙ ap (λ es. E.Plain (P.Store xt) ∷ es) (listed first all (p + 1 + 1) ks)

pub plain_items_are_listed : PlainItemsAreListed
plain_items_are_listed first ks = listed first (laid ks) first ks
