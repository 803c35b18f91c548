-- Each element compiles as many items as it leaves, and its plain items, also after a misfit.
use Rattle.std.proofs.Common.{sym, ◌≡◌, ℕ, zero, suc, List, [], ◌∷◌, ◌++◌, length, refl, ap, ◌∙◌, arith, length-append}
use Rattle.std.specs.Prelude.{map, take, drop}
use Rattle.std.proofs.lemmas.List.{append-nil, length-map, length_push, take-append-drop}
use Rattle.of_control.specs.Element.{Element}
use Rattle.of_control.specs.Items.{Item, Perform}
use Rattle.of_control.specs.Items.{item_count, performed, plain_items}
use Rattle.of_control.specs.Law.{ItemsAreCounted}
use Rattle.of_control.specs.Compiling.{compiled, from_item, with_target_at}

pub length-with_target_at : {A : Type 0} → (n t : ℕ) (is : List (Item A)) → length (with_target_at n t is) ≡ length is
length-with_target_at zero t (i ∷ is) = refl
length-with_target_at (suc n) t (i ∷ is) = ap suc (length-with_target_at n t is)
length-with_target_at _ t [] = refl

length-from_item :
    {A : Type 0} → (n : ℕ) (f : Item A → Item A) (is : List (Item A)) → length (from_item n f is) ≡ length is
length-from_item n f is =
    let whole : length (take n is ++ drop n is) ≡ length is = ap length (take-append-drop n is) in
    omega (
      arith,
      length-append (take n is) (map f (drop n is)),
      length-map (drop n is) f,
      length-append (take n is)
          (drop n is),
      whole,
    )

counted : {A : Type 0} → (limit : ℕ) (es : List (Element A)) → length (compiled limit es) ≡ item_count es
counted limit [] = refl
counted limit (e ∷ es) = grind (arith, counted limit es, length_push, length-with_target_at, length-from_item)

-- ---- plain items

plain-append : {A : Type 0} → (xs ys : List (Item A)) → plain_items (xs ++ ys) ≡ plain_items xs ++ plain_items ys
plain-append [] ys = refl
plain-append (Perform k ∷ xs) ys = ap (λ l. k ∷ l) (plain-append xs ys)
plain-append (_ ∷ xs) ys = plain-append xs ys

-- a change that keeps a plain item and makes no other one
abbrev IsKeeping : {A : Type 0} → (Item A → Item A) → Type 0
IsKeeping {A = A} f = (i : Item A) (is : List (Item A)) → plain_items (f i ∷ is) ≡ plain_items (i ∷ is)

plain-with_target_at :
    {A : Type 0} → (n t : ℕ) (is : List (Item A)) → plain_items (with_target_at n t is) ≡ plain_items is
plain-with_target_at zero t (i ∷ is) = grind arith
plain-with_target_at (suc n) t (i ∷ is) = grind (arith, plain-with_target_at n t is, plain-append)
plain-with_target_at _ t [] = refl

plain-map :
    {A : Type 0} → (f : Item A → Item A) → IsKeeping f → (is : List (Item A)) → plain_items (map f is) ≡ plain_items is
plain-map f h [] = refl
plain-map f h (i ∷ is) = grind (arith, plain-map f h is, plain-append)

plain-from_item :
    {A : Type 0} → (n : ℕ) (f : Item A → Item A) → IsKeeping f → (is : List (Item A)) →
    plain_items (from_item n f is) ≡ plain_items is
plain-from_item n f h is =
    plain-append (take n is) (map f (drop n is))
    ∙ ap (λ l. plain_items (take n is) ++ l) (plain-map f h (drop n is))
    ∙ sym (plain-append (take n is) (drop n is))
    ∙ ap plain_items (take-append-drop n is)

plain : {A : Type 0} → (limit : ℕ) (es : List (Element A)) → plain_items (compiled limit es) ≡ performed es
plain limit [] = refl
plain limit (e ∷ es) = grind (arith, plain limit es, plain-append, plain-with_target_at, plain-from_item, append-nil)

pub items_are_counted : (A : Type 0) (limit : ℕ) → ItemsAreCounted A limit
items_are_counted A limit = record { count = counted limit; plain = plain limit }
