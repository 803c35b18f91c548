-- A walk along a text, component by component.
use Rattle.std.proofs.Common.{◌≡◌, ℕ, ◌==◌, Bool, true, false, List, [], ◌∷◌, Option, Some, None, refl, ap, ◌∙◌}
use Rattle.of_memory.specs.DataSpace.{DataSpace}
use Rattle.of_nodes.specs.declared.tree.Node.{Node}
use Rattle.of_nodes.specs.declared.lookup.Age.{Age}
use Rattle.of_nodes.specs.Lookup.{child_for, from, step_for, walk, way}
use Rattle.of_nodes.specs.Texts.{before, behind, split, with_byte}

-- what follows the first component
abbrev pub rest_of : Option (List ℕ) → List (List ℕ)
rest_of None = []
rest_of (Some xs) = split xs

split_step :
    (t : Bool) (x : ℕ) (xs : List ℕ) → (x == 47) ≡ t → split xs ≡ before 47 xs ∷ rest_of (behind 47 xs)
    → split (x ∷ xs) ≡ before 47 (x ∷ xs) ∷ rest_of (behind 47 (x ∷ xs))
split_step true x xs h ih = rw h refl
split_step false x xs h ih = rw h (ap (with_byte x) ih)

pub split_is : (xs : List ℕ) → split xs ≡ before 47 xs ∷ rest_of (behind 47 xs)
split_is [] = refl
split_is (x ∷ xs) = split_step (x == 47) x xs refl (split_is xs)

walk_is :
    (m : DataSpace) (ns : List Node) (age : Age) (i : ℕ) (xs : List ℕ)
    → walk m ns age i (split xs)
    ≡ from (child_for m ns age i (before 47 xs)) (λ j. walk m ns age j (rest_of (behind 47 xs)))
walk_is m ns age i xs = ap (walk m ns age i) (split_is xs)

pub walk_ends :
    (m : DataSpace) (ns : List Node) (age : Age) (i : ℕ) (xs : List ℕ) → child_for m ns age i (before 47 xs) ≡ None
    → walk m ns age i (split xs) ≡ None
walk_ends m ns age i xs h =
    walk_is m ns age i xs
    ∙ ap (λ (r : Option ℕ). from r (λ j. walk m ns age j (rest_of (behind 47 xs)))) h

pub walk_last :
    (m : DataSpace) (ns : List Node) (age : Age) (i j : ℕ) (xs : List ℕ)
    → child_for m ns age i (before 47 xs) ≡ Some j → behind 47 xs ≡ None → walk m ns age i (split xs) ≡ Some j
walk_last m ns age i j xs h e =
    walk_is m ns age i xs
    ∙ (ap (λ (r : Option ℕ). from r (λ k. walk m ns age k (rest_of (behind 47 xs)))) h
    ∙ ap (λ (r : Option (List ℕ)). walk m ns age j (rest_of r)) e)

pub walk_on :
    (m : DataSpace) (ns : List Node) (age : Age) (i j : ℕ) (xs ys : List ℕ)
    → child_for m ns age i (before 47 xs) ≡ Some j → behind 47 xs ≡ Some ys
    → walk m ns age i (split xs) ≡ walk m ns age j (split ys)
walk_on m ns age i j xs ys h e =
    walk_is m ns age i xs
    ∙ (ap (λ (r : Option ℕ). from r (λ k. walk m ns age k (rest_of (behind 47 xs)))) h
    ∙ ap (λ (r : Option (List ℕ)). walk m ns age j (rest_of r)) e)

pub ruleset walks = (walk_ends, walk_last, walk_on)

-- ---- up or down

way_is :
    (m : DataSpace) (ns : List Node) (i : ℕ) (xs : List ℕ)
    → way m ns i (split xs)
    ≡ from (step_for m ns i (before 47 xs)) (λ j. way m ns j (rest_of (behind 47 xs)))
way_is m ns i xs = ap (way m ns i) (split_is xs)

pub way_ends :
    (m : DataSpace) (ns : List Node) (i : ℕ) (xs : List ℕ) → step_for m ns i (before 47 xs) ≡ None
    → way m ns i (split xs) ≡ None
way_ends m ns i xs h =
    way_is m ns i xs ∙ ap (λ (r : Option ℕ). from r (λ j. way m ns j (rest_of (behind 47 xs)))) h

pub way_last :
    (m : DataSpace) (ns : List Node) (i j : ℕ) (xs : List ℕ) → step_for m ns i (before 47 xs) ≡ Some j
    → behind 47 xs ≡ None → way m ns i (split xs) ≡ Some j
way_last m ns i j xs h e =
    way_is m ns i xs
    ∙ (ap (λ (r : Option ℕ). from r (λ k. way m ns k (rest_of (behind 47 xs)))) h
    ∙ ap (λ (r : Option (List ℕ)). way m ns j (rest_of r)) e)

pub way_on :
    (m : DataSpace) (ns : List Node) (i j : ℕ) (xs ys : List ℕ) → step_for m ns i (before 47 xs) ≡ Some j
    → behind 47 xs ≡ Some ys → way m ns i (split xs) ≡ way m ns j (split ys)
way_on m ns i j xs ys h e =
    way_is m ns i xs
    ∙ (ap (λ (r : Option ℕ). from r (λ k. way m ns k (rest_of (behind 47 xs)))) h
    ∙ ap (λ (r : Option (List ℕ)). way m ns j (rest_of r)) e)

pub ruleset ways = (way_ends, way_last, way_on)
