-- The items of a whole nest leave nothing open, and each of them may stand where it does.
use Rattle.std.proofs.Common.{◌≡◌, ℕ, ◌+◌, ◌-◌, ◌<◌, true, List, [], ◌∷◌, ◌++◌, Option, Some, None}
use Rattle.std.proofs.Common.{nat_eq, nat_lt, refl, sym, ap, ◌∙◌, arith}
use Rattle.std.specs.Prelude.{option_and_then}
use Rattle.std.proofs.lemmas.Bool.Decides.{nat_tests}
use Rattle.of_source.specs.declared.nesting.Part.{Part}
use Rattle.of_source.specs.declared.nesting.Part.TheVariants as part
use Rattle.of_source.specs.Items.{Item}
use Rattle.of_source.specs.Items as item
use Rattle.of_source.specs.Nest.{Nest, Stop, Plain, Definition, Defining, If, Else, Then, Begin, Do, Leave, Case, Of}
use Rattle.of_source.specs.Nest.{items_of, open_behind, Fits, IsNested}
use Rattle.of_source.proofs.Kept.{run-append}
use Rattle.of_source.specs.Shapes.{Shape, nothing, floor_of, around_of, closing, run}

same_number : (d n : ℕ) → n ≡ d → nat_eq d n ≡ true
same_number d n e = grind (arith, nat_tests)

less : (f d : ℕ) → f < d → nat_lt f d ≡ true
less f d l = grind (arith, nat_tests)

-- so many branches are open in these parts
abbrev pub shape : ℕ → List (Part × ℕ) → Shape
shape d ps = record { count = d; parts = ps }

-- a part closes that left no branch open
pub closed_part : (k : Part) (n d : ℕ) (ps : List (Part × ℕ)) → n ≡ d → closing k n ((k, d) ∷ ps) ≡ Some (shape d ps)
closed_part part.Definition n d ps e = rw (same_number d n e) (ap (λ m. Some (shape m ps)) e)
closed_part part.Begin n d ps e = ap (λ m. Some (shape m ps)) e
closed_part part.Do n d ps e = rw (same_number d n e) (ap (λ m. Some (shape m ps)) e)
closed_part part.Case n d ps e = rw (same_number d n e) (ap (λ m. Some (shape m ps)) e)
closed_part part.Of n d ps e = rw (same_number d n e) (ap (λ m. Some (shape m ps)) e)

-- a nest leaves open what it leaves behind
ran : (x : Nest) (more : List Item) (d : ℕ) (ps : List (Part × ℕ)) → Fits x (around_of ps) (floor_of ps) d
    → run (items_of x more) (shape d ps) ≡ run more (shape (open_behind x d) ps)
ran Stop more d ps h = refl
ran (Plain t r) more d ps h = ran r more d ps h
ran (Defining m t r) more d ps h = rw h.0 (ran r more d ps h.1)
ran (Definition m i r) more d ps h =
    let rest = items_of r more in
    rw h.0 (ran i (item.Semicolon ∷ rest) d ((part.Definition, d) ∷ ps) h.1
    ∙ ap (option_and_then (run rest)) (closed_part part.Definition (open_behind i d) d ps h.2)
    ∙ ran r more d ps h.3)
ran (If l r) more d ps h = ran r more (d + 1) ps h
ran (Else l r) more d ps h = rw (less (floor_of ps) d h.0) (ran r more d ps h.1)
ran (Then r) more d ps h = rw (less (floor_of ps) d h.0) (ran r more (d - 1) ps h.1)
ran (Begin i z l r) more d ps h =
    ran i (item.Back z l ∷ items_of r more) d ((part.Begin, d) ∷ ps) h.0 ∙ ran r more (open_behind i d) ps h.1
ran (Do q k i l m r) more d ps h =
    let rest = items_of r more in
    ran i (item.Loop l m ∷ rest) d ((part.Do, d) ∷ ps) h.0
    ∙ ap (option_and_then (run rest)) (closed_part part.Do (open_behind i d) d ps h.1)
    ∙ ran r more d ps h.2
ran (Leave r) more d ps h = rw h.0 (ran r more d ps h.1)
ran (Case i r) more d ps h =
    let rest = items_of r more in
    ran i (item.EndCase ∷ rest) d ((part.Case, d) ∷ ps) h.0
    ∙ ap (option_and_then (run rest)) (closed_part part.Case (open_behind i d) d ps h.1)
    ∙ ran r more d ps h.2
ran (Of k i m r) more d ps h =
    let rest = items_of r more in
    rw (h.0, same_number (floor_of ps) d (sym h.1)) (ran i (item.EndOf m ∷ rest) d ((part.Of, d) ∷ ps) h.2
    ∙ ap (option_and_then (run rest)) (closed_part part.Of (open_behind i d) d ps h.3)
    ∙ ran r more d ps h.4)

-- the items of a whole nest leave nothing open
pub nested_runs : (is : List Item) → IsNested is → run is nothing ≡ Some nothing
nested_runs is h =
    ap (λ (js : List Item). run js nothing) h.1 ∙ ran h.0 [] 0 [] h.2.0
    ∙ ap (λ m. Some (shape m [])) h.2.1

first_runs : (r : Option Shape) (f : Shape → Option Shape) (o : Shape) → option_and_then f r ≡ Some o
    → (p : Shape) × (r ≡ Some p)
first_runs None f o h = absurd cc
first_runs (Some p) f o h = (p, refl)

-- where items fit, those before fit
pub earlier_runs : (xs ys : List Item) (o : Shape) → run (xs ++ ys) nothing ≡ Some o
    → (p : Shape) × (run xs nothing ≡ Some p)
earlier_runs xs ys o h = first_runs (run xs nothing) (run ys) o (sym (run-append xs ys nothing) ∙ h)

-- where items fit behind others, they fit in what those leave open
pub later_run : (xs ys : List Item) (p o : Shape) → run xs nothing ≡ Some p → run (xs ++ ys) nothing ≡ Some o
    → run ys p ≡ Some o
later_run xs ys p o e h = sym (ap (option_and_then (run ys)) e) ∙ sym (run-append xs ys nothing) ∙ h
