-- Where an item may stand, its word goes on.
use Rattle.std.proofs.Common.{◌≡◌, ℕ, suc, Bool, true, false, not, ◌&&◌, List, [], ◌∷◌, length, Option}
use Rattle.std.proofs.lemmas.Bool.{and_parts}
use Rattle.std.proofs.Common.{Some, None, nat_eq, nat_lt, if◌then◌else◌, refl, sym, ap, ◌∙◌, arith}
use Rattle.std.specs.Prelude.{option_and_then, is_some}
use Rattle.std.specs.List.{list_all}
use Rattle.of_source.specs.declared.keyword.Definer.{Definer}
use Rattle.of_source.specs.declared.keyword.Definer.TheVariants as definer
use Rattle.of_source.specs.declared.nesting.Part.{Part}
use Rattle.of_source.specs.declared.nesting.Part.TheVariants as part
use Rattle.of_source.specs.declared.nesting.Frame.{Frame}
use Rattle.of_source.specs.Items.{Item, Made}
use Rattle.of_source.specs.Items as item
use Rattle.of_source.specs.Effects.{making_of}
use Rattle.of_source.specs.Nesting.{Nesting, is_same, floor, is_in, without_branch, without_begin, without_part}
use Rattle.of_source.specs.Nesting.{then_without_branch, then_with_branch, opened_if, in_definition, in_loop, on_case}
use Rattle.of_source.specs.Nesting.{all_definitions, is_straight, is_closed, with_part}
use Rattle.of_source.specs.Shapes.{Shape, nothing, floor_of, around_of, is_even, closing, run, shape_of}
use Rattle.of_source.specs.Written.{IsStraight}
use Rattle.of_source.proofs.Kept.{shapes, defines-shapes, loops-shapes, cases-shapes, floor-shapes}
use Rattle.of_source.proofs.ShapeLemmas.{when_some, not_true}

-- an item may stand where these are open
abbrev pub MayStand : List Item → Nesting → Type 0
MayStand is n = (o : Shape) × (run is (shape_of n) ≡ Some o)

some_if : (b : Bool) (n : Nesting) → b ≡ true → is_some (if b then Some n else None) ≡ true
some_if b n h = rw h refl

-- ---- branches

branch_there : (n : Nesting) → nat_lt (floor_of (shapes n.parts)) (length n.branches) ≡ true
    → is_some (without_branch n) ≡ true
branch_there n h = some_if _ _ (ap (λ f. nat_lt f (length n.branches)) (sym (floor-shapes n.parts)) ∙ h)

pub then_goes : (n : Nesting) → MayStand (item.Then ∷ []) n → is_some (without_branch n) ≡ true
then_goes n h =
    branch_there n (when_some (nat_lt (floor_of (shapes n.parts)) (length n.branches)) _ (run []) h.0 h.1).0

another : (l : ℕ) (o : Option Nesting) → is_some o ≡ true → is_some (then_with_branch l o) ≡ true
another l None h = absurd cc
another l (Some n) h = refl

pub else_goes : (l : ℕ) (n : Nesting) → MayStand (item.Else l ∷ []) n
    → is_some (then_with_branch l (without_branch n)) ≡ true
else_goes l n h =
    another l (without_branch n)
    (branch_there n (when_some (nat_lt (floor_of (shapes n.parts)) (length n.branches)) _ (run []) h.0 h.1).0)

-- ---- parts

begin_at : (bs : List ℕ) (fs : List Frame) (k : Shape → Option Shape) (o : Shape)
    → option_and_then k (closing part.Begin (length bs) (shapes fs)) ≡ Some o
    → (m : Nesting) × (without_begin (record { branches = bs; parts = fs }) ≡ Some m) × (k (shape_of m) ≡ Some o)
begin_at bs [] k o h = absurd cc
begin_at bs (f ∷ fs) k o h =
    let m : Nesting = record { branches = bs; parts = fs } in
    let w = when_some (is_same f.part part.Begin && true) (shape_of m) k o h in
    let e : is_same f.part part.Begin ≡ true = (and_parts (is_same f.part part.Begin) true w.0).0 in
    (m, rw e refl, w.1)

pub back_goes : (z : Bool) (l : ℕ) (n : Nesting) → MayStand (item.Back z l ∷ []) n → is_some (without_begin n) ≡ true
back_goes z l n h = ap is_some (begin_at n.branches n.parts (run []) h.0 h.1).1

pub repeat_goes : (l : ℕ) (n : Nesting) → MayStand (item.Back false l ∷ item.Then ∷ []) n
    → is_some (then_without_branch (without_begin n)) ≡ true
repeat_goes l n h =
    let w = begin_at n.branches n.parts (run (item.Then ∷ [])) h.0 h.1 in
    ap (λ o. is_some (then_without_branch o)) w.1 ∙ then_goes w.0 (h.0, w.2)

part_at : (k : Part) (bs : List ℕ) (fs : List Frame) (o : Shape) → ((b c : ℕ) → is_even k b c ≡ nat_eq b c)
    → option_and_then (run []) (closing k (length bs) (shapes fs)) ≡ Some o
    → is_some (without_part k (record { branches = bs; parts = fs })) ≡ true
part_at k bs [] o e h = absurd cc
part_at k bs (f ∷ fs) o e h =
    let w = when_some (is_same f.part k && is_even k f.beneath (length bs)) _ (run []) o h in
    some_if _ _ (ap (λ b. is_same f.part k && b) (sym (e f.beneath (length bs))) ∙ w.0)

pub semicolon_goes : (n : Nesting) → MayStand (item.Semicolon ∷ []) n
    → is_some (without_part part.Definition n) ≡ true
semicolon_goes n h = part_at part.Definition n.branches n.parts h.0 (λ b c. refl) h.1

pub loop_goes : (q : Bool) (l : ℕ) (n : Nesting) → MayStand (item.Loop q l ∷ []) n
    → is_some (without_part part.Do n) ≡ true
loop_goes q l n h = part_at part.Do n.branches n.parts h.0 (λ b c. refl) h.1

pub end_of_goes : (l : ℕ) (n : Nesting) → MayStand (item.EndOf l ∷ []) n → is_some (without_part part.Of n) ≡ true
end_of_goes l n h = part_at part.Of n.branches n.parts h.0 (λ b c. refl) h.1

pub end_case_goes : (n : Nesting) → MayStand (item.EndCase ∷ []) n → is_some (without_part part.Case n) ≡ true
end_case_goes n h = part_at part.Case n.branches n.parts h.0 (λ b c. refl) h.1

pub leave_goes : (n : Nesting) → MayStand (item.Leave ∷ []) n → is_some (opened_if (in_loop n.parts) n) ≡ true
leave_goes n h =
    let w = when_some (around_of (shapes n.parts)).loops (shape_of n) (run []) h.0 h.1 in
    some_if _ _ (sym (loops-shapes n.parts) ∙ w.0)

pub of_goes : (l : ℕ) (n : Nesting) → MayStand (item.Of l ∷ []) n
    → is_some (opened_if (on_case n) (with_part part.Of l n)) ≡ true
of_goes l n h =
    let a : (around_of (shapes n.parts)).cases ≡ is_in part.Case n.parts = cases-shapes n.parts in
    let b : floor_of (shapes n.parts) ≡ floor n.parts = floor-shapes n.parts in
    let w = when_some ((around_of (shapes n.parts)).cases && nat_eq (floor_of (shapes n.parts)) (length n.branches)) _
    (run []) h.0 h.1 in
    let t = and_parts (around_of (shapes n.parts)).cases (nat_eq (floor_of (shapes n.parts)) (length n.branches)) w.0 in
    let c : is_in part.Case n.parts ≡ true = sym a ∙ t.0 in
    let d : nat_eq (floor n.parts) (length n.branches) ≡ true =
    ap (λ f. nat_eq f (length n.branches)) (sym b) ∙ t.1 in
    some_if _ _ (rw (c, d) refl)

-- ---- definitions

pub making_goes : (w : Definer) (n : Nesting) (d : Made) → MayStand ((making_of w).gives d ∷ []) n
    → in_definition n.parts ≡ false
making_goes definer.Colon n d h =
    let w = when_some (not (around_of (shapes n.parts)).defines) _ (run []) h.0 h.1 in
    sym (defines-shapes n.parts) ∙ not_true (around_of (shapes n.parts)).defines w.0
making_goes (definer.Other t) n d h =
    let w = when_some (not (around_of (shapes n.parts)).defines) _ (run []) h.0 h.1 in
    sym (defines-shapes n.parts) ∙ not_true (around_of (shapes n.parts)).defines w.0

straight_parts : (fs : List Frame) → list_all (λ (p : Part × ℕ). is_same p.0 part.Definition) (shapes fs) ≡ true
    → all_definitions fs ≡ true
straight_parts [] h = refl
straight_parts (f ∷ fs) h =
    let w = and_parts (is_same f.part part.Definition) _ h in
    rw w.0 (straight_parts fs w.1)

pub straight_goes : (n : Nesting) → IsStraight (shape_of n) → is_straight n ≡ true
straight_goes n h =
    let a : nat_eq (length n.branches) 0 ≡ true = ap (λ k. nat_eq k 0) h.0 in
    let b : all_definitions n.parts ≡ true = straight_parts n.parts h.1 in
    rw (a, b) refl

-- ---- the end

no_shape : (d : ℕ) → suc d ≡ 0 → ⊥
no_shape d h = omega arith

pub closed_goes : (bs : List ℕ) (fs : List Frame) → shape_of (record { branches = bs; parts = fs }) ≡ nothing
    → is_closed (record { branches = bs; parts = fs }) ≡ true
closed_goes [] [] h = refl
closed_goes (b ∷ bs) fs h = absurd (no_shape (length bs) (ap (λ (o : Shape). o.count) h))
closed_goes [] (f ∷ fs) h = absurd (no_shape (length (shapes fs)) (ap (λ (o : Shape). length o.parts) h))
