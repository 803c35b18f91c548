-- What stands open at a word: the places of branches, and parts, both latest first. A part knows how many branches were
-- open before it.
use Rattle.std.specs.Prelude.{◌≡◌, ℕ, Bool, true, false, ◌&&◌, List, [], ◌∷◌, length, drop, map, Option, Some, None}
use Rattle.std.specs.Prelude.{nat_eq, nat_lt, if◌then◌else◌}
use Rattle.std.specs.List.{list_any, list_all}
use Rattle.of_source.specs.declared.nesting.Part.{Part}
use Rattle.of_source.specs.declared.nesting.Frame.{Frame}
use Rattle.of_source.specs.declared.nesting.Level.{Level}
use Rattle.of_source.specs.declared.nesting.Part.TheVariants.{Definition, Begin, Do, Case, Of}

-- the places of the branches that are open, and the parts, latest first
pub record Nesting : Type 0 where
  pub branches : List ℕ
  pub parts : List Frame

-- nothing is open
abbrev pub nothing_open : Nesting
nothing_open = record { branches = []; parts = [] }

-- whether two parts are of one kind
abbrev pub is_same : Part → Part → Bool
is_same Definition Definition = true
is_same Begin Begin = true
is_same Do Do = true
is_same Case Case = true
is_same Of Of = true
is_same _ _ = false

-- how many branches the innermost part may not close
abbrev pub floor : List Frame → ℕ
floor [] = 0
floor (f ∷ fs) = f.beneath

-- a branch opens
abbrev pub with_branch : ℕ → Nesting → Nesting
with_branch at n = record { branches = at ∷ n.branches; parts = n.parts }

-- a part opens
abbrev pub with_part : Part → ℕ → Nesting → Nesting
with_part p at n =
    record { branches = n.branches; parts = record { part = p; at = at; beneath = length n.branches } ∷ n.parts }

-- the latest branch closes, if it opened in the innermost part
abbrev pub without_branch : Nesting → Option Nesting
without_branch n = if nat_lt (floor n.parts) (length n.branches)
    then Some (record { branches = drop 1 n.branches; parts = n.parts }) else None

-- whether a part left no branch open
abbrev pub is_even : Nesting → Bool
is_even n = nat_eq (floor n.parts) (length n.branches)

-- whether the innermost part is of this kind
abbrev pub is_in : Part → List Frame → Bool
is_in p [] = false
is_in p (f ∷ fs) = is_same f.part p

-- the innermost part, of this kind, closes; branches that it opened stay open in the part around it
abbrev pub without_begin : Nesting → Option Nesting
without_begin n = if is_in Begin n.parts then Some (record { branches = n.branches; parts = drop 1 n.parts }) else None

-- the innermost part, of this kind, closes, where it left no branch open
abbrev pub without_part : Part → Nesting → Option Nesting
without_part p n = if is_in p n.parts && is_even n then Some (record { branches = n.branches; parts = drop 1 n.parts })
    else None

-- whether a definition is open
abbrev pub in_definition : List Frame → Bool
in_definition fs = list_any (λ f. is_same f.part Definition) fs

-- whether a loop is open in the same definition, or outside all
abbrev pub in_loop : List Frame → Bool
in_loop [] = false
in_loop (f ∷ fs) = if is_same f.part Do then true else if is_same f.part Definition then false else in_loop fs

-- whether a loop is open in a part, in the same definition or outside all, with what holds around the part
abbrev pub loops_in : Part → Bool → Bool
loops_in p around = if is_same p Do then true else if is_same p Definition then false else around

-- whether this is a place for `of`: directly in a case
abbrev pub on_case : Nesting → Bool
on_case n = is_in Case n.parts && is_even n

-- whether all that is open are definitions
abbrev pub all_definitions : List Frame → Bool
all_definitions fs = list_all (λ f. is_same f.part Definition) fs

-- ---- parts as the code holds them

-- without what the parts around them say of them
abbrev pub frames : List Level → List Frame
frames ls = map (λ (l : Level). l.frame) ls

-- each part has what it stands in, the latest first
abbrev pub AreSurrounded : List Level → Type 0
AreSurrounded [] = Unit {0}
AreSurrounded (l ∷ ls) = (l.defines ≡ in_definition (frames (l ∷ ls))) × (l.loops ≡ in_loop (frames (l ∷ ls)))
    × (l.straight ≡ all_definitions (frames (l ∷ ls))) × AreSurrounded ls

-- ---- what is open as a whole

-- whether no control structure is open
abbrev pub is_straight : Nesting → Bool
is_straight n = nat_eq (length n.branches) 0 && all_definitions n.parts

-- the last of a list
abbrev pub last_or : ℕ → List ℕ → ℕ
last_or d [] = d
last_or d (x ∷ xs) = last_or x xs

-- the place of the earliest part, if it opened before each open branch; else this one
abbrev pub earliest_of : ℕ → List Frame → ℕ
earliest_of at [] = at
earliest_of at (f ∷ []) = if nat_eq f.beneath 0 then f.at else at
earliest_of at (f ∷ g ∷ fs) = earliest_of at (g ∷ fs)

-- the place of the first opener that is still open, or this one
abbrev pub first_open : ℕ → Nesting → ℕ
first_open at n = earliest_of (last_or at n.branches) n.parts

-- whether nothing is open
abbrev pub is_closed : Nesting → Bool
is_closed n = nat_eq (length n.branches) 0 && nat_eq (length n.parts) 0

-- ---- words that do two of these, one after the other

-- `repeat` closes a branch behind its `begin`
abbrev pub then_without_branch : Option Nesting → Option Nesting
then_without_branch None = None
then_without_branch (Some n) = without_branch n

-- `else` opens a branch behind the one that it closes
abbrev pub then_with_branch : ℕ → Option Nesting → Option Nesting
then_with_branch at None = None
then_with_branch at (Some n) = Some (with_branch at n)

-- what is open, where a word may stand there
abbrev pub opened_if : Bool → Nesting → Option Nesting
opened_if b n = if b then Some n else None
