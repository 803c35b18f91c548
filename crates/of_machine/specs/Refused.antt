-- What a run leaves for which memory was refused.
use Rattle.std.specs.Prelude.{◌≡◌, ◌⊎◌, ℕ, ◌<◌, ◌≤◌, Bool, true, false, List, [], ◌∷◌, Option, Some, None, nat_le}
use Rattle.of_asking.specs.declared.query.Query.{Query}
use Rattle.of_compile.specs.Coding.{Coding}
use Rattle.of_devices.specs.Racks.{Meant, rack_told}
use Rattle.of_state.specs.State.{flat_calls}
use Rattle.of_steps.specs.Steps.{asked_by}
use Rattle.of_machine.specs.Racks.{HasGoneWith}
use Rattle.of_machine.specs.Runs.{Due, Feed, HasAdvanced, HasGone, IsTold, asking, settled}
use Rattle.of_machine.specs.States.{MayGrow, is_running}

-- whether a client is to be answered now
abbrev pub is_first_due : List Due → ℕ → Bool
is_first_due [] n = false
is_first_due (call ∷ calls) n = nat_le call.0 n

-- whether a line is to be handed in now
abbrev pub has_line : Bool → List (List ℕ) → Bool
has_line true lines = false
has_line false [] = false
has_line false (line ∷ lines) = true

-- something is to be handed in, for which memory is asked: a client is to be answered, or a line to be kept
abbrev pub HasDue : Feed Coding → Type 0
HasDue f = (is_first_due f.calls f.machine.steps ≡ true) ⊎ (has_line (is_running f.machine) f.lines ≡ true)

-- what is handed in between two steps makes this feed of another, of which something is due
abbrev pub IsUnserved : Feed Coding → Feed Coding → Type 0
IsUnserved f new = (settled new ≡ f) × HasDue new

-- the next step isn't made, which may grow; if it asks, its question may be open
abbrev pub IsUnmade : Feed Coding → Feed Coding → Type 0
IsUnmade f new =
    ((new ≡ f) ⊎ ((q : Query) × (asked_by flat_calls f.machine.eval ≡ Some q) × (new ≡ asking q f)))
    × MayGrow new.machine

-- Memory was refused to a run that has come to a feed: not all was handed in behind the last of its steps, or the next
-- isn't made, of which there is one within the limit.
abbrev pub IsBroken : ℕ → Feed Coding → Feed Coding → Type 0
IsBroken limit f new = IsUnserved f new ⊎ ((f.machine.steps < limit) × IsUnmade f new)

-- So it was on the way from one feed to where the limit is.
abbrev pub IsHeld : ℕ → Feed Coding → Feed Coding → Type 0
IsHeld limit old new = (f : Feed Coding) × HasGone old f × (f.machine.steps ≤ limit) × IsBroken limit f new

-- a rack is told the question that is open, if one is
abbrev pub told_open : List Meant → Option Query → List Meant
told_open ds None = ds
told_open ds (Some q) = rack_told ds q

-- the same where a rack has answered what was asked; it may have been told one question more, which is open
abbrev pub IsHeldWith : ℕ → List Meant → List Meant → Feed Coding → Feed Coding → Type 0
IsHeldWith limit ds es old new =
    (f : Feed Coding) × (hs : List Meant) × HasGoneWith ds hs old f × (f.machine.steps ≤ limit)
    × IsBroken limit f new × (es ≡ told_open hs new.machine.waiting)

-- ---- a turn, as it is made

-- An advance was held up, which asks nothing.
abbrev pub IsHeldAlone : ℕ → Feed Coding → Feed Coding → Type 0
IsHeldAlone limit old new =
    (f : Feed Coding) × HasAdvanced old f × (f.machine.steps ≤ limit) × IsBroken limit f new
    × (new.machine.waiting ≡ None)

-- the step whose question is open isn't made, which may grow; or it was, and not all behind it is handed in
abbrev pub IsUntold : Feed Coding → Feed Coding → Type 0
IsUntold old new = ((new ≡ old) × MayGrow old.machine) ⊎ (IsTold old (settled new) × HasDue new)
