-- A console session: lines are entered one after the other (Forth 2012, 3.4; IEEE 1275-1994, 7.3).
use Rattle.std.specs.Prelude.{ℕ, ◌≡◌, ◌⊎◌, Bool, false, List, ◌&&◌, ◌==◌, length, Option, Some, None, if◌then◌else◌}
use Rattle.of_compile.specs.Coding.{Coding}
use Rattle.of_refusal.specs.declared.refusal.Refusal.{Refusal}
use Rattle.of_machine.specs.Events.{Line, done_by}
use Rattle.of_machine.specs.States.{MachineState, is_running, line_refusal}
use Rattle.of_state.specs.State.{Calls, flat_calls}
use Rattle.of_monitor.specs.Turns.{Attended, IsHeld, turns}

-- ---- a line

-- an empty line lets go on what runs
abbrev pub goes_on : {S : Type 0} → MachineState S → List ℕ → Bool
goes_on m line = is_running m && length line == 0

-- why a line is refused, memory aside
abbrev pub entry_refusal : {S : Type 0} → MachineState S → List ℕ → Option Refusal
entry_refusal m line = if goes_on m line then None else line_refusal m line

-- a machine with a line, where it isn't to go on
abbrev pub begun_with : {S : Type 0} → Calls S → List ℕ → MachineState S → MachineState S
begun_with c line m = if goes_on m line then m else done_by c (Line line) m

-- what an accepted line makes of a session, in which each line is run for so many steps at most
abbrev pub entered : {S : Type 0} → Calls S → ℕ → List ℕ → Attended S → Attended S
entered c limit line x = turns c limit (begun_with c line x.0, x.1)

-- a refused one changes nothing
abbrev pub entered_unless : {S : Type 0} → Calls S → Option Refusal → ℕ → List ℕ → Attended S → Attended S
entered_unless c None limit line x = entered c limit line x
entered_unless c (Some e) limit line x = x

-- what a line makes of a session
abbrev pub entry : {S : Type 0} → Calls S → ℕ → List ℕ → Attended S → Attended S
entry c limit line x = entered_unless c (entry_refusal x.0 line) limit line x

-- what a line leaves that was refused, or for which no memory was found: it wasn't handed in, where it was to be, or
-- not all of its steps were made
abbrev pub IsBroken : ℕ → List ℕ → Attended Coding → Attended Coding → Type 0
IsBroken limit line x y =
    ((goes_on x.0 line ≡ false) × (y ≡ x)) ⊎ IsHeld limit (begun_with flat_calls line x.0, x.1) y
