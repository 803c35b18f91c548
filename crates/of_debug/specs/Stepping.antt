-- Where a stepping call stops.
use Rattle.std.specs.Prelude.{ℕ, zero, suc, ◌≡◌, ◌<◌, ◌≤◌, ◌+◌, ◌⊎◌, Bool, true, false, List, length}
use Rattle.std.specs.Prelude.{Result, Ok, Err, nat_eq, ◌||◌, None, if◌then◌else◌, ⊤}
use Rattle.of_compile.specs.Coding.{Coding}
use Rattle.of_machine.specs.Refused.{HasDue}
use Rattle.of_machine.specs.Runs.{Feed, next_answer, settled, told}
use Rattle.of_machine.specs.States.{MachineState, MayGrow}
use Rattle.of_state.specs.State.{flat_calls}
use Rattle.of_debug.specs.declared.fault.DebugFault.{DebugFault}
use Rattle.of_debug.specs.declared.fault.DebugFault.TheVariants as fault
use Rattle.of_steps.specs.declared.goals.Goal.{Goal}
use Rattle.of_steps.specs.declared.marks.Mark.{Mark}
use Rattle.of_steps.specs.Goals.{is_reached}
use Rattle.of_debug.specs.Turns.{IsAt, run, turn}

-- how many items the return stack has
abbrev pub depth : MachineState Coding → ℕ
depth m = length m.eval.flow.items

-- whether a stepping call stops at a machine
abbrev pub is_there : List Mark → Goal → MachineState Coding → Bool
is_there marks goal m = is_reached marks goal m.eval

-- whether no step was made from one feed to another
abbrev pub has_stayed : Feed Coding → Feed Coding → Bool
has_stayed f g = nat_eq g.machine.steps f.machine.steps

-- what a turn led to is where the call stops, if no step was made or the goal is reached; else it goes on
abbrev pub onwards : List Mark → Goal → (Feed Coding → Feed Coding) → Feed Coding → Feed Coding → Feed Coding
onwards marks goal more f g = if has_stayed f g || is_there marks goal g.machine then g else more g

-- at most n steps, up to the first behind which the goal is reached, or up to where none can be made
unfoldable pub until : List Mark → Goal → ℕ → Feed Coding → Feed Coding
until marks goal zero f = f
until marks goal (suc n) f = onwards marks goal (until marks goal n) f (turn flat_calls f)

-- ---- where memory is refused

-- Memory was refused to a stepping call: it has come as far as one of so many steps comes that makes all of them, so
-- the steps are whole and none but the last may have reached the goal; and what comes next asks for memory: what is to
-- be handed in, or the next step.
pub record IsRefused (marks : List Mark) (goal : Goal) (n : ℕ) (old new : Feed Coding) : Type 0 where
  pub made : ℕ
  pub few : made ≤ n
  pub at : IsAt (until marks goal made old) (settled new)
  pub steps : new.machine.steps ≡ old.machine.steps + made
  pub grows : HasDue new ⊎ MayGrow new.machine

-- ---- what a call comes to

-- What a stepping call comes to from a feed: Ok where a step was made, Idle where none was, or memory was refused.
abbrev pub Advances : List Mark → Goal → ℕ → Feed Coding → Feed Coding → Result ⊤ DebugFault → Type 0
Advances marks goal n old new (Ok _) = (new ≡ until marks goal n old) × (old.machine.steps < new.machine.steps)
Advances marks goal n old new (Err fault.Idle) =
    (new ≡ until marks goal n old) × (new.machine.steps ≡ old.machine.steps)
Advances marks goal n old new (Err fault.NoMemory) = IsRefused marks goal n old new
Advances marks goal n old new (Err fault.NoWord) = ⊥
Advances marks goal n old new (Err fault.NoItem) = ⊥
Advances marks goal n old new (Err fault.TooMany) = ⊥

-- what a stepping call answers that stops behind so many steps
abbrev pub Comes : ℕ → Result ⊤ DebugFault → Type 0
Comes made (Ok _) = zero < made
Comes made (Err e) = (e ≡ fault.Idle) × (made ≡ 0)

-- ---- turns, as they are made

-- So many turns were made, at most n, a step with each, and none but the last has reached the goal.
pub record HaveGone (marks : List Mark) (goal : Goal) (n k : ℕ) (old new : Feed Coding) : Type 0 where
  pub few : k ≤ n
  pub at : new ≡ run flat_calls k old
  pub steps : (i : ℕ) → i ≤ k → (run flat_calls i old).machine.steps ≡ old.machine.steps + i
  pub before : (i : ℕ) → 0 < i → i < k → is_there marks goal (run flat_calls i old).machine ≡ false

-- no turn can be made
abbrev pub HasStayed : Feed Coding → Feed Coding → Type 0
HasStayed old new = (new ≡ turn flat_calls old) × (new.machine.steps ≡ old.machine.steps)

-- ---- a turn, as it is made

-- whether a step was made
abbrev pub Turns : Bool → Feed Coding → Feed Coding → Type 0
Turns true old new = (new ≡ turn flat_calls old) × (new.machine.steps ≡ old.machine.steps + 1)
Turns false old new = (new ≡ turn flat_calls old) × (new.machine.steps ≡ old.machine.steps)

-- Memory was refused: no step was made, which may grow, but its question may be open; or a whole one, behind which not
-- all is handed in.
abbrev pub Breaks : Feed Coding → Feed Coding → Type 0
Breaks old new =
    (IsAt old new × MayGrow old.machine)
    ⊎ ((settled new ≡ turn flat_calls old) × (new.machine.steps ≡ old.machine.steps + 1) × HasDue new)

-- the step whose question is open was made with the next answer, or there is none that fits
abbrev pub IsTold : Bool → Feed Coding → Feed Coding → Type 0
IsTold true old new =
    (new ≡ told flat_calls (next_answer old.machine.waiting old.answers) old)
    × (new.machine.steps ≡ old.machine.steps + 1)
IsTold false old new = (new ≡ old) × (next_answer old.machine.waiting old.answers ≡ None)

-- Memory was refused: the question is open still, and its step may grow; or the step was made, and not all behind it is
-- handed in.
abbrev pub Untold : Feed Coding → Feed Coding → Type 0
Untold old new =
    ((new ≡ old) × MayGrow old.machine)
    ⊎ ((settled new ≡ told flat_calls (next_answer old.machine.waiting old.answers) old)
    × (new.machine.steps ≡ old.machine.steps + 1) × HasDue new)
