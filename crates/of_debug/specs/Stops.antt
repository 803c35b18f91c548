-- Where stepping calls stop, said of the run as a whole and not turn by turn.
use Rattle.std.specs.Prelude.{ℕ, ◌≡◌, ◌<◌, ◌≤◌, ◌⊎◌, true, false, List}
use Rattle.of_compile.specs.Coding.{Coding}
use Rattle.of_machine.specs.Runs.{Feed, settled}
use Rattle.of_state.specs.State.{flat_calls}
use Rattle.of_steps.specs.declared.goals.Goal.{Goal}
use Rattle.of_steps.specs.declared.marks.Mark.{Mark}
use Rattle.of_machine.specs.Refused.{HasDue}
use Rattle.of_debug.specs.Stepping.{is_there, until}
use Rattle.of_debug.specs.Turns.{Shows, between, run, turn}

-- all steps that may be made are, or the last has reached the goal, or no more can be made
abbrev pub HasStopped : List Mark → Goal → ℕ → Feed Coding → Feed Coding → Type 0
HasStopped marks goal n f g =
    (between f g ≡ n)
    ⊎ ((0 < between f g) × (is_there marks goal g.machine ≡ true))
    ⊎ ((turn flat_calls g).machine.steps ≡ g.machine.steps)

-- A stepping call that makes at most n steps stops behind the first with which its goal is reached.
pub record StopFirst : Type 0 where
  -- it stands on the run
  pub along : (marks : List Mark) (goal : Goal) (n : ℕ) (f : Feed Coding) → Shows f (until marks goal n f)
  -- no further than it may
  pub few : (marks : List Mark) (goal : Goal) (n : ℕ) (f : Feed Coding) → between f (until marks goal n f) ≤ n
  -- no step before the last has reached the goal
  pub before :
      (marks : List Mark) (goal : Goal) (n i : ℕ) (f : Feed Coding) → 0 < i → i < between f (until marks goal n f) →
      is_there marks goal (run flat_calls i f).machine ≡ false
  -- and it doesn't stop before it has to
  pub stops :
      (marks : List Mark) (goal : Goal) (n : ℕ) (f : Feed Coding) →
      HasStopped marks goal n f (until marks goal n f)

-- What is due is something: where all is handed in, nothing is.
pub record DueIsLeft : Type 0 where
  pub due : (f : Feed Coding) → HasDue f → settled f ≡ f → ⊥
