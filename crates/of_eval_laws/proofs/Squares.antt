-- A part of a step does on the cells of definitions what it does on their structure: what it leaves of the state.
use Rattle.std.proofs.Common.{◌≡◌, Bool, true, false, Result, Ok, Err, refl, if◌then◌else◌}
use Rattle.of_stacks.specs.declared.throws.Throw.{Throw}
use Rattle.of_compile.specs.Structured.{Definitions}
use Rattle.of_compile.specs.Coding.{Coding}
use Rattle.of_board.specs.declared.board.Board.{Board}
use Rattle.of_asking.specs.Questions.{Asking, Asks, Gives}
use Rattle.of_state.specs.State.{Outcome, State, by_asking, by_board}
use Rattle.of_eval_laws.specs.Structured.{flat_outcome, flat_state}

pub state_if : (b : Bool) (p q : State Coding) (x y : State Definitions) → p ≡ flat_state x → q ≡ flat_state y
    → (if b then p else q) ≡ flat_state (if b then x else y)
state_if true p q x y hp hq = hp
state_if false p q x y hp hq = hq

pub outcome_if :
    (b : Bool) (p q : Outcome Coding) (x y : Outcome Definitions) → p ≡ flat_outcome x → q ≡ flat_outcome y
    → (if b then p else q) ≡ flat_outcome (if b then x else y)
outcome_if true p q x y hp hq = hp
outcome_if false p q x y hp hq = hq

pub board_flat : (r : Result Board Throw) (s : State Definitions)
    → by_board r (flat_state s) ≡ flat_outcome (by_board r s)
board_flat (Ok p) s = refl
board_flat (Err t) s = refl

pub asking_flat : (x : Asking Board) (s : State Definitions)
    → by_asking x (flat_state s) ≡ flat_outcome (by_asking x s)
asking_flat (Gives r) s = board_flat r s
asking_flat (Asks q) s = refl
