-- Runs to a goal.
use Rattle.std.proofs.Common.{◌≡◌, ◌≤◌, ℕ, ◌-◌, List, arith}
use Rattle.of_compile.specs.Coding.{Coding}
use Rattle.of_state.specs.State.{State}
use Rattle.of_steps.specs.declared.goals.Goal.{Goal}
use Rattle.of_steps.specs.declared.marks.Mark.{Mark}
use Rattle.of_steps.specs.declared.goals.Arrival.{Arrival}
use Rattle.of_steps.specs.declared.goals.Arrival.TheVariants as arrival
use Rattle.of_steps.specs.Goals.{IsUnreached, before}

-- behind no step the goal is reached by none
pub none_unreached : (marks : List Mark) (goal : Goal) (n : ℕ) (s : State Coding) → n ≡ 0 → IsUnreached marks goal n s
unfolding IsUnreached
none_unreached marks goal n s none = λ i t some few e. absurd (omega (arith, none, some, few))

pub fewer_unreached : (marks : List Mark) (goal : Goal) (n k : ℕ) (s : State Coding) → k ≤ n
    → IsUnreached marks goal n s → IsUnreached marks goal k s
unfolding IsUnreached
fewer_unreached marks goal n k s few u = λ i t some less e. u i t some (omega (arith, few, less)) e

-- however a run to it ended, behind none of its steps but the last
pub but_the_last : (marks : List Mark) (goal : Goal) (a : Arrival) (made n : ℕ) (s : State Coding) → n ≡ made
    → IsUnreached marks goal (before a made) s → IsUnreached marks goal (n - 1) s
but_the_last marks goal arrival.Reached made n s same u =
    fewer_unreached marks goal (made - 1) (n - 1) s (omega (arith, same)) u
but_the_last marks goal (arrival.Paused p) made n s same u =
    fewer_unreached marks goal made (n - 1) s (omega (arith, same)) u
