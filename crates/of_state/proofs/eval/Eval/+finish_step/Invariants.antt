use Rattle.std.proofs.Common.{length}
use Rattle.of_state.proofs.eval.Eval.+finish_step.Given as goal

abbrev pub decreases-finish_step : goal.decreases-finish_step
decreases-finish_step g l = length l.self.now.flow.items
