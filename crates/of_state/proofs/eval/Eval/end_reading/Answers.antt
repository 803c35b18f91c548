use Rattle.std.proofs.Common.{rules}
use Rattle.of_state.proofs.eval.Eval.end_reading.Goals as goal

pub returns : goal.returns
returns g c = search rules
