use Rattle.std.proofs.Common.{rules}
use Rattle.of_state.proofs.eval.Eval.new.Goals as goal

pub returns : goal.returns
returns g c = search rules
