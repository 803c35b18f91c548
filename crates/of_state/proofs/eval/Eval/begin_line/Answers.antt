use Rattle.std.proofs.Common.{rules}
use Rattle.of_state.proofs.eval.Eval.begin_line.Goals as goal

pub returns-clause-begun : goal.returns-clause-begun
returns-clause-begun g c = search rules
