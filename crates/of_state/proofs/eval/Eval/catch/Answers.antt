use Rattle.std.proofs.Common.{rules}
use Rattle.of_state.proofs.eval.Eval.catch.Goals as goal

pub returns-clause-state : goal.returns-clause-state
returns-clause-state g c = search rules
