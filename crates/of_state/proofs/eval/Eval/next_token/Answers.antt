use Rattle.std.proofs.Common.{rules}
use Rattle.of_state.proofs.eval.Eval.next_token.Goals as goal

pub returns-in-Ok : goal.returns-in-Ok
returns-in-Ok g c = search rules
