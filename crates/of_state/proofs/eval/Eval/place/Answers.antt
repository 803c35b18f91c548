use Rattle.std.proofs.Common.{rules}
use Rattle.of_state.proofs.eval.Eval.place.Goals as goal

pub returns-in-Code : goal.returns-in-Code
returns-in-Code g c = search rules
