use Rattle.std.proofs.Common.{rules}
use Rattle.of_eval.proofs.executing.undo_catch.Goals as goal

pub returns : goal.returns
returns g c = search rules
