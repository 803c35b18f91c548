use Rattle.std.proofs.Common.{rules}
use Rattle.of_interpret.specs.TextActs.{text_acted}
use Rattle.of_interpret.proofs.compiling.leave_compiling.Goals as goal

pub returns : goal.returns
unfolding text_acted
returns g c = search rules
