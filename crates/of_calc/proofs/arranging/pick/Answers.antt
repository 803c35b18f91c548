use Rattle.std.proofs.Common.{rules}
use Rattle.of_calc.specs.Arranging.{arranging_entry}
use Rattle.of_calc.proofs.arranging.pick.Goals as goal

pub returns : goal.returns
unfolding arranging_entry
returns c = search rules
