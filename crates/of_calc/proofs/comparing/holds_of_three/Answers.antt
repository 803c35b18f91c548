use Rattle.std.proofs.Common.{rules}
use Rattle.of_calc.specs.Comparing.{comparison}
use Rattle.of_calc.proofs.comparing.holds_of_three.Goals as goal

pub returns-in-Between : goal.returns-in-Between
unfolding comparison
returns-in-Between c = search rules
