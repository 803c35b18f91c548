use Rattle.std.proofs.Common.{rules}
use Rattle.of_calc.specs.Arithmetic.{calculation}
use Rattle.of_calc.proofs.arithmetic.of_two.Goals as goal

pub returns-in-Minus : goal.returns-in-Minus
unfolding calculation
returns-in-Minus c = search rules
