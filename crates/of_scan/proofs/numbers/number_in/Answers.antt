use Rattle.std.proofs.Common.{rules}
use Rattle.of_scan.specs.Numbers.{number_in}
use Rattle.of_scan.proofs.numbers.number_in.Goals as goal

pub returns-then-are_digits : goal.returns-then-are_digits
unfolding number_in
returns-then-are_digits c = search rules
