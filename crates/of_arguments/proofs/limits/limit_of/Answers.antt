-- The goal at which a wrong body is refused.
use Rattle.std.proofs.Common.{rules}
use Rattle.of_arguments.proofs.limits.limit_of.Goals as goal

pub returns-in-Some-times_before : goal.returns-in-Some-times_before
returns-in-Some-times_before c = search rules
