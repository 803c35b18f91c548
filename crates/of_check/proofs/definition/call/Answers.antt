-- The goal at which a wrong body is refused.
use Rattle.std.proofs.Common.{rules}
use Rattle.of_check.proofs.definition.call.Goals as goal

pub returns-in-Misfit : goal.returns-in-Misfit
returns-in-Misfit c = search rules
