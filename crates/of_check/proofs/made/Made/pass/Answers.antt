-- The goal at which a wrong body is refused.
use Rattle.std.proofs.Common.{rules}
use Rattle.of_check.proofs.made.Made.pass.Goals as goal

pub returns-in-FCode : goal.returns-in-FCode
returns-in-FCode c = search rules
