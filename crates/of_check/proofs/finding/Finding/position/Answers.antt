-- The goal at which a wrong body is refused.
use Rattle.std.proofs.Common.{rules}
use Rattle.of_check.proofs.finding.Finding.position.Goals as goal

pub returns-in-Sum : goal.returns-in-Sum
returns-in-Sum c = search rules
