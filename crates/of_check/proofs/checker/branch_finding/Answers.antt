-- The goal at which a wrong body is refused.
use Rattle.std.proofs.Common.{rules}
use Rattle.of_check.proofs.checker.branch_finding.Goals as goal

pub returns-in-Some : goal.returns-in-Some
returns-in-Some c = search rules
