-- The goal at which a wrong body is refused.
use Rattle.std.proofs.Common.{rules}
use Rattle.of_check.proofs.checker.end_finding.Goals as goal

pub returns : goal.returns
returns c = search rules
