-- The goal at which a wrong body is refused.
use Rattle.std.proofs.Common.{rules}
use Rattle.of_check.proofs.header.length_finding.Goals as goal

pub returns-then-said-actual : goal.returns-then-said-actual
returns-then-said-actual c = search rules
