use Rattle.std.proofs.Common.{rules}
use Rattle.of_own.proofs.Chains.{never}
use Rattle.of_own.proofs.defers.follow.Goals as goal

pub returns : goal.returns
returns c = search (rules, never)

-- The goal at which a wrong body is refused.
pub loop-left-init : goal.loop-left-init
loop-left-init c = search rules
