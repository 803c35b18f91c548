-- The goal at which a wrong body is refused.
use Rattle.std.proofs.Common.{rules}
use Rattle.of_calls.proofs.part.few_at.Goals as goal

pub returns-else-len-most-clause-err : goal.returns-else-len-most-clause-err
returns-else-len-most-clause-err c = search rules
