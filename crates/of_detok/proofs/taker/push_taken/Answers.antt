-- The goal at which a wrong body is refused.
use Rattle.std.proofs.Common.{rules}
use Rattle.of_detok.proofs.taker.push_taken.Goals as goal

pub returns-in_default : goal.returns-in_default
returns-in_default c = search rules
