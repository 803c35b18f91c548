-- The goal at which a wrong body is refused.
use Rattle.std.proofs.Common.{rules}
use Rattle.of_asking.proofs.query.is_fitting.Goals as goal

pub returns-in-Key : goal.returns-in-Key
returns-in-Key c = search rules
