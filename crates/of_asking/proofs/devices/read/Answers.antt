-- The goal at which a wrong body is refused.
use Rattle.std.proofs.Common.{rules}
use Rattle.of_asking.proofs.devices.read.Goals as goal

pub returns-clause-value : goal.returns-clause-value
returns-clause-value c = search rules
