-- The goal at which a wrong body is refused.
use Rattle.std.proofs.Common.{rules}
use Rattle.of_devices.proofs.part.broken.Goals as goal

pub returns-clause-answer : goal.returns-clause-answer
returns-clause-answer c = search rules
