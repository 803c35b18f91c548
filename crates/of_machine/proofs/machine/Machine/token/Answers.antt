use Rattle.std.proofs.Common.{rules}
use Rattle.of_machine.proofs.machine.Machine.token.Goals as goal

pub returns-in-Some : goal.returns-in-Some
returns-in-Some c = search rules
