use Rattle.std.proofs.Common.{rules}
use Rattle.of_machine.proofs.machine.Machine.asked.Goals as goal

pub returns : goal.returns
returns c = search rules
