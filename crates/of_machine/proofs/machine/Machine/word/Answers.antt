use Rattle.std.proofs.Common.{rules}
use Rattle.of_machine.proofs.machine.Machine.word.Goals as goal

pub returns : goal.returns
returns c = search rules
