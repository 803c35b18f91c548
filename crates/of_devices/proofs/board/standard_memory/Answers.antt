-- The goal at which a wrong body is refused.
use Rattle.std.proofs.Common.{rules}
use Rattle.of_devices.specs.Parts.{standard_memory}
use Rattle.of_devices.proofs.board.standard_memory.Goals as goal

pub returns : goal.returns
unfolding standard_memory
returns c = search rules
