-- The goal at which a wrong body is refused.
use Rattle.std.proofs.Common.{arith}
use Rattle.std.proofs.lemmas.Grind.{common_steps}
use Rattle.of_devices.proofs.memory.DeviceMemory.new.Goals as goal

pub returns : goal.returns
returns c = grind (arith, common_steps)
