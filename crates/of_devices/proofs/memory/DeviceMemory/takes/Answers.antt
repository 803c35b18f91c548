-- The goal at which a wrong body is refused.
use Rattle.std.proofs.Common.{rules}
use Rattle.of_devices.proofs.memory.DeviceMemory.takes.Goals as goal

pub returns-in-Some : goal.returns-in-Some
returns-in-Some c = search rules
