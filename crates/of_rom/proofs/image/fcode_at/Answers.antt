-- The goal at which a wrong body is refused.
use Rattle.std.proofs.Common.{rules}
use Rattle.of_rom.proofs.image.fcode_at.Goals as goal

pub returns-in-OpenFirmware : goal.returns-in-OpenFirmware
returns-in-OpenFirmware c = search rules
