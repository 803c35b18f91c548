-- The goal at which a wrong body is refused.
use Rattle.std.proofs.Common.{rules}
use Rattle.of_rom.proofs.image.image_by.Goals as goal

pub returns : goal.returns
returns c = search rules
