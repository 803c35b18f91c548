use Rattle.of_rom.proofs.Said.{images_are_read}
use Rattle.of_rom.proofs.laws.images_are_read.Goals as goal

pub returns : goal.returns
returns c = images_are_read
