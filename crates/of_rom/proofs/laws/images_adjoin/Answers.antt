use Rattle.of_rom.proofs.Adjoining.{images_adjoin}
use Rattle.of_rom.proofs.laws.images_adjoin.Goals as goal

pub returns : goal.returns
returns c = images_adjoin
