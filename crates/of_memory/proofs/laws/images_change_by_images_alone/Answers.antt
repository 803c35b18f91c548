use Rattle.of_memory.proofs.ImageRegion.{images_change_by_images_alone}
use Rattle.of_memory.proofs.laws.images_change_by_images_alone.Goals as goal

pub returns : goal.returns
returns c = images_change_by_images_alone
