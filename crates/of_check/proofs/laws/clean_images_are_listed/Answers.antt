use Rattle.of_check.proofs.Clean.{clean_images_are_listed}
use Rattle.of_check.proofs.laws.clean_images_are_listed.Goals as goal

pub returns : goal.returns
returns c = clean_images_are_listed c.closed_is_read.ensures
