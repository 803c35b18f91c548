use Rattle.of_nodes.proofs.SpaceKept.{properties_keep_the_space}
use Rattle.of_nodes.proofs.laws.properties_keep_the_space.Goals as goal

pub returns : goal.returns
returns c =
    properties_keep_the_space (record {
      sound = c.changes_stay_sound.ensures;
      images = c.images_change_by_images_alone.ensures;
    })
