use Rattle.of_ihandles.proofs.SpaceKept.{instances_keep_the_space}
use Rattle.of_ihandles.proofs.laws.instances_keep_the_space.Goals as goal

pub returns : goal.returns
returns c =
    instances_keep_the_space (record {
      sound = c.changes_stay_sound.ensures;
      images = c.images_change_by_images_alone.ensures;
      properties = c.properties_change_by_puts_alone.ensures;
    })
