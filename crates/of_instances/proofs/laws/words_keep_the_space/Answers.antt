use Rattle.of_instances.proofs.TreeSpace.{words_keep_the_space}
use Rattle.of_instances.proofs.laws.words_keep_the_space.Goals as goal

pub returns : goal.returns
returns c =
    words_keep_the_space (record {
      sound = c.changes_stay_sound.ensures;
      images = c.images_change_by_images_alone.ensures;
      properties = c.properties_change_by_puts_alone.ensures;
      nodes = c.properties_keep_the_space.ensures;
      stored = c.stored_stays.ensures;
      instances = c.instances_keep_the_space.ensures;
    })
