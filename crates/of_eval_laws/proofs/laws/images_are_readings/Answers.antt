use Rattle.of_compile.specs.Structured.{Definitions}
use Rattle.of_compile.specs.Coding.{Coding}
use Rattle.of_eval_laws.proofs.FramedSpace.{Laws}
use Rattle.of_eval_laws.proofs.ImagesReadings.{images_are_readings}
use Rattle.of_eval_laws.proofs.laws.images_are_readings.Goals as goal

pub returns : goal.returns
returns c =
    let l : Laws = record {
      sound = c.changes_stay_sound.ensures;
      images = c.images_change_by_images_alone.ensures;
      properties = c.properties_change_by_puts_alone.ensures;
      parts = c.parts_are_good.ensures;
      scratch = c.scratch_is_open.ensures;
      pushes = c.latest_is_pushed.ensures;
      nodes = c.properties_keep_the_space.ensures;
      stored = c.stored_stays.ensures;
      instances = c.instances_keep_the_space.ensures;
      words = c.words_keep_the_space.ensures;
      console = c.console_words_keep_the_space.ensures;
      asking = c.images_stay_asked.ensures;
    } in
    record { cells = images_are_readings l Coding; bodies = images_are_readings l Definitions }
