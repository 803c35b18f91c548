use Rattle.of_words.proofs.ConsoleSpace.{console_words_keep_the_space}
use Rattle.of_words.proofs.laws.console_words_keep_the_space.Goals as goal

pub returns : goal.returns
returns c =
    console_words_keep_the_space (record {
      sound = c.changes_stay_sound.ensures;
      images = c.images_change_by_images_alone.ensures;
      properties = c.properties_change_by_puts_alone.ensures;
      scratch = c.scratch_is_open.ensures;
      stored = c.stored_stays.ensures;
    })
