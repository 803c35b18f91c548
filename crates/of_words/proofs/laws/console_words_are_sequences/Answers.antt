use Rattle.of_words.proofs.Sequences.{console_words_are_sequences}
use Rattle.of_words.proofs.laws.console_words_are_sequences.Goals as goal

pub returns : goal.returns
returns c =
    console_words_are_sequences c.floored_division.ensures c.scratch_is_open.ensures c.writes_join.ensures
