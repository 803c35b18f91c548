use Rattle.of_see_runs.proofs.Remaking.{printed_words_are_remade}
use Rattle.of_see_runs.proofs.laws.printed_words_are_remade.Goals as goal

pub returns : goal.returns
returns c = printed_words_are_remade c.words_are_executed.ensures c.written_words_are_found.ensures
