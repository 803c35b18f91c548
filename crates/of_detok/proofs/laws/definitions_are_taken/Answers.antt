use Rattle.of_detok.proofs.Whole.{takes}
use Rattle.of_detok.proofs.laws.definitions_are_taken.Goals as goal

pub returns : goal.returns
returns c = takes c.tokens_read_back.ensures c.tokens_stand_alone.ensures
