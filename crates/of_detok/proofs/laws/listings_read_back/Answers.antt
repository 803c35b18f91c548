use Rattle.of_detok.proofs.ReadBack.{reads_back}
use Rattle.of_detok.proofs.laws.listings_read_back.Goals as goal

pub returns : goal.returns
returns c = reads_back c.tokens_stand_alone.ensures
