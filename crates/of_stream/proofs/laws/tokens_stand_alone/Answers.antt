use Rattle.of_stream.proofs.Alone.{token_alone}
use Rattle.of_stream.proofs.laws.tokens_stand_alone.Goals as goal

pub returns : goal.returns
returns c = token_alone
