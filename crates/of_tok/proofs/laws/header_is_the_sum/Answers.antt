use Rattle.of_tok.proofs.HeaderLemmas.{header_is_the_sum}
use Rattle.of_tok.proofs.laws.header_is_the_sum.Goals as goal

pub returns : goal.returns
returns c = header_is_the_sum
