use Rattle.of_source.proofs.Encoded.{parsed_nested}
use Rattle.of_source.proofs.laws.parsed_is_nested.Goals as goal

pub returns : goal.returns
returns c = parsed_nested
