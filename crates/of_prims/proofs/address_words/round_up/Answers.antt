-- The goals at which wrong bodies are refused.
use Rattle.std.proofs.Common.{rules}
use Rattle.of_prims.proofs.address_words.round_up.Goals as goal

pub returns : goal.returns
returns c = search rules
