-- The goals at which wrong bodies are refused.
use Rattle.std.proofs.Common.{rules}
use Rattle.of_format.proofs.number_text.double_text.Goals as goal

pub returns : goal.returns
returns c = search rules
