-- The goals at which wrong bodies are refused.
use Rattle.std.proofs.Common.{arith}
use Rattle.std.proofs.lemmas.Grind.{common_steps}
use Rattle.of_source.proofs.parser.Parser.repeat_word.Goals as goal

pub returns : goal.returns
returns c = grind (arith, common_steps)
