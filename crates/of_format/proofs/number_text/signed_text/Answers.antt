-- The goals at which wrong bodies are refused.
use Rattle.std.proofs.Common.{arith}
use Rattle.std.proofs.lemmas.Grind.{common_steps}
use Rattle.of_format.specs.Digits.{number_text}
use Rattle.of_format.proofs.number_text.signed_text.Goals as goal

pub returns-clause-text : goal.returns-clause-text
unfolding number_text
returns-clause-text c = grind (arith, common_steps)
