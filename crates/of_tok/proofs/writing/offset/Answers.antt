-- The goals at which wrong bodies are refused.
use Rattle.std.proofs.Common.{arith, rules}
use Rattle.std.proofs.lemmas.Grind.{common_steps}
use Rattle.of_tok.proofs.writing.offset.Goals as goal

pub returns-then-fits : goal.returns-then-fits
returns-then-fits c = grind (arith, common_steps)

pub returns-else-fits : goal.returns-else-fits
returns-else-fits c = search rules
