-- The goals at which wrong bodies are refused.
use Rattle.std.proofs.Common.{arith}
use Rattle.std.proofs.lemmas.Grind.{common_steps}
use Rattle.of_source.proofs.place.place_in.Goals as goal

pub returns-clause-column : goal.returns-clause-column
returns-clause-column c = grind (arith, common_steps)
