-- The goals at which wrong bodies are refused.
use Rattle.std.proofs.Common.{arith}
use Rattle.std.proofs.lemmas.Grind.{common_steps}
use Rattle.of_code.proofs.list_code.ListCodeCodeStore.finish.Goals as goal

pub returns-clause-code : goal.returns-clause-code
returns-clause-code c = grind (arith, common_steps)
