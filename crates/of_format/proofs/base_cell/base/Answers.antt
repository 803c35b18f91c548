-- The goals at which wrong bodies are refused.
use Rattle.std.proofs.Common.{arith, rules}
use Rattle.std.proofs.lemmas.Grind.{common_steps}
use Rattle.of_format.proofs.base_cell.base.Goals as goal

pub returns-clause-value : goal.returns-clause-value
returns-clause-value c = grind (arith, common_steps)

pub returns-clause-least : goal.returns-clause-least
returns-clause-least c = search rules
