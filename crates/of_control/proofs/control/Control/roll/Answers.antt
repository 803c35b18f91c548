-- The goals at which wrong bodies are refused.
use Rattle.std.proofs.Common.{arith}
use Rattle.std.proofs.lemmas.Grind.{common_steps}
use Rattle.of_control.proofs.control.Control.roll.Goals as goal

pub returns-then-n-count_origs : goal.returns-then-n-count_origs
returns-then-n-count_origs c = grind (arith, common_steps)
