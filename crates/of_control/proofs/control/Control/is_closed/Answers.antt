-- The goals at which wrong bodies are refused.
use Rattle.std.proofs.Common.{arith}
use Rattle.std.proofs.lemmas.Grind.{common_steps}
use Rattle.of_control.proofs.control.Control.is_closed.Goals as goal

pub returns-then-not-self : goal.returns-then-not-self
returns-then-not-self c = grind (arith, common_steps)
