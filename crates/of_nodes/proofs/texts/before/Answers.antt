-- The goals at which wrong bodies are refused.
use Rattle.std.proofs.Common.{arith}
use Rattle.of_nodes.proofs.TextParts.{befores}
use Rattle.of_nodes.proofs.texts.before.Goals as goal

pub returns-in-Some : goal.returns-in-Some
returns-in-Some c = grind (arith, befores)
