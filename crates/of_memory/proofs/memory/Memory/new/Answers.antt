-- The goals at which wrong bodies are refused.
use Rattle.std.proofs.Common.{arith}
use Rattle.std.proofs.lemmas.Grind.{common_steps}
use Rattle.of_memory.specs.DataSpace.{fresh}
use Rattle.of_memory.proofs.memory.Memory.new.Goals as goal

pub returns : goal.returns
unfolding fresh
returns c = grind (arith, common_steps)
