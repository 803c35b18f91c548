-- The goals at which wrong bodies are refused.
use Rattle.std.proofs.Common.{arith}
use Rattle.of_memory.proofs.Latest.{start_of_latest}
use Rattle.of_memory.proofs.images.start_of.Goals as goal

pub returns : goal.returns
returns c = grind (arith, start_of_latest)
