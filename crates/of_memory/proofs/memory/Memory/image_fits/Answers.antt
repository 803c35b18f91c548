-- The goals at which wrong bodies are refused.
use Rattle.std.proofs.Common.{rules}
use Rattle.of_memory.proofs.memory.Memory.image_fits.Goals as goal

pub returns-then-len-free : goal.returns-then-len-free
returns-then-len-free c = search rules
