-- The goals at which wrong bodies are refused.
use Rattle.std.proofs.Common.{rules}
use Rattle.of_prims.specs.Memory.{memory_entry}
use Rattle.of_prims.proofs.memory_words.store_byte.Goals as goal

pub returns : goal.returns
unfolding memory_entry
returns c = search rules
