-- The goals at which wrong bodies are refused.
use Rattle.std.proofs.Common.{rules}
use Rattle.of_prims.specs.Memory.{memory_entry}
use Rattle.of_prims.proofs.memory_words.store.Goals as goal

pub returns-in_err-thrown : goal.returns-in_err-thrown
unfolding memory_entry
returns-in_err-thrown c = search rules

pub returns : goal.returns
unfolding memory_entry
returns c = search rules
