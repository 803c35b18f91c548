-- The goals at which wrong bodies are refused.
use Rattle.std.proofs.Common.{rules}
use Rattle.of_prims.specs.Memory.{memory_entry}
use Rattle.of_prims.proofs.memory_words.fetch_byte.Goals as goal

pub returns-in_err-x : goal.returns-in_err-x
unfolding memory_entry
returns-in_err-x c = search rules

pub returns : goal.returns
unfolding memory_entry
returns c = search rules
