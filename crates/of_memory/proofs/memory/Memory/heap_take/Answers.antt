-- The goals at which wrong bodies are refused.
use Rattle.std.proofs.Common.{rules}
use Rattle.of_memory.proofs.memory.Memory.heap_take.Goals as goal

pub returns-clause-taken : goal.returns-clause-taken
returns-clause-taken c = search rules
