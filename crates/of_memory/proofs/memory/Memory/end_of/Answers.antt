-- The goals at which wrong bodies are refused.
use Rattle.std.proofs.Common.{rules}
use Rattle.of_memory.proofs.memory.Memory.end_of.Goals as goal

pub returns-then-is_heap-clause-value : goal.returns-then-is_heap-clause-value
returns-then-is_heap-clause-value c = search rules
