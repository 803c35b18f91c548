-- The goals at which wrong bodies are refused.
use Rattle.std.proofs.Common.{rules}
use Rattle.of_memory.proofs.memory.Memory.allot.Goals as goal

pub returns-then-here-lt-DATA_START-clause-value : goal.returns-then-here-lt-DATA_START-clause-value
returns-then-here-lt-DATA_START-clause-value c = search rules
