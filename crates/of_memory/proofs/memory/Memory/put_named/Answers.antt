-- The goals at which wrong bodies are refused.
use Rattle.std.proofs.Common.{rules}
use Rattle.of_memory.proofs.memory.Memory.put_named.Goals as goal

pub returns-then-value-value_at-clause-value : goal.returns-then-value-value_at-clause-value
returns-then-value-value_at-clause-value c = search rules
