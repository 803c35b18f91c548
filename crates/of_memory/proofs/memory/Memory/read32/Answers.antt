-- The goals at which wrong bodies are refused.
use Rattle.std.proofs.Common.{rules}
use Rattle.of_memory.proofs.memory.Memory.read32.Goals as goal

pub returns-in_err-at-clause-value : goal.returns-in_err-at-clause-value
returns-in_err-at-clause-value c = search rules

pub returns-clause-value : goal.returns-clause-value
returns-clause-value c = search rules
