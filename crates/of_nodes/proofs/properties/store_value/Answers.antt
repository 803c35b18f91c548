-- The goals at which wrong bodies are refused.
use Rattle.std.proofs.Common.{rules}
use Rattle.of_nodes.proofs.properties.store_value.Goals as goal

pub overflow_cast-result : goal.overflow_cast-result
overflow_cast-result c = search rules

pub returns-in-Ok : goal.returns-in-Ok
returns-in-Ok c = search rules
