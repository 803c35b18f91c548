-- The goals at which wrong bodies are refused.
use Rattle.std.proofs.Common.{rules}
use Rattle.of_nodes.proofs.names.is_name.Goals as goal

pub returns-then-text-le-LONGEST : goal.returns-then-text-le-LONGEST
returns-then-text-le-LONGEST c = search rules
