-- The goals at which wrong bodies are refused.
use Rattle.std.proofs.Common.{rules}
use Rattle.of_cells.proofs.doubles.Double.extend.Goals as goal

pub returns-else-x : goal.returns-else-x
returns-else-x c = search rules
