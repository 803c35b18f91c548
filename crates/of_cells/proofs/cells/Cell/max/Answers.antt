-- The goals at which wrong bodies are refused.
use Rattle.std.proofs.Common.{rules}
use Rattle.of_cells.proofs.cells.Cell.max.Goals as goal

pub returns-else-is_less : goal.returns-else-is_less
returns-else-is_less c = search rules
