-- The goals at which wrong bodies are refused.
use Rattle.std.proofs.Common.{rules}
use Rattle.of_cells.proofs.cells.Cell.abs.Goals as goal

pub returns-else-self : goal.returns-else-self
returns-else-self c = search rules
