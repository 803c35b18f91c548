-- The goals at which wrong bodies are refused.
use Rattle.std.proofs.Common.{rules}
use Rattle.of_cells.proofs.cells.Cell.is_within.Goals as goal

pub returns : goal.returns
returns c = search rules
