-- The goals at which wrong bodies are refused.
use Rattle.std.proofs.Common.{rules}
use Rattle.of_cells.proofs.cells.Cell.flag.Goals as goal

pub returns-then-truth : goal.returns-then-truth
returns-then-truth c = search rules
