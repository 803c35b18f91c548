-- The goals at which wrong bodies are refused.
use Rattle.std.proofs.Common.{rules}
use Rattle.of_cells.proofs.cells.Cell.shift_right.Goals as goal

pub returns-then-count-lt32 : goal.returns-then-count-lt32
returns-then-count-lt32 c = search rules
