-- The goals at which wrong bodies are refused.
use Rattle.std.proofs.Common.{rules}
use Rattle.of_cells.proofs.cells.Cell.modulo.Goals as goal

pub returns-then-divisor-2 : goal.returns-then-divisor-2
returns-then-divisor-2 c = search rules
