-- The goals at which wrong bodies are refused.
use Rattle.std.proofs.Common.{arith}
use Rattle.std.proofs.lemmas.Grind.{common_steps}
use Rattle.of_cells.proofs.cells.Cell.scaled_modulo.Goals as goal

pub returns-then-product-le0 : goal.returns-then-product-le0
returns-then-product-le0 c = grind (arith, common_steps)
