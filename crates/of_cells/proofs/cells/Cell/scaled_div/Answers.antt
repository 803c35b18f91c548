-- The goals at which wrong bodies are refused.
use Rattle.std.proofs.Common.{arith}
use Rattle.std.proofs.lemmas.Grind.{common_steps}
use Rattle.of_cells.proofs.cells.Cell.scaled_div.Goals as goal

pub returns-else-product-divisor : goal.returns-else-product-divisor
returns-else-product-divisor c = grind (arith, common_steps)
