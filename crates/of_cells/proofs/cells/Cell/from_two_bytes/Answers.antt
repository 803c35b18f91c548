-- The goals at which wrong bodies are refused.
use Rattle.std.proofs.Common.{rules}
use Rattle.of_cells.proofs.cells.Cell.from_two_bytes.Goals as goal

pub returns : goal.returns
returns c = search rules
