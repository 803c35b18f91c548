use Rattle.of_cell_code.proofs.NumbersLemmas.{length-numbers}
use Rattle.of_cell_code.proofs.cells.Cells.new.Goals as goal

pub returns : goal.returns
returns c = length-numbers c.in_ok-bytes.bytes.items 65536 c.in_ok-bytes.ensures.len
