use Rattle.std.proofs.Common.{set, ap, ◌∙◌, arith}
use Rattle.of_cell_code.proofs.NumbersLemmas.{numbers-set}
use Rattle.of_cell_code.proofs.cells.Cells.set.Goals as goal

pub returns : goal.returns
returns c =
    rw (c.put.ensures, c.write_u32.ensures)
    (numbers-set c.self.inside.bytes.items c.args.at c.args.value (omega arith) (omega arith))
    ∙ ap (λ xs. set xs c.args.at c.args.value) c.self.view_is
