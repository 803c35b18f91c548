use Rattle.std.proofs.Common.{◌<◌, ℕ, get_or, arith}
use Rattle.of_cell_code.proofs.NumbersLemmas.{bytes_of_numbers}
use Rattle.of_cell_code.proofs.cells.first.Goals as goal

pub returns : goal.returns
returns c =
    let small : (k : ℕ) → get_or c.args.bytes.now k 0 < 256 = λ k. omega (arith, c.type_inv.bytes k) in
    bytes_of_numbers c.args.count c.args.bytes.now (omega arith) small
