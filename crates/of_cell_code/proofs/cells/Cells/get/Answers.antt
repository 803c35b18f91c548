use Rattle.std.proofs.Common.{◌≡◌, ◌*◌, ◌-◌, take, drop, length, get_or, length-drop, sym, ap, ◌∙◌, arith}
use Rattle.std.proofs.lemmas.List.{take_all}
use Rattle.byteorder.specs.Endian.{big_number}
use Rattle.of_cell_code.proofs.NumbersLemmas.{get_or-numbers}
use Rattle.of_cell_code.proofs.cells.Cells.get.Goals as goal

pub returns : goal.returns
returns c =
    let bs = c.self.inside.bytes.items in
    let rest : take (length bs - 4 * c.args.at) (drop (4 * c.args.at) bs) ≡ drop (4 * c.args.at) bs =
    take_all (length bs - 4 * c.args.at) (drop (4 * c.args.at) bs)
    (omega (arith, length-drop (4 * c.args.at) bs)) in
    let read : c.read_u32.result ≡ big_number 4 (drop (4 * c.args.at) bs) =
    rw (c.deref.ensures.value, rest) at c.read_u32.ensures in
    read ∙ sym (get_or-numbers bs c.args.at (omega arith)) ∙ ap (λ xs. get_or xs c.args.at 0) c.self.view_is
