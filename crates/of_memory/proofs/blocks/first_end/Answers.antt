use Rattle.std.proofs.Common.{sym, arith}
use Rattle.of_memory.specs.declared.blocks.Block.{Block}
use Rattle.of_memory.proofs.Filled.{end_before}
use Rattle.of_memory.proofs.blocks.first_end.Goals as goal

pub overflow_add-result : goal.overflow_add-result
overflow_add-result c =
    let d : Block = record { at = 0; size = 0 } in
    let end = end_before c.args.low c.args.blocks.now c.args.count d c.requires.within (omega arith) in
    omega (arith, end, c.requires.fits)

pub returns : goal.returns
returns c =
    let d : Block = record { at = 0; size = 0 } in
    sym (end_before c.args.low c.args.blocks.now c.args.count d c.requires.within (omega arith))
