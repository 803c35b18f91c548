use Rattle.std.proofs.Common.{◌≡◌, ◌^◌, None, refl, arith, rules}
use Rattle.std.specs.List.{position}
use Rattle.of_memory.specs.Blocks.{is_block, rounded}
use Rattle.of_memory.proofs.Laid.{laid_remove, no_long}
use Rattle.of_memory.proofs.Filled.{filled_left}
use Rattle.of_memory.proofs.Begun.{laid_anywhere}
use Rattle.of_memory.proofs.blocks.give_block.Goals as goal

pub block_index-requires : goal.block_index-requires
block_index-requires c =
    rw c.deref.ensures.value (laid_anywhere c.args.low c.args.high (2 ^ 32) c.args.list.now.blocks.items
    (omega (arith, c.ranges.high.fits)) c.requires.laid)

pub returns-then-len-gt-LONGEST-clause-given : goal.returns-then-len-gt-LONGEST-clause-given
returns-then-len-gt-LONGEST-clause-given c =
    let bs = c.args.list.now.blocks.items in
    let size = rounded c.args.len in
    let none : position (is_block c.args.addr size) bs ≡ None =
    no_long c.args.low c.args.high c.args.addr size bs c.requires.laid (omega arith) in
    (rw none refl, refl)

pub returns-clause-given : goal.returns-clause-given
returns-clause-given c = search rules

pub returns-clause-laid : goal.returns-clause-laid
returns-clause-laid c =
    let bs = c.args.list.now.blocks.items in
    rw c.remove.ensures.items (laid_remove c.args.low c.args.high bs c.in-Some.i c.requires.laid)

pub returns-clause-filled : goal.returns-clause-filled
returns-clause-filled c =
    let list = c.args.list.now in
    let m = c.min-list.result in
    rw c.remove.ensures.items (filled_left c.args.low list.blocks.items m list.filled c.in-Some.i
    (omega (arith, c.min-list.ensures)) (omega (arith, c.min-list.ensures)) c.requires.filled)
