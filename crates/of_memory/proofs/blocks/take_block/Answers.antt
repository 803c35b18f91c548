use Rattle.std.proofs.Common.{◌≡◌, length, inr, refl, ap, arith}
use Rattle.of_memory.specs.Blocks.{rounded}
use Rattle.of_memory.proofs.Free.{too_long}
use Rattle.of_memory.proofs.Gap.{low_eighth, room_for}
use Rattle.of_memory.proofs.blocks.take_block.Goals as goal

pub returns-then-len-gt-LONGEST-clause-taken : goal.returns-then-len-gt-LONGEST-clause-taken
returns-then-len-gt-LONGEST-clause-taken c =
    let bs = c.args.list.now.blocks.items in
    let size = rounded c.args.len in
    let none =
    too_long c.args.low c.args.high size bs (low_eighth c.args.low c.args.high bs c.requires.laid) (omega arith) in
    (refl, inr (rw none refl))

pub returns-in_err-insert-clause-room : goal.returns-in_err-insert-clause-room
returns-in_err-insert-clause-room c room refused =
    let bs = c.args.list.now.blocks.items in
    let same : length c.deref.result.now ≡ length bs = ap length c.deref.ensures.value in
    let more =
    room_for c.args.low c.args.high c.block_size-size.result c.in-Some.room.index c.in-Some.room.at c.deref.result.now
    c.in-Some.ensures.some in
    absurd (omega (arith, room, same, more, c.in_err-insert.ensures.full))
