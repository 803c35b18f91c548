use Rattle.std.proofs.Common.{◌≡◌, length, get_or, sym, ap, arith}
use Rattle.of_memory.specs.Blocks.{rounded}
use Rattle.of_cells.specs.declared.cells.Cell.{Cell}
use Rattle.of_memory.proofs.Free.{too_long}
use Rattle.of_memory.proofs.Gap.{low_eighth, room_for}
use Rattle.of_memory.proofs.Room.{no_room}
use Rattle.of_memory.proofs.Filled.{filled_left}
use Rattle.of_memory.proofs.blocks.+has_room.Goals as goal

pub returns-then-len-gt-LONGEST-clause-value : goal.returns-then-len-gt-LONGEST-clause-value
returns-then-len-gt-LONGEST-clause-value t c =
    let bs = c.args.list.now.blocks.items in
    let ns = c.args.lengths.now in
    let d : Cell = record { 0 = 0 } in
    let size = rounded (get_or ns 0 d).0 in
    let none =
    too_long c.args.low c.args.high size bs (low_eighth c.args.low c.args.high bs c.requires.laid) (omega arith) in
    sym (no_room c.args.low c.args.high bs ns d c.in-len1-up.len_at_least none)

pub returns-in_default-insert-clause-value : goal.returns-in_default-insert-clause-value
returns-in_default-insert-clause-value t c =
    let bs = c.args.list.now.blocks.items in
    let same : length c.deref.result.now ≡ length bs = ap length c.deref.ensures.value in
    let more =
    room_for c.args.low c.args.high c.block_size-size.result c.in-Some.room.index c.in-Some.room.at c.deref.result.now
    c.in-Some.ensures.some in
    absurd (omega (arith, same, more, c.requires.room, c.in_default-insert.ensures.full))

pub returns-clause-filled : goal.returns-clause-filled
returns-clause-filled t c =
    let after = c.has_room-all.new.list in
    let m = c.min-list.result in
    rw c.remove.ensures.items (filled_left c.args.low after.blocks.items m after.filled c.in-Some.room.index
    (omega (arith, c.min-list.ensures)) (omega (arith, c.min-list.ensures)) c.has_room-all.ensures.filled)
