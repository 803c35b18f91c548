use Rattle.std.proofs.Common.{arith}
use Rattle.of_ihandles.specs.Rooms.{roomless}
use Rattle.of_ihandles.proofs.RoomLoops.{put_changed}
use Rattle.of_ihandles.proofs.rooms.drop_rooms.Goals as goal

pub loop-i-preserved : goal.loop-i-preserved
loop-i-preserved c =
    put_changed (roomless c.args.«package») c.args.made.now.items c.loop-i.made.items c.loop-i.i _ _ (omega arith)
    c.loop-i.invariant c.index_mut.ensures.value c.drop_room.ensures
