use Rattle.std.proofs.Common.{ap, ◌∙◌, arith}
use Rattle.of_ihandles.specs.Rooms.{changed, roomless, roomy}
use Rattle.of_ihandles.proofs.RoomLoops.{put_back, put_changed, rooms_undone}
use Rattle.of_ihandles.proofs.rooms.add_rooms.Goals as goal

pub returns-in-Err-clause-refused : goal.returns-in-Err-clause-refused
returns-in-Err-clause-refused c =
    let same = put_back c.loop-i.made.items c.loop-i.i _ _ c.index_mut.ensures.value c.in-Err.ensures.refused in
    c.drop_rooms.ensures
    ∙ ap (λ es. changed (roomless c.args.«package») es c.loop-i.i) (same ∙ c.loop-i.invariant)
    ∙ rooms_undone c.args.«package» c.args.made.now.items c.loop-i.i (omega arith)

pub loop-i-preserved : goal.loop-i-preserved
loop-i-preserved c =
    put_changed (roomy c.args.«package») c.args.made.now.items c.loop-i.made.items c.loop-i.i _ _ (omega arith)
    c.loop-i.invariant c.index_mut.ensures.value c.in-Ok.ensures.made
