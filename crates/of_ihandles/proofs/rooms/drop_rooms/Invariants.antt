use Rattle.std.proofs.Common.{◌≡◌}
use Rattle.of_ihandles.specs.Rooms.{changed, roomless}
use Rattle.of_ihandles.proofs.rooms.drop_rooms.Given as goal

abbrev pub invariant-loop-i : goal.invariant-loop-i
invariant-loop-i l = l.made.items ≡ changed (roomless l.fn.«package») l.fn.made.items l.i
