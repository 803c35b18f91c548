use Rattle.std.proofs.Common.{◌≡◌}
use Rattle.of_ihandles.specs.Rooms.{changed, roomy}
use Rattle.of_ihandles.proofs.rooms.add_rooms.Given as goal

abbrev pub invariant-loop-i : goal.invariant-loop-i
invariant-loop-i l = l.made.items ≡ changed (roomy l.fn.«package») l.fn.made.items l.i
