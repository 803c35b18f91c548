use Rattle.std.proofs.Common.{◌≡◌, ◌≤◌, drop, vec_len}
use Rattle.of_ihandles.specs.Rooms.{fills}
use Rattle.of_ihandles.proofs.RoomLoops.{filling_left}
use Rattle.of_ihandles.proofs.rooms.fill_rooms.Given as goal

abbrev pub invariant-loop-i : goal.invariant-loop-i
invariant-loop-i l = record {
  filled : filling_left l.fn.«package» l.made.items l.i (drop l.next l.blocks)
      ≡ fills l.fn.«package» l.fn.made.items l.blocks;
  few : l.next ≤ l.i;
  len : vec_len l.made ≡ vec_len l.fn.made;
}
