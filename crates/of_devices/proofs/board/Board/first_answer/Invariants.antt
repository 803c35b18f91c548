use Rattle.std.proofs.Common.{◌≡◌, map}
use Rattle.of_devices.specs.Parts.{part_meant}
use Rattle.of_devices.specs.Racks.{NoneBefore}
use Rattle.of_devices.proofs.board.Board.first_answer.Given as goal

-- no part so far takes the question
abbrev pub invariant-loop-i : goal.invariant-loop-i
invariant-loop-i l = record {
  none : NoneBefore (map part_meant l.self.parts.items) l.query l.i;
  same : l.self.parts.items ≡ l.fn.self.parts.items;
}
