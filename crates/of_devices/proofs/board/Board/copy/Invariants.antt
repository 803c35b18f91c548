use Rattle.std.proofs.Common.{◌≡◌, take}
use Rattle.of_devices.proofs.board.Board.copy.Given as goal

-- the parts so far
abbrev pub invariant-loop-part : goal.invariant-loop-part
invariant-loop-part l = l.parts.items ≡ take l.part-index l.fn.self.parts.items
