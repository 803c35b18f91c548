use Rattle.std.proofs.Common.{◌≡◌, drop}
use Rattle.of_ihandles.specs.Blocks.{begun}
use Rattle.of_ihandles.proofs.blocks.Blocks.begin_each.Given as goal

abbrev pub invariant-loop-slot : goal.invariant-loop-slot
invariant-loop-slot l =
    begun l.memory l.rest (drop l.slot-index l.slots) ≡ begun l.fn.memory l.fn.self l.slots
