use Rattle.std.proofs.Common.{◌≡◌, take}
use Rattle.of_ihandles.specs.Instances.{lengths_of}
use Rattle.of_ihandles.proofs.instances.lengths_of.Given as goal

abbrev pub invariant-loop-slot : goal.invariant-loop-slot
invariant-loop-slot l = l.lengths.items ≡ lengths_of l.fn.arguments (take l.slot-index l.slots)
