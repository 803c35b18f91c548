use Rattle.std.proofs.Common.{◌≡◌, length}
use Rattle.of_prims.specs.Memory.{order_of}
use Rattle.of_prims.proofs.memory_words.order_of.Given as goal

abbrev pub invariant-loop-first : goal.invariant-loop-first
invariant-loop-first l = order_of l.first l.second ≡ order_of l.fn.first l.fn.second

abbrev pub decreases-loop-first : goal.decreases-loop-first
decreases-loop-first l = length l.first
