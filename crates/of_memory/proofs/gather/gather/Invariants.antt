use Rattle.of_memory.proofs.Gathered.{Falling, Rising}
use Rattle.of_memory.proofs.gather.gather.Given as goal

abbrev pub invariant-loop-left : goal.invariant-loop-left
invariant-loop-left l = Falling l.fn.bytes l.from l.to l.len l.spread l.bytes l.left

abbrev pub decreases-loop-left : goal.decreases-loop-left
decreases-loop-left l = l.left

abbrev pub invariant-loop-i : goal.invariant-loop-i
invariant-loop-i l = Rising l.fn.bytes l.from l.to l.len l.spread l.bytes l.i
