use Rattle.std.proofs.Common.{length}
use Rattle.of_stacks.proofs.loops.+index_inside.Given as goal

abbrev pub decreases-index_inside : goal.decreases-index_inside
decreases-index_inside l = length l.items.now
