use Rattle.std.proofs.Common.{length}
use Rattle.of_stacks.proofs.throws.Throw.+counting.Given as goal

abbrev pub decreases-counting : goal.decreases-counting
decreases-counting l = length l.faults.now
