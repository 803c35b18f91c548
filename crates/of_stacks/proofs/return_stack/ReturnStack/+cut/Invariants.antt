use Rattle.std.proofs.Common.{length}
use Rattle.of_stacks.proofs.return_stack.ReturnStack.+cut.Given as goal

abbrev pub decreases-cut : goal.decreases-cut
decreases-cut l = length l.self.now
