use Rattle.std.proofs.Common.{length}
use Rattle.of_stacks.proofs.return_stack.ReturnStack.+end_source.Given as goal

abbrev pub decreases-end_source : goal.decreases-end_source
decreases-end_source l = length l.self.now
