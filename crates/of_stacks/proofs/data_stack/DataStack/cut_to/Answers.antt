use Rattle.std.proofs.Common.{rules}
use Rattle.of_stacks.proofs.data_stack.DataStack.cut_to.Goals as goal

pub returns-then-now-depth-clause-cells : goal.returns-then-now-depth-clause-cells
returns-then-now-depth-clause-cells c = search rules
