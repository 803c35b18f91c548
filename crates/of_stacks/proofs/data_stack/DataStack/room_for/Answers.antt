use Rattle.std.proofs.Common.{arith}
use Rattle.std.proofs.lemmas.Grind.{common_steps}
use Rattle.of_stacks.proofs.data_stack.DataStack.room_for.Goals as goal

pub returns-else-len-count-le256-clause-err : goal.returns-else-len-count-le256-clause-err
returns-else-len-count-le256-clause-err c = grind (arith, common_steps)
