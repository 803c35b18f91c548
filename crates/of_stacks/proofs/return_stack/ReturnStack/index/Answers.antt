use Rattle.std.proofs.Common.{rules}
use Rattle.of_stacks.proofs.return_stack.ReturnStack.index.Goals as goal

pub returns-in_default : goal.returns-in_default
returns-in_default c = search rules
