use Rattle.std.proofs.Common.{rules}
use Rattle.of_stacks.proofs.return_stack.ReturnStack.user.Goals as goal

pub returns-in-None : goal.returns-in-None
returns-in-None c = search rules
