use Rattle.std.proofs.Common.{rules}
use Rattle.of_stacks.proofs.Reversed.{reverse_snoc}
use Rattle.of_stacks.proofs.data_stack.DataStack.push.Goals as goal

pub returns : goal.returns
returns c = search (rules, reverse_snoc)
