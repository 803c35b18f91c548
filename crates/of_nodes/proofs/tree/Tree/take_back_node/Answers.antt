-- The goals at which wrong bodies are refused.
use Rattle.std.proofs.Common.{arith, rules}
use Rattle.of_nodes.proofs.NodeLists.{taken_back}
use Rattle.of_nodes.proofs.tree.Tree.take_back_node.Goals as goal

pub invariant_of-self : goal.invariant_of-self
invariant_of-self c = grind (arith, taken_back)

pub returns : goal.returns
returns c = search rules
