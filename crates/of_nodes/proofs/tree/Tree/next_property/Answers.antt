use Rattle.std.proofs.Common.{rules}
use Rattle.of_nodes.proofs.tree.Tree.next_property.Goals as goal

pub returns : goal.returns
returns c = search rules
