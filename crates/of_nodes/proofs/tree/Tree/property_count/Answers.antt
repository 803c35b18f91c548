use Rattle.std.proofs.Common.{rules}
use Rattle.of_nodes.proofs.tree.Tree.property_count.Goals as goal

pub returns : goal.returns
returns c = search rules
