use Rattle.std.proofs.Common.{rules}
use Rattle.of_nodes.proofs.tree.Tree.node_count.Goals as goal

pub returns-clause-count : goal.returns-clause-count
returns-clause-count c = search rules
