-- The goals at which wrong bodies are refused.
use Rattle.std.proofs.Common.{rules}
use Rattle.of_nodes.proofs.tree.Tree.component_of.Goals as goal

pub returns-clause-found : goal.returns-clause-found
returns-clause-found c = search rules
