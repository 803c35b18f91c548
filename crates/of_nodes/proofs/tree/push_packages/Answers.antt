-- The goals at which wrong bodies are refused.
use Rattle.std.proofs.Common.{rules}
use Rattle.of_nodes.proofs.FirstTree.{thens}
use Rattle.of_nodes.proofs.tree.push_packages.Goals as goal

pub returns-clause-made : goal.returns-clause-made
returns-clause-made c = search (rules, thens)
