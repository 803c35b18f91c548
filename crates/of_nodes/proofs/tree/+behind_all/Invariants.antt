use Rattle.of_nodes.proofs.tree.+behind_all.Given as goal

abbrev pub decreases-behind_all : goal.decreases-behind_all
decreases-behind_all l = l.most
