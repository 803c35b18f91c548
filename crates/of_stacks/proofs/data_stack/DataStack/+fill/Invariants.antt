use Rattle.of_stacks.proofs.data_stack.DataStack.+fill.Given as goal

abbrev pub decreases-fill : goal.decreases-fill
decreases-fill l = l.count
