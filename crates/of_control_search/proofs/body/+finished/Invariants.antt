use Rattle.of_control_search.proofs.body.+finished.Given as goal

abbrev pub decreases-finished : goal.decreases-finished
decreases-finished l = l.left
