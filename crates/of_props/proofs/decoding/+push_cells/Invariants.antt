use Rattle.of_props.proofs.decoding.+push_cells.Given as goal

abbrev pub decreases-push_cells : goal.decreases-push_cells
decreases-push_cells l = l.count
