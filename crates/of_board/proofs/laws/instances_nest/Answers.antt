use Rattle.of_board.proofs.Nest.{instances_nest}
use Rattle.of_board.proofs.laws.instances_nest.Goals as goal

pub returns : goal.returns
returns c = instances_nest c.ihandles_are_new.ensures
