use Rattle.of_instances.proofs.Openings.{instances_open}
use Rattle.of_instances.proofs.laws.instances_open.Goals as goal

pub returns : goal.returns
returns c =
    instances_open c.ihandles_are_new.ensures c.instances_begin.ensures c.words_keep_the_space.ensures
