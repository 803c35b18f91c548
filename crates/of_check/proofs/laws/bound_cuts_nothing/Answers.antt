use Rattle.of_check.proofs.Bound.{cuts_nothing}
use Rattle.of_check.proofs.laws.bound_cuts_nothing.Goals as goal

pub returns : goal.returns
returns c = cuts_nothing c.tokens_stand_alone.ensures
