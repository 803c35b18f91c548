use Rattle.of_own.proofs.Holding.{slots_hold}
use Rattle.of_own.proofs.laws.slots_hold.Goals as goal

pub returns : goal.returns
returns c = slots_hold c.slots_are_own.ensures
