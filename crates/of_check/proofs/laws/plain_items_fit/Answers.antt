use Rattle.of_check.proofs.Judging.{plain_items_fit}
use Rattle.of_check.proofs.laws.plain_items_fit.Goals as goal

pub returns : goal.returns
returns c = plain_items_fit c.closed_is_read.ensures
