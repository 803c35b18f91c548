use Rattle.of_check.proofs.Ordered.{findings_are_ordered}
use Rattle.of_check.proofs.laws.findings_are_ordered.Goals as goal

pub returns : goal.returns
returns c = findings_are_ordered c.tokens_stand_alone.ensures
