use Rattle.of_machine.proofs.StretchLemmas.{stretches_join}
use Rattle.of_machine.proofs.laws.stretches_join.Goals as goal

pub returns : goal.returns
returns c = stretches_join c.runs_agree.ensures
