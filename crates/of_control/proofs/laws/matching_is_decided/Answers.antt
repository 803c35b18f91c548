use Rattle.of_control.proofs.LawLemmas.{matching_is_decided}
use Rattle.of_control.proofs.laws.matching_is_decided.Goals as goal

pub returns : goal.returns
returns g c = matching_is_decided g.row.A.Denot g.row.N
