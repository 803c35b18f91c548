use Rattle.of_control.proofs.LawLemmas.{jumps_stay_inside}
use Rattle.of_control.proofs.laws.jumps_stay_inside.Goals as goal

pub returns : goal.returns
returns g c = jumps_stay_inside g.row.A.Denot g.row.N
