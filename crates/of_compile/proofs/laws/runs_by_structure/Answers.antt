use Rattle.of_compile.proofs.RunLemmas.{runs_by_structure}
use Rattle.of_compile.proofs.laws.runs_by_structure.Goals as goal

pub returns : goal.returns
returns c = runs_by_structure c.runs_by_places.ensures c.runs_by_points.ensures
