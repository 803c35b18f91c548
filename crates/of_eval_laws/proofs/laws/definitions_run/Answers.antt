use Rattle.of_eval_laws.proofs.GoingLemmas.{definitions_run}
use Rattle.of_eval_laws.proofs.laws.definitions_run.Goals as goal

pub returns : goal.returns
returns c = definitions_run c.runs_by_structure.ensures
