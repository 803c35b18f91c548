use Rattle.of_eval_laws.proofs.Square.{steps_agree}
use Rattle.of_eval_laws.proofs.laws.steps_agree.Goals as goal

pub returns : goal.returns
returns c = steps_agree c.structures_are_flat.ensures c.compiles_reading.ensures
