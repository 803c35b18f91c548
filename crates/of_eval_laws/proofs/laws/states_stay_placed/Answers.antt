use Rattle.of_eval_laws.proofs.PlacedSteps.{states_stay_placed}
use Rattle.of_eval_laws.proofs.laws.states_stay_placed.Goals as goal

pub returns : goal.returns
returns c = states_stay_placed c.structures_are_flat.ensures
