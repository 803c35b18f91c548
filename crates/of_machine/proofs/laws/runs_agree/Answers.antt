use Rattle.of_machine.proofs.AgreeLemmas.{runs_agree}
use Rattle.of_machine.proofs.laws.runs_agree.Goals as goal

pub returns : goal.returns
returns c = runs_agree c.steps_agree.ensures c.states_stay_placed.ensures
