use Rattle.of_machine.proofs.EventLemmas.{calls_agree}
use Rattle.of_machine.proofs.laws.calls_agree.Goals as goal

pub returns : goal.returns
returns c = calls_agree c.steps_agree.ensures c.states_stay_placed.ensures
