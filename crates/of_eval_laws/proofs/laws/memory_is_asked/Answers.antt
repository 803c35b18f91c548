use Rattle.of_eval_laws.proofs.AskingLemmas.{memory_is_asked}
use Rattle.of_eval_laws.proofs.laws.memory_is_asked.Goals as goal

pub returns-clause-cells : goal.returns-clause-cells
returns-clause-cells c = memory_is_asked

pub returns-clause-bodies : goal.returns-clause-bodies
returns-clause-bodies c = memory_is_asked
