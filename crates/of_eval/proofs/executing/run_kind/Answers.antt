use Rattle.std.proofs.Common.{rules}
use Rattle.of_eval.specs.Doing.{worked}
use Rattle.of_eval.proofs.executing.run_kind.Goals as goal

pub returns-in-None-clause-outcome : goal.returns-in-None-clause-outcome
unfolding worked
returns-in-None-clause-outcome g c = search rules
