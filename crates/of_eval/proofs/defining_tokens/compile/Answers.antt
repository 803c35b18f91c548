-- The goal at which a wrong body is refused.
use Rattle.std.proofs.Common.{rules}
use Rattle.of_eval.specs.Doing.{worked}
use Rattle.of_eval.proofs.defining_tokens.compile.Goals as goal

pub returns-clause-outcome : goal.returns-clause-outcome
unfolding worked
returns-clause-outcome g c = search rules
