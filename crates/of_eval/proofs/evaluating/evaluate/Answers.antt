-- The goal at which wrong bodies are refused.
use Rattle.std.proofs.Common.{rules}
use Rattle.of_eval.specs.Doing.{worked}
use Rattle.of_eval.proofs.evaluating.evaluate.Goals as goal

pub returns : goal.returns
unfolding worked
returns g c = search rules
