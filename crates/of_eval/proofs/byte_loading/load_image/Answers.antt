-- The goals at which wrong bodies are refused.
use Rattle.std.proofs.Common.{rules}
use Rattle.of_eval.specs.Doing.{worked}
use Rattle.of_eval.proofs.byte_loading.load_image.Goals as goal

pub returns-in-Err : goal.returns-in-Err
unfolding worked
returns-in-Err g c = search rules

pub returns : goal.returns
unfolding worked
returns g c = search rules
