-- The goals at which wrong bodies are refused.
use Rattle.std.proofs.Common.{rules}
use Rattle.of_state.proofs.eval.Eval.set_compiling.Goals as goal

pub returns : goal.returns
returns g c = search rules
