-- The goals at which wrong bodies are refused.
use Rattle.std.proofs.Common.{rules}
use Rattle.of_state.proofs.eval.Eval.has_due.Goals as goal

pub returns-in-Some : goal.returns-in-Some
returns-in-Some g c = search rules
