-- The goals at which wrong bodies are refused.
use Rattle.std.proofs.Common.{rules}
use Rattle.of_state.proofs.eval.Eval.answer_open.Goals as goal

pub returns-then-answer-eq0-clause-state : goal.returns-then-answer-eq0-clause-state
returns-then-answer-eq0-clause-state g c = search rules
