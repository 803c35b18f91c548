-- The goals at which wrong bodies are refused.
use Rattle.std.proofs.Common.{rules}
use Rattle.of_eval.specs.Doing.{acted, worked}
use Rattle.of_eval.proofs.tokens.call_named.Goals as goal

pub returns-then-not-is_word : goal.returns-then-not-is_word
unfolding acted worked
returns-then-not-is_word g c = search rules

pub returns-in_err-compile : goal.returns-in_err-compile
unfolding acted worked
returns-in_err-compile g c = search rules

pub returns : goal.returns
unfolding acted worked
returns g c = search rules
