-- The goals at which wrong bodies are refused.
use Rattle.std.proofs.Common.{rules}
use Rattle.of_arguments.proofs.status.Status.code.Goals as goal

pub returns-in-AnswersOut : goal.returns-in-AnswersOut
returns-in-AnswersOut c = search rules

pub returns-in-LimitReached : goal.returns-in-LimitReached
returns-in-LimitReached c = search rules
