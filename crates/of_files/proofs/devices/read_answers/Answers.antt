-- The goals at which wrong bodies are refused.
use Rattle.std.proofs.Common.{rules}
use Rattle.of_files.proofs.Replies.{answers_read, answers_refused}
use Rattle.of_files.proofs.devices.read_answers.Goals as goal

pub returns-in-Ok-clause-ok : goal.returns-in-Ok-clause-ok
returns-in-Ok-clause-ok g c = search (rules, answers_read)

pub returns-clause-err : goal.returns-clause-err
returns-clause-err g c = search (rules, answers_refused)
