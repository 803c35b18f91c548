-- The goals at which wrong bodies are refused.
use Rattle.std.proofs.Common.{rules}
use Rattle.of_code.proofs.list_code.ListCodeCodeStore.opened.Goals as goal

pub returns-clause-place : goal.returns-clause-place
returns-clause-place c = search rules
