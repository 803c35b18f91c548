-- The goals at which wrong bodies are refused.
use Rattle.std.proofs.Common.{rules}
use Rattle.of_code.proofs.list_code.ListCodeCodeStore.abandon.Goals as goal

pub returns-clause-code : goal.returns-clause-code
returns-clause-code c = search rules
