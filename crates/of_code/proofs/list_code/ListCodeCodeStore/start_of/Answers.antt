-- The goals at which wrong bodies are refused.
use Rattle.std.proofs.Common.{rules}
use Rattle.of_code.proofs.list_code.ListCodeCodeStore.start_of.Goals as goal

pub returns : goal.returns
returns c = search rules
