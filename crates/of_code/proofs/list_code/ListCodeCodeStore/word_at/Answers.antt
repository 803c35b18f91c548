-- The goals at which wrong bodies are refused.
use Rattle.std.proofs.Common.{rules}
use Rattle.of_code.proofs.list_code.ListCodeCodeStore.word_at.Goals as goal

pub returns-in_err-latest_up_to : goal.returns-in_err-latest_up_to
returns-in_err-latest_up_to c = search rules
