-- The goals at which wrong bodies are refused.
use Rattle.std.proofs.Common.{rules}
use Rattle.of_code.proofs.list_code.ListCodeCodeStore.item_at.Goals as goal

pub returns-in_err-get-clause-item : goal.returns-in_err-get-clause-item
returns-in_err-get-clause-item c = search rules

pub returns-clause-item : goal.returns-clause-item
returns-clause-item c = search rules
