-- The goals at which wrong bodies are refused.
use Rattle.std.proofs.Common.{rules}
use Rattle.of_code.proofs.list_code.ListCodeCodeStore.item_and_next.Goals as goal

pub returns-clause-item : goal.returns-clause-item
returns-clause-item c = search rules
