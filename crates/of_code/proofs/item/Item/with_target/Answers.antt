-- The goals at which wrong bodies are refused.
use Rattle.std.proofs.Common.{rules}
use Rattle.of_code.proofs.item.Item.with_target.Goals as goal

pub returns-in-Of : goal.returns-in-Of
returns-in-Of c = search rules
