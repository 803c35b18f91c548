-- The goals at which wrong bodies are refused.
use Rattle.std.proofs.Common.{rules}
use Rattle.of_code.proofs.item.Item.cells.Goals as goal

pub returns-in-String : goal.returns-in-String
returns-in-String c = search rules
