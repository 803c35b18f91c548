-- The goals at which wrong bodies are refused.
use Rattle.std.proofs.Common.{rules}
use Rattle.of_code.proofs.item.Item.target_of.Goals as goal

pub returns-in-Branch : goal.returns-in-Branch
returns-in-Branch c = search rules
