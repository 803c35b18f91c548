-- The goals at which wrong bodies are refused.
use Rattle.std.proofs.Common.{rules}
use Rattle.of_code.proofs.item.Item.is_storable.Goals as goal

pub returns-in-Call : goal.returns-in-Call
returns-in-Call c = search rules
