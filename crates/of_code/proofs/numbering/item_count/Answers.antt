-- The goals at which wrong bodies are refused.
use Rattle.std.proofs.Common.{rules}
use Rattle.of_code.proofs.numbering.item_count.Goals as goal

pub returns : goal.returns
returns c = search rules
