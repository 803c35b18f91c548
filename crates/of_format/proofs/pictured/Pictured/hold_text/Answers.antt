-- The goals at which wrong bodies are refused.
use Rattle.std.proofs.Common.{rules}
use Rattle.of_format.proofs.pictured.Pictured.hold_text.Goals as goal

pub returns-then-text-len-clause-text : goal.returns-then-text-len-clause-text
returns-then-text-len-clause-text c = search rules
