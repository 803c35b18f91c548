-- The goals at which wrong bodies are refused.
use Rattle.std.proofs.Common.{rules}
use Rattle.of_format.proofs.pictured.Pictured.hold.Goals as goal

pub returns-clause-text : goal.returns-clause-text
returns-clause-text c = search rules
