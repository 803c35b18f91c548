-- The goals at which wrong bodies are refused.
use Rattle.std.proofs.Common.{rules}
use Rattle.of_format.proofs.pictured.Pictured.text.Goals as goal

pub returns-clause-address : goal.returns-clause-address
returns-clause-address c = search rules
