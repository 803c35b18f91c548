-- The goals at which wrong bodies are refused.
use Rattle.std.proofs.Common.{rules}
use Rattle.of_source.proofs.source.Source.items.Goals as goal

pub returns-clause-items : goal.returns-clause-items
returns-clause-items c = search rules
