-- The goals at which wrong bodies are refused.
use Rattle.std.proofs.Common.{arith, rules}
use Rattle.of_nodes.proofs.TextParts.{behinds}
use Rattle.of_nodes.proofs.texts.behind.Goals as goal

pub returns-in-Some-clause-value : goal.returns-in-Some-clause-value
returns-in-Some-clause-value c = grind (arith, behinds)

pub returns-in-Some-clause-shorter : goal.returns-in-Some-clause-shorter
returns-in-Some-clause-shorter c = search rules
