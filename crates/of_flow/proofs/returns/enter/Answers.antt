-- The goals at which wrong bodies are refused.
use Rattle.std.proofs.Common.{rules}
use Rattle.of_flow.proofs.returns.enter.Goals as goal

pub returns-clause-value : goal.returns-clause-value
returns-clause-value c = search rules
