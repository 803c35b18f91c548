-- The goals at which wrong bodies are refused.
use Rattle.std.proofs.Common.{rules}
use Rattle.of_compile.proofs.coding.Coding.reserve_for.Goals as goal

pub returns-clause-ready : goal.returns-clause-ready
returns-clause-ready g c = search rules
