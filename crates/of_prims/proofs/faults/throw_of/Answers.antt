-- The goals at which wrong bodies are refused.
use Rattle.std.proofs.Common.{rules}
use Rattle.of_prims.proofs.faults.throw_of.Goals as goal

pub returns-in-Alignment : goal.returns-in-Alignment
returns-in-Alignment c = search rules
