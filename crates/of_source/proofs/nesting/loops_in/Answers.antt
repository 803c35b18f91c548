-- The goals at which wrong bodies are refused.
use Rattle.std.proofs.Common.{rules}
use Rattle.of_source.proofs.nesting.loops_in.Goals as goal

pub returns-in-Begin : goal.returns-in-Begin
returns-in-Begin c = search rules
