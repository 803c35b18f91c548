-- The goals at which wrong bodies are refused.
use Rattle.std.proofs.Common.{rules}
use Rattle.of_control.proofs.control.Control.leave.Goals as goal

pub returns-then-not-has_do_sys : goal.returns-then-not-has_do_sys
returns-then-not-has_do_sys c = search rules
