-- The goals at which wrong bodies are refused.
use Rattle.std.proofs.Common.{rules}
use Rattle.of_state.proofs.throwing.is_opened.Goals as goal

pub returns-in-Some : goal.returns-in-Some
returns-in-Some c = search rules
