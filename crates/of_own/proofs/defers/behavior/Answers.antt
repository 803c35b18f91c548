-- The goals at which wrong bodies are refused.
use Rattle.std.proofs.Common.{rules}
use Rattle.of_own.proofs.defers.behavior.Goals as goal

pub returns-in_ok-behavior-in-Some : goal.returns-in_ok-behavior-in-Some
returns-in_ok-behavior-in-Some c = search rules
