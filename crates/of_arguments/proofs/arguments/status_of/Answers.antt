-- The goals at which wrong bodies are refused.
use Rattle.std.proofs.Common.{rules}
use Rattle.of_arguments.proofs.arguments.status_of.Goals as goal

pub returns-in_default : goal.returns-in_default
returns-in_default c = search rules
