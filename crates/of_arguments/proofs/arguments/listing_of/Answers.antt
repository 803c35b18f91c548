-- The goals at which wrong bodies are refused.
use Rattle.std.proofs.Common.{rules}
use Rattle.of_arguments.proofs.arguments.listing_of.Goals as goal

pub returns-in-true-true : goal.returns-in-true-true
returns-in-true-true c = search rules
