-- The goals at which wrong bodies are refused.
use Rattle.std.proofs.Common.{rules}
use Rattle.of_prims.proofs.memory_words.order_of.Goals as goal

pub returns-then-x-y : goal.returns-then-x-y
returns-then-x-y c = search rules

pub returns-then-y-x : goal.returns-then-y-x
returns-then-y-x c = search rules
