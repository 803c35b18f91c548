-- The goals at which wrong bodies are refused.
use Rattle.std.proofs.Common.{rules}
use Rattle.of_compile.proofs.words.Words.may_define.Goals as goal

pub returns-then-is_none : goal.returns-then-is_none
returns-then-is_none c = search rules

pub returns-else-is_none : goal.returns-else-is_none
returns-else-is_none c = search rules
