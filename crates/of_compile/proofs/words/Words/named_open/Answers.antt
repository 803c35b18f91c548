-- The goals at which wrong bodies are refused.
use Rattle.std.proofs.Common.{rules}
use Rattle.of_compile.proofs.words.Words.named_open.Goals as goal

pub returns-clause-named : goal.returns-clause-named
returns-clause-named c = search rules
