use Rattle.std.proofs.Common.{rules}
use Rattle.of_compile.proofs.words.Words.is_word.Goals as goal

pub returns-clause-word : goal.returns-clause-word
returns-clause-word c = search rules
