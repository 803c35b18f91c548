use Rattle.std.proofs.Common.{rules}
use Rattle.of_compile.proofs.dictionary_words.is_word.Goals as goal

pub returns-else-is_some : goal.returns-else-is_some
returns-else-is_some c = search rules
