use Rattle.std.proofs.Common.{rules}
use Rattle.of_compile.proofs.dictionary_words.stored_kind.Goals as goal

pub returns-in-Some-Value : goal.returns-in-Some-Value
returns-in-Some-Value c = search rules
