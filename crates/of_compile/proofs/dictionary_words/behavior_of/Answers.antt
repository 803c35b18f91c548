use Rattle.std.proofs.Common.{rules}
use Rattle.of_compile.proofs.dictionary_words.behavior_of.Goals as goal

pub returns-in-Some-Defer : goal.returns-in-Some-Defer
returns-in-Some-Defer c = search rules
