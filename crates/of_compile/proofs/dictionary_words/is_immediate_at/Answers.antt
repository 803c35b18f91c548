-- The goal at which a wrong body is refused.
use Rattle.std.proofs.Common.{rules}
use Rattle.of_compile.proofs.WordsLemmas.{own_is}
use Rattle.of_compile.proofs.dictionary_words.is_immediate_at.Goals as goal

pub returns-in-Some : goal.returns-in-Some
returns-in-Some c = search (rules, own_is)
