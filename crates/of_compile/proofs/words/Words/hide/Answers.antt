use Rattle.std.proofs.Common.{rules}
use Rattle.of_compile.proofs.WordsLemmas.{newest_changed}
use Rattle.of_compile.proofs.words.Words.hide.Goals as goal

pub returns : goal.returns
returns c = search (rules, newest_changed)
