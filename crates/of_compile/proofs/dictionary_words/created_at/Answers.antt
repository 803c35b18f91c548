use Rattle.std.proofs.Common.{rules}
use Rattle.of_compile.proofs.dictionary_words.created_at.Goals as goal

pub loop-number-init : goal.loop-number-init
loop-number-init c = search rules
