use Rattle.std.proofs.Common.{rules}
use Rattle.of_compile.proofs.words.Words.new.Goals as goal

pub returns : goal.returns
returns c = search rules
