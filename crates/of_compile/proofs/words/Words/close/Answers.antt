use Rattle.std.proofs.Common.{rules}
use Rattle.of_compile.proofs.words.Words.close.Goals as goal

pub returns-in-Some : goal.returns-in-Some
returns-in-Some c = search rules
