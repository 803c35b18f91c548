use Rattle.std.proofs.Common.{rules}
use Rattle.of_compile.proofs.words.TokenMaker.name.Goals as goal

pub returns-in-Named-2 : goal.returns-in-Named-2
returns-in-Named-2 c = search rules
