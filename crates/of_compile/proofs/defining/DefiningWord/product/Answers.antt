use Rattle.std.proofs.Common.{rules}
use Rattle.of_compile.proofs.defining.DefiningWord.product.Goals as goal

pub returns-in_ok-offset-in-Field-clause-ok : goal.returns-in_ok-offset-in-Field-clause-ok
returns-in_ok-offset-in-Field-clause-ok c = search rules
