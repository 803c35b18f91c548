use Rattle.std.proofs.Common.{rules}
use Rattle.of_compile.proofs.tokens.forward.Goals as goal

pub returns-then-goes_back : goal.returns-then-goes_back
returns-then-goes_back c = search rules
