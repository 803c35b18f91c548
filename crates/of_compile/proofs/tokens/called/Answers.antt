use Rattle.std.proofs.Common.{rules}
use Rattle.of_compile.proofs.tokens.called.Goals as goal

pub returns-else-xt-lt-FIRST_OWN : goal.returns-else-xt-lt-FIRST_OWN
returns-else-xt-lt-FIRST_OWN c = search rules
