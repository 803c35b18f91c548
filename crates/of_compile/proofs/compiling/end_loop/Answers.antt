use Rattle.std.proofs.Common.{rules}
use Rattle.of_compile.proofs.compiling.end_loop.Goals as goal

pub returns-clause-code : goal.returns-clause-code
returns-clause-code g c = search rules
