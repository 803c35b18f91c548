use Rattle.std.proofs.Common.{rules}
use Rattle.of_compile.proofs.compiling.append_endof.Goals as goal

pub returns-clause-coding : goal.returns-clause-coding
returns-clause-coding g c = search rules
