use Rattle.std.proofs.Common.{rules}
use Rattle.of_compile.proofs.compiling.abandon.Goals as goal

pub returns-clause-coding : goal.returns-clause-coding
returns-clause-coding g c = search rules

pub returns-clause-within : goal.returns-clause-within
returns-clause-within g c = search rules
