use Rattle.std.proofs.Common.{rules}
use Rattle.of_compile.proofs.compiling.resolve.Goals as goal

pub returns-in-Some-clause-coding : goal.returns-in-Some-clause-coding
returns-in-Some-clause-coding g c = search rules
