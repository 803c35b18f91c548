use Rattle.std.proofs.Common.{rules}
use Rattle.of_compile.specs.Coding.{finishing}
use Rattle.of_compile.proofs.WithinLemmas.{closed_within}
use Rattle.of_compile.proofs.compiling.semicolon.Goals as goal

pub returns-in-Ok-clause-outcome : goal.returns-in-Ok-clause-outcome
unfolding finishing
returns-in-Ok-clause-outcome g c = search rules

pub returns-in-Ok-clause-within : goal.returns-in-Ok-clause-within
returns-in-Ok-clause-within g c = search (rules, closed_within)

pub returns-in-Err-clause-outcome : goal.returns-in-Err-clause-outcome
unfolding finishing
returns-in-Err-clause-outcome g c = search rules
