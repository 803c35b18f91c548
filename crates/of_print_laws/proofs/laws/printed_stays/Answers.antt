use Rattle.of_compile.specs.Coding.{Coding}
use Rattle.of_compile.specs.Structured.{Definitions}
use Rattle.of_print_laws.proofs.Steps.{printed_stays}
use Rattle.of_print_laws.proofs.laws.printed_stays.Goals as goal

pub returns-clause-cells : goal.returns-clause-cells
returns-clause-cells c = printed_stays Coding

pub returns-clause-bodies : goal.returns-clause-bodies
returns-clause-bodies c = printed_stays Definitions
