use Rattle.std.proofs.Common.{rules}
use Rattle.of_fcodes.proofs.codes.operand_of.Goals as goal

pub returns-in-Some : goal.returns-in-Some
returns-in-Some c = search rules
