use Rattle.std.proofs.Common.{rules}
use Rattle.of_fcodes.proofs.codes.name_of.Goals as goal

pub returns-in-Some : goal.returns-in-Some
returns-in-Some c = search rules
