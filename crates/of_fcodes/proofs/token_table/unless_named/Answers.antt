use Rattle.std.proofs.Common.{rules}
use Rattle.of_fcodes.proofs.token_table.unless_named.Goals as goal

pub returns-in-Some-2 : goal.returns-in-Some-2
returns-in-Some-2 c = search rules
