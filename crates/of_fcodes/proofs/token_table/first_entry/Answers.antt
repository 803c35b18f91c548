use Rattle.std.proofs.Common.{rules}
use Rattle.of_fcodes.proofs.token_table.first_entry.Goals as goal

pub returns-in-Some : goal.returns-in-Some
returns-in-Some c = search rules
