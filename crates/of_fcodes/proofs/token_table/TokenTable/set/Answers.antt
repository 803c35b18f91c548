use Rattle.std.proofs.Common.{rules}
use Rattle.of_fcodes.proofs.token_table.TokenTable.set.Goals as goal

pub returns : goal.returns
returns c = search rules
