use Rattle.std.proofs.Common.{rules}
use Rattle.of_text.proofs.names.Names.xt.Goals as goal

pub returns-in-Some : goal.returns-in-Some
returns-in-Some c = search rules
