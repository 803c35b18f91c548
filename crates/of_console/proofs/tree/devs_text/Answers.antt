use Rattle.std.proofs.Common.{rules}
use Rattle.of_console.proofs.tree.devs_text.Goals as goal

pub returns-clause-ok : goal.returns-clause-ok
returns-clause-ok c = search rules
