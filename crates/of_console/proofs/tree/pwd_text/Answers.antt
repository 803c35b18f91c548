use Rattle.std.proofs.Common.{rules}
use Rattle.of_console.proofs.NodeTexts.{line_joined}
use Rattle.of_console.proofs.tree.pwd_text.Goals as goal

pub returns-clause-ok : goal.returns-clause-ok
returns-clause-ok c = search (line_joined, rules)
