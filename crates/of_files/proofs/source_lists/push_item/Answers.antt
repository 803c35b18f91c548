-- The goal at which a wrong body is refused.
use Rattle.std.proofs.Common.{rules}
use Rattle.of_files.proofs.source_lists.push_item.Goals as goal

pub returns-in-Defining : goal.returns-in-Defining
returns-in-Defining c = search rules
