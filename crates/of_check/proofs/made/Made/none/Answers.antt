use Rattle.of_check.specs.Table.{none_made}
use Rattle.of_check.proofs.Making.{no_made}
use Rattle.of_check.proofs.made.Made.none.Goals as goal

pub returns : goal.returns
unfolding none_made
returns c = no_made 4096 _ _ _ c.new-table.ensures.items c.new-table.ensures.len c.in_ok-resize.ensures.items
