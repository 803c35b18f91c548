use Rattle.std.proofs.Common.{length}
use Rattle.of_nodes.proofs.lookup.+walk.Given as goal

abbrev pub decreases-walk : goal.decreases-walk
decreases-walk l = length l.text.now
