use Rattle.std.proofs.Common.{length}
use Rattle.of_nodes.proofs.lookup.+way.Given as goal

abbrev pub decreases-way : goal.decreases-way
decreases-way l = length l.text.now
