use Rattle.std.proofs.Common.{length}
use Rattle.of_state.proofs.throwing.+latest_source.Given as goal

abbrev pub decreases-latest_source : goal.decreases-latest_source
decreases-latest_source l = length l.items.now
