use Rattle.std.proofs.Common.{length}
use Rattle.of_board.proofs.devices.+release_since.Given as goal

abbrev pub decreases-release_since : goal.decreases-release_since
decreases-release_since l = length l.opened.now
