use Rattle.std.proofs.Common.{length}
use Rattle.of_memory.proofs.blocks.+has_room.Given as goal

abbrev pub decreases-has_room : goal.decreases-has_room
decreases-has_room l = length l.lengths.now
