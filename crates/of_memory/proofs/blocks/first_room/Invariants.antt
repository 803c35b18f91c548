use Rattle.std.proofs.Common.{◌≡◌, ◌≤◌, ◌-◌, length}
use Rattle.of_memory.specs.BlockSearch.{IsFilled, first_end}
use Rattle.of_memory.proofs.blocks.first_room.Given as goal

abbrev pub invariant-loop-count : goal.invariant-loop-count
invariant-loop-count l = record {
  within : l.count ≤ length l.blocks;
  filled : IsFilled l.low l.blocks l.count;
  end : l.next ≡ first_end l.low l.blocks l.count;
}

abbrev pub decreases-loop-count : goal.decreases-loop-count
decreases-loop-count l = length l.blocks - l.count
