use Rattle.std.proofs.Common.{◌≤◌, ◌-◌, length}
use Rattle.of_memory.specs.BlockSearch.{begun}
use Rattle.of_memory.proofs.blocks.begun_before.Given as goal

abbrev pub invariant-loop-low : goal.invariant-loop-low
invariant-loop-low l = record {
  from : l.low ≤ begun l.addr l.blocks;
  to : begun l.addr l.blocks ≤ l.high;
  within : l.high ≤ length l.blocks;
}

abbrev pub decreases-loop-low : goal.decreases-loop-low
decreases-loop-low l = l.high - l.low
