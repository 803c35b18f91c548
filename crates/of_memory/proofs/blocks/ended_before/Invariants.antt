use Rattle.std.proofs.Common.{◌≡◌, ◌≤◌, ◌-◌, drop, find, length}
use Rattle.of_memory.specs.Blocks.{holds}
use Rattle.of_memory.specs.BlockSearch.{reach}
use Rattle.of_memory.proofs.blocks.ended_before.Given as goal

abbrev pub invariant-loop-low : goal.invariant-loop-low
invariant-loop-low l = record {
  order : l.low ≤ l.high;
  within : l.high ≤ length l.blocks;
  reach : reach (drop l.low l.blocks) l.addr ≡ reach l.blocks l.addr;
  holder : find (holds l.addr) (drop l.low l.blocks) ≡ find (holds l.addr) l.blocks;
}

abbrev pub decreases-loop-low : goal.decreases-loop-low
decreases-loop-low l = l.high - l.low
