use Rattle.std.proofs.Common.{◌≡◌, ◌≤◌, ◌-◌, drop, length}
use Rattle.of_memory.specs.BlockSearch.{reach}
use Rattle.of_memory.proofs.blocks.covers.Given as goal

abbrev pub invariant-loop-i : goal.invariant-loop-i
invariant-loop-i l = record {
  on : l.addr ≤ l.next;
  rest : reach (drop l.i l.blocks) l.next ≡ reach l.blocks l.addr;
}

abbrev pub decreases-loop-i : goal.decreases-loop-i
decreases-loop-i l = length l.blocks - l.i
