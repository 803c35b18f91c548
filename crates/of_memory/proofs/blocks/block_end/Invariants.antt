use Rattle.std.proofs.Common.{◌≡◌, ◌-◌, drop, find, length}
use Rattle.of_memory.specs.Blocks.{holds}
use Rattle.of_memory.proofs.blocks.block_end.Given as goal

abbrev pub invariant-loop-i : goal.invariant-loop-i
invariant-loop-i l = find (holds l.addr) (drop l.i l.blocks) ≡ find (holds l.addr) l.blocks

abbrev pub decreases-loop-i : goal.decreases-loop-i
decreases-loop-i l = length l.blocks - l.i
