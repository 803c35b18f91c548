use Rattle.std.proofs.Common.{◌≡◌, ◌≤◌, drop}
use Rattle.of_memory.proofs.Gap.{gap}
use Rattle.of_memory.proofs.blocks.first_gap.Given as goal

abbrev pub invariant-loop-i : goal.invariant-loop-i
invariant-loop-i l = record {
  on : l.next ≤ l.high;
  first : l.i ≡ 0 → l.next ≡ l.low;
  rest : gap l.high l.size l.i l.next (drop l.i l.blocks) ≡ gap l.high l.size 0 l.low l.blocks;
}
