use Rattle.std.proofs.Common.{◌≡◌, ◌≤◌, ◌+◌, length, take, drop}
use Rattle.arrayvec.specs.ArrayVec.{array_vec_len}
use Rattle.of_instances.proofs.cells.cells_under.Given as goal

abbrev pub invariant-loop-i : goal.invariant-loop-i
invariant-loop-i l = record {
  cells : l.cells.items ≡ take l.i (drop l.others l.stack);
  len : array_vec_len l.cells ≡ l.i;
  there : l.others + l.i ≤ length l.stack;
}
