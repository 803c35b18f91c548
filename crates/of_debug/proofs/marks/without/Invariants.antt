use Rattle.std.proofs.Common.{◌≡◌, ◌≤◌, take}
use Rattle.arrayvec.specs.ArrayVec.{array_vec_len}
use Rattle.of_debug.specs.Marks.{without}
use Rattle.of_debug.proofs.marks.without.Given as goal

abbrev pub invariant-loop-other : goal.invariant-loop-other
invariant-loop-other l = record {
  kept : l.kept.items ≡ without l.fn.mark (take l.other-index l.fn.marks);
  few : array_vec_len l.kept ≤ l.other-index;
}
