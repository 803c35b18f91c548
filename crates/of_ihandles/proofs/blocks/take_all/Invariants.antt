use Rattle.std.proofs.Common.{◌≡◌, take, vec_capacity, vec_len}
use Rattle.of_ihandles.specs.Blocks.{spans}
use Rattle.of_ihandles.proofs.blocks.take_all.Given as goal

abbrev pub invariant-loop-i : goal.invariant-loop-i
invariant-loop-i l = record {
  blocks : l.list.items ≡ spans (take l.i l.addresses) (take l.i l.lengths);
  len : vec_len l.list ≡ l.i;
  room : vec_capacity l.list ≡ vec_capacity l.fn.list;
}
