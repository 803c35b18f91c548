use Rattle.std.proofs.Common.{◌≡◌, ◌+◌, ◌-◌, take, length}
use Rattle.of_stacks.proofs.data_stack.DataStack.drop_top.Given as goal

abbrev pub invariant-loop-dropped : goal.invariant-loop-dropped
invariant-loop-dropped l = record {
  cells : l.self-inside.cells.items ≡ take (length l.initial.self-inside.cells.items - l._dropped)
      l.initial.self-inside.cells.items;
  len : length l.self-inside.cells.items + l._dropped ≡ length l.initial.self-inside.cells.items;
}
