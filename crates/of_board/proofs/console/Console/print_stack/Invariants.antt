use Rattle.std.proofs.Common.{◌≡◌, ◌+◌, ◌*◌, ◌≤◌, ◌++◌, take, reverse, vec_len, vec_capacity}
use Rattle.of_board.specs.Text.{stack_text}
use Rattle.of_board.proofs.console.Console.print_stack.Given as goal

abbrev pub invariant-loop-x : goal.invariant-loop-x
invariant-loop-x l = record {
  text : l.self-inside.bytes.items ≡ l.initial.self-inside.bytes.items
      ++ stack_text l.base (reverse (take l.x-index l.cells));
  len : vec_len l.self-inside.bytes ≤ vec_len l.initial.self-inside.bytes + 34 * l.x-index;
  capacity : vec_capacity l.self-inside.bytes ≡ vec_capacity l.initial.self-inside.bytes;
}
