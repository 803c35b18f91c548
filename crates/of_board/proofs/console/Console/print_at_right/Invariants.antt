use Rattle.std.proofs.Common.{◌≡◌, ◌+◌, ◌++◌, replicate, vec_len, vec_capacity}
use Rattle.of_board.proofs.console.Console.print_at_right.Given as goal

abbrev pub invariant-loop : goal.invariant-loop
invariant-loop l = record {
  text : l.self-inside.bytes.items ≡ l.initial.self-inside.bytes.items ++ replicate l.counter 32;
  len : vec_len l.self-inside.bytes ≡ vec_len l.initial.self-inside.bytes + l.counter;
  capacity : vec_capacity l.self-inside.bytes ≡ vec_capacity l.initial.self-inside.bytes;
}
