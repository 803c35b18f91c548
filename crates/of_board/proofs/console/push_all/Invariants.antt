use Rattle.std.proofs.Common.{◌≡◌, ◌+◌, ◌++◌, take, vec_len, vec_capacity}
use Rattle.of_board.proofs.console.push_all.Given as goal

abbrev pub invariant-loop-byte : goal.invariant-loop-byte
invariant-loop-byte l = record {
  text : l.bytes.items ≡ l.fn.bytes.items ++ take l.byte-index l.text;
  len : vec_len l.bytes ≡ vec_len l.fn.bytes + l.byte-index;
  capacity : vec_capacity l.bytes ≡ vec_capacity l.fn.bytes;
}
