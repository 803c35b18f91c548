use Rattle.std.proofs.Common.{◌≡◌, ◌++◌, take}
use Rattle.of_nodes.proofs.components.push_bytes.Given as goal

abbrev pub invariant-loop-byte : goal.invariant-loop-byte
invariant-loop-byte l = l.text.items ≡ l.fn.text.items ++ take l.byte-index l.bytes
