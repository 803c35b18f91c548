use Rattle.std.proofs.Common.{◌≡◌, ◌++◌, drop}
use Rattle.of_detok.specs.Digits.{pairs}
use Rattle.of_detok.proofs.line.write_pairs.Given as goal

abbrev pub invariant-loop-byte : goal.invariant-loop-byte
invariant-loop-byte l = l.out.items ++ pairs (drop l.byte-index l.bytes) ≡ l.fn.out.items ++ pairs l.bytes
