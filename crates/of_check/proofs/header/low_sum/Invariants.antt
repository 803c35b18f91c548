use Rattle.std.proofs.Common.{◌≡◌, ◌%◌, take}
use Rattle.std.specs.List.{sum}
use Rattle.of_check.proofs.header.low_sum.Given as goal

abbrev pub invariant-loop-byte : goal.invariant-loop-byte
invariant-loop-byte l = l.sum ≡ sum (take l.byte-index l.bytes) % 65536
