use Rattle.std.proofs.Common.{◌≡◌, ◌++◌, map, take}
use Rattle.of_margin.specs.Margin.{shown}
use Rattle.of_margin.proofs.margin.push_shown.Given as goal

abbrev pub invariant-loop-byte : goal.invariant-loop-byte
invariant-loop-byte l = l.out.items ≡ l.fn.out.items ++ map shown (take l.byte-index l.bytes)
