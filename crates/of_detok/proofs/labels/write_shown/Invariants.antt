use Rattle.std.proofs.Common.{◌≡◌, ◌++◌, map, drop}
use Rattle.of_detok.specs.Labels.{shown}
use Rattle.of_detok.proofs.labels.write_shown.Given as goal

abbrev pub invariant-loop-byte : goal.invariant-loop-byte
invariant-loop-byte l = l.out.items ++ map shown (drop l.byte-index l.text) ≡ l.fn.out.items ++ map shown l.text
