use Rattle.std.proofs.Common.{◌≡◌, ◌≤◌, length}
use Rattle.of_scan.specs.Scan.{pairs, bytes_before}
use Rattle.of_scan.proofs.scan.read_pairs.Given as goal

-- what is left gives the rest of the bytes
abbrev pub invariant-loop-text : goal.invariant-loop-text
invariant-loop-text l = record {
  same : bytes_before l.out.items (pairs l.text) ≡ bytes_before l.initial.out.items (pairs l.initial.text);
  shorter : length l.text ≤ length l.initial.text;
}

abbrev pub decreases-loop-text : goal.decreases-loop-text
decreases-loop-text l = length l.text
