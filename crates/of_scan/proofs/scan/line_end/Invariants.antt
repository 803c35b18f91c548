use Rattle.std.proofs.Common.{◌≡◌, ◌≤◌, length}
use Rattle.of_scan.specs.Scan.{line_end}
use Rattle.of_scan.proofs.scan.line_end.Given as goal

abbrev pub invariant-loop-text : goal.invariant-loop-text
invariant-loop-text l = record {
  same : line_end l.text ≡ line_end l.initial.text;
  shorter : length l.text ≤ length l.initial.text;
}

abbrev pub decreases-loop-text : goal.decreases-loop-text
decreases-loop-text l = length l.text
