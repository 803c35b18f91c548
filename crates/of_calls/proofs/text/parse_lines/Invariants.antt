use Rattle.std.proofs.Common.{◌≡◌, ◌+◌, ◌≤◌, length, map}
use Rattle.of_calls.specs.Lines.{lines}
use Rattle.of_calls.specs.ConsoleLines.{line_in, parsed_lines}
use Rattle.of_calls.specs.Said.{all_said, and_more}
use Rattle.of_calls.proofs.text.parse_lines.Given as goal

-- the lines that were read and those of the text that is left are all
abbrev pub invariant-loop-left : goal.invariant-loop-left
invariant-loop-left l = record {
  all : and_more (map (λ x. x.items) l.lines.items) (all_said line_in l.number (lines l.left)) ≡ parsed_lines l.text;
  few : l.number + length l.left ≤ 1 + length l.text;
}

abbrev pub decreases-loop-left : goal.decreases-loop-left
decreases-loop-left l = length l.left
