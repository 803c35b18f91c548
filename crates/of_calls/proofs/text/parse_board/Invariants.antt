use Rattle.std.proofs.Common.{◌≡◌, ◌+◌, ◌≤◌, length}
use Rattle.of_calls.specs.Lines.{lines}
use Rattle.of_calls.specs.Boards.{parsed_board, part_in}
use Rattle.of_calls.specs.Said.{all_said, and_more}
use Rattle.of_calls.proofs.text.parse_board.Given as goal

-- the devices that were read and those of the text that is left are all
abbrev pub invariant-loop-left : goal.invariant-loop-left
invariant-loop-left l = record {
  all : and_more l.parts.items (all_said part_in l.number (lines l.left)) ≡ parsed_board l.text;
  few : l.number + length l.left ≤ 1 + length l.text;
}

abbrev pub decreases-loop-left : goal.decreases-loop-left
decreases-loop-left l = length l.left
