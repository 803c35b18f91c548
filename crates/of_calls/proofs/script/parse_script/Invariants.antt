use Rattle.std.proofs.Common.{◌≡◌, ◌+◌, ◌≤◌, length, map}
use Rattle.of_calls.specs.Lines.{lines}
use Rattle.of_calls.specs.Scripts.{command_of, parsed_script, script_in}
use Rattle.of_calls.specs.Said.{all_said, and_more}
use Rattle.of_calls.proofs.script.parse_script.Given as goal

-- the commands that were read and those of the text that is left are all
abbrev pub invariant-loop-left : goal.invariant-loop-left
invariant-loop-left l = record {
  all : and_more (map command_of l.commands.items) (all_said script_in l.number (lines l.left)) ≡ parsed_script l.text;
  few : l.number + length l.left ≤ 1 + length l.text;
}

abbrev pub decreases-loop-left : goal.decreases-loop-left
decreases-loop-left l = length l.left
