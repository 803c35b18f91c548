use Rattle.std.proofs.Common.{◌≡◌, ◌+◌, ◌≤◌, length, map}
use Rattle.of_client.specs.Services.{service_of}
use Rattle.of_calls.specs.Lines.{lines}
use Rattle.of_calls.specs.Calls.{call_in, parsed}
use Rattle.of_calls.specs.Said.{all_said, and_more}
use Rattle.of_calls.proofs.text.parse.Given as goal

-- the calls that were read and those of the text that is left are all
abbrev pub invariant-loop-left : goal.invariant-loop-left
invariant-loop-left l = record {
  all : and_more (map service_of l.calls.items) (all_said call_in l.number (lines l.left)) ≡ parsed l.text;
  few : l.number + length l.left ≤ 1 + length l.text;
}

abbrev pub decreases-loop-left : goal.decreases-loop-left
decreases-loop-left l = length l.left
