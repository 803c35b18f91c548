use Rattle.std.proofs.Common.{◌+◌, ◌≤◌, length, map}
use Rattle.of_calls.specs.Scripts.{command_of}
use Rattle.of_script.proofs.PlayLemmas.{LeadsTo}
use Rattle.of_script.proofs.playing.play.Given as goal

-- what the commands that are left lead to is what all of them do
abbrev pub invariant-loop-command : goal.invariant-loop-command
invariant-loop-command g l = record {
  leads :
      LeadsTo (map command_of l.fn.script) l.fn.debugger l.line (map command_of l.rest) l.debugger l.text.items;
  few : l.line + length l.rest ≤ 1 + length l.fn.script;
}

abbrev pub decreases-loop-command : goal.decreases-loop-command
decreases-loop-command g l = length l.rest
