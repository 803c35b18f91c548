use Rattle.std.proofs.Common.{◌≡◌}
use Rattle.of_commands.specs.Definitions.{definition_lines}
use Rattle.of_commands.proofs.definitions.all_definitions.Given as goal

-- the definitions of the words so far
abbrev pub invariant-loop-number : goal.invariant-loop-number
invariant-loop-number l = l.text.items ≡ definition_lines l.machine l.number
