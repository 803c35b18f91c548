use Rattle.std.proofs.Common.{◌≡◌, ◌++◌, length, map}
use Rattle.std.specs.String.{string_bytes}
use Rattle.of_machine.specs.States.{reply_shown}
use Rattle.of_commands.specs.Clients.{reply_lines}
use Rattle.of_commands.proofs.clients.reply_lines.Given as goal

-- the lines so far, and those of the replies that are left
abbrev pub invariant-loop-rest : goal.invariant-loop-rest
invariant-loop-rest l =
    string_bytes l.text ++ reply_lines (map reply_shown l.rest) ≡ reply_lines (map reply_shown l.replies)

abbrev pub decreases-loop-rest : goal.decreases-loop-rest
decreases-loop-rest l = length l.rest
