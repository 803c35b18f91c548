use Rattle.std.proofs.Common.{◌≡◌, ◌≤◌, length}
use Rattle.of_calls.specs.Lines.{rest_behind}
use Rattle.of_calls.proofs.line.rest_behind.Given as goal

abbrev pub invariant-loop-i : goal.invariant-loop-i
invariant-loop-i l = record { rest : l.rest ≡ rest_behind l.i l.text; few : length l.rest ≤ length l.text }
