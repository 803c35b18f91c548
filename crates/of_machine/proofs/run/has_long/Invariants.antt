use Rattle.std.proofs.Common.{◌≡◌, length, map}
use Rattle.of_machine.specs.Runs.{has_long}
use Rattle.of_machine.proofs.run.has_long.Given as goal

-- the lines before are short
abbrev pub invariant-loop-rest : goal.invariant-loop-rest
invariant-loop-rest l = has_long (map (λ x. x.items) l.rest) ≡ has_long (map (λ x. x.items) l.lines)

abbrev pub decreases-loop-rest : goal.decreases-loop-rest
decreases-loop-rest l = length l.rest
