use Rattle.std.proofs.Common.{◌≡◌, ◌++◌, length, option_map}
use Rattle.of_scan.specs.Parts.{paired}
use Rattle.of_scan.proofs.parts.append_pairs.Given as goal

-- the bytes so far and what is left are the bytes of all pairs
abbrev pub invariant-loop-digits : goal.invariant-loop-digits
invariant-loop-digits l =
    option_map (λ b. l.out.items ++ b) (paired l.digits)
    ≡ option_map (λ b. l.initial.out.items ++ b) (paired l.initial.digits)

abbrev pub decreases-loop-digits : goal.decreases-loop-digits
decreases-loop-digits l = length l.digits
