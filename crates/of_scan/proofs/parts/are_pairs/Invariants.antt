use Rattle.std.proofs.Common.{◌≡◌, is_some, length}
use Rattle.of_scan.specs.Parts.{paired}
use Rattle.of_scan.proofs.parts.are_pairs.Given as goal

abbrev pub invariant-loop-text : goal.invariant-loop-text
invariant-loop-text l = is_some (paired l.text) ≡ is_some (paired l.initial.text)

abbrev pub decreases-loop-text : goal.decreases-loop-text
decreases-loop-text l = length l.text
