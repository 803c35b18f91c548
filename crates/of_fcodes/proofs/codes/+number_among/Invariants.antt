use Rattle.std.proofs.Common.{length}
use Rattle.of_fcodes.proofs.codes.+number_among.Given as goal

-- the places that are left
abbrev pub decreases-number_among : goal.decreases-number_among
decreases-number_among l = length l.places.now
