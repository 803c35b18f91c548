use Rattle.std.proofs.Common.{length}
use Rattle.of_fcodes.proofs.written.+word_among.Given as goal

-- the places that are left
abbrev pub decreases-word_among : goal.decreases-word_among
decreases-word_among l = length l.places.now
