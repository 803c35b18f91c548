-- The quotient rounded down and what it leaves give the number back.
use Rattle.std.proofs.Common.{◌≡◌, ◌≢◌, zero, suc, ℤ, pos, negsuc, ◌+ℤ◌, ◌*ℤ◌, arith, refl}
use Rattle.std.proofs.lemmas.Int.{ints}
use Rattle.of_cells.specs.Division.{floored, rest, HasSignOf}

pub floored-back : (n d : ℤ) → d ≢ pos 0 → floored n d *ℤ d +ℤ rest n d ≡ n
floored-back (pos n) (pos d) h = omega (arith, ints)
floored-back (negsuc n) (pos zero) h = absurd (h refl)
floored-back (negsuc n) (pos (suc d)) h = omega (arith, ints)
floored-back (pos zero) (negsuc d) h = omega (arith, ints)
floored-back (pos (suc n)) (negsuc d) h = omega (arith, ints)
floored-back (negsuc n) (negsuc d) h = omega (arith, ints)

pub rest_has_sign : (n d : ℤ) → d ≢ pos 0 → HasSignOf (rest n d) d
rest_has_sign (pos n) (pos zero) h = absurd (h refl)
rest_has_sign (pos n) (pos (suc d)) h = (omega (arith, ints), omega (arith, ints))
rest_has_sign (negsuc n) (pos zero) h = absurd (h refl)
rest_has_sign (negsuc n) (pos (suc d)) h = (omega (arith, ints), omega (arith, ints))
rest_has_sign (pos zero) (negsuc d) h = (omega (arith, ints), omega (arith, ints))
rest_has_sign (pos (suc n)) (negsuc d) h = (omega (arith, ints), omega (arith, ints))
rest_has_sign (negsuc n) (negsuc d) h = (omega (arith, ints), omega (arith, ints))
