-- What fits in the property and image regions.
use Rattle.std.proofs.Common.{◌≡◌, ℕ, ◌+◌, ◌<◌, ◌≤◌, nat_le, nat_lt, true, false, ◌&&◌, ◌⊎◌, List, [], ◌∷◌}
use Rattle.std.proofs.lemmas.Bool.{le-leb}
use Rattle.std.proofs.Common.{length, Result, Ok, Err, lit≤, refl, arith}
use Rattle.std.proofs.lemmas.Bool.Decides.{nat_tests}
use Rattle.of_memory.specs.Regions.{image_limit, image_count}
use Rattle.of_memory.specs.declared.fault.MemFault.{MemFault}
use Rattle.of_memory.specs.declared.fault.MemFault.TheVariants.{Full}
use Rattle.of_memory.specs.DataSpace.{DataSpace, AreStacked, written, free_after}
use Rattle.of_memory.specs.Access.{with_read}
use Rattle.of_memory.specs.Growth.{image_pushed}

below : (x y : ℕ) → x < y → nat_lt x y ≡ true
below x y l = grind (arith, nat_tests)

not_below : (x y : ℕ) → y ≤ x → nat_lt x y ≡ false
not_below x y l = grind (arith, nat_tests)

either : (p q : ℕ) (a b : ℕ) → (b < a) ⊎ (q ≤ p) → (nat_le a b && nat_lt p q) ≡ false
either p q a b h = grind (arith, nat_tests)

-- the images lie in their region
pub stacked_limit : (ends : List ℕ) → AreStacked ends → free_after ends ≤ image_limit
stacked_limit [] h = lit≤ tt
stacked_limit (end ∷ ends) h = h.2

-- the data space with an image of n bytes after those that run
abbrev pub imaged : DataSpace → List ℕ → ℕ → DataSpace
imaged m xs n = record (written m (free_after m.images) xs) { images = (free_after m.images + n) ∷ m.images }

-- an image that is read and fits
pub image_fits :
    (m : DataSpace) (r : Result (List ℕ) MemFault) (xs : List ℕ) (n : ℕ) → r ≡ Ok xs → length xs ≡ n
    → free_after m.images + n ≤ image_limit → length m.images < image_count
    → with_read r (image_pushed m) ≡ Ok (free_after m.images, imaged m xs n)
image_fits m r xs n e len fits few =
    rw (e, len, le-leb (free_after m.images + n) image_limit fits, below (length m.images) image_count few) refl

-- and one that doesn't
pub image_full :
    (m : DataSpace) (r : Result (List ℕ) MemFault) (xs : List ℕ) (n : ℕ) → r ≡ Ok xs → length xs ≡ n
    → (image_limit < free_after m.images + n) ⊎ (image_count ≤ length m.images)
    → with_read r (image_pushed m) ≡ Err Full
image_full m r xs n e len full =
    rw (e, len, either (length m.images) image_count (free_after m.images + n) image_limit full) refl
