-- The latest image lies in its region, and is the one that was pushed.
use Rattle.std.proofs.Common.{◌≡◌, ℕ, ◌+◌, ◌-◌, ◌≤◌, Bool, true, false, List, [], ◌∷◌}
use Rattle.std.proofs.Common.{length, reverse, get_or, refl, sym, ap, ◌∙◌, arith}
use Rattle.std.proofs.lemmas.List.{get_or-reverse, length-reverse}
use Rattle.of_memory.specs.Regions.{place_of, image_start, image_limit}
use Rattle.of_memory.specs.DataSpace.{DataSpace, IsSound, AreStacked, free_after, written}
use Rattle.of_memory.specs.Growth.{image_fits}
use Rattle.of_memory.specs.Images.{latest_start, latest_image, LatestIsPushed}
use Rattle.of_memory.proofs.Joined.{read_back}

-- the latest of the images lies in the region
pub record Stands (ends : List ℕ) : Type 0 where
  pub from : image_start ≤ latest_start ends
  pub to : latest_start ends ≤ free_after ends
  pub within : free_after ends ≤ image_limit

pub latest_stands : (ends : List ℕ) → AreStacked ends → Stands ends
latest_stands [] h = record { from = omega arith; to = omega arith; within = omega arith }
latest_stands (end ∷ ends) h = record { from = h.0; to = h.1; within = h.2 }

second_is : (ends : List ℕ) → 2 ≤ length ends → get_or ends 1 0 ≡ latest_start ends
second_is [] h = absurd (omega arith)
second_is (end ∷ []) h = absurd (omega arith)
second_is (end ∷ start ∷ ends) h = refl

-- the last end but one of the array
pub start_of_latest : (ends : List ℕ) → 2 ≤ length ends
    → get_or ends (length ends - 2) 0 ≡ latest_start (reverse ends)
start_of_latest ends h =
    ap (λ k. get_or ends k 0) (omega arith) ∙ sym (get_or-reverse ends 1 0 (omega arith))
    ∙ second_is (reverse ends) (omega (arith, length-reverse ends))

-- the data space with an image after those that run
abbrev with_image : DataSpace → List ℕ → DataSpace
with_image m xs =
    record (written m (free_after m.images) xs) { images = (free_after m.images + length xs) ∷ m.images }

-- what was pushed reads back
image_is : (m : DataSpace) (xs : List ℕ) → IsSound m → free_after m.images + length xs ≤ image_limit
    → latest_image (with_image m xs) ≡ xs
image_is m xs sound fits =
    let stands = latest_stands m.images sound.images in
    let size : free_after m.images + length xs - free_after m.images ≡ length xs = omega arith in
    let low : image_start ≤ free_after m.images = omega (arith, stands.from, stands.to) in
    let room : place_of (free_after m.images) + length xs ≤ length m.bytes = omega (arith, sound.bytes, low, fits) in
    rw size (read_back m.bytes xs (place_of (free_after m.images)) room)

pub latest_is_pushed : LatestIsPushed
latest_is_pushed m after xs a sound e = go (image_fits m (length xs)) refl
  where
    go : (b : Bool) → image_fits m (length xs) ≡ b → (latest_image after ≡ xs) × (latest_start after.images ≡ a)
    go true h =
        let same = rw h at e in
        let one : ◌≡◌ {A = ℕ × DataSpace} (free_after m.images, with_image m xs) (a, after) = cc in
        let left : with_image m xs ≡ after = ap (λ (p : ℕ × DataSpace). p.1) one in
        let fits : free_after m.images + length xs ≤ image_limit = grind (arith) in
        (rw (← left) (image_is m xs sound fits), rw (← left) (ap (λ (p : ℕ × DataSpace). p.0) one))
    go false h = let no = rw h at e in absurd cc
