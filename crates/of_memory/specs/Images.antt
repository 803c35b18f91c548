-- The latest of the images that run.
use Rattle.std.specs.Prelude.{ℕ, ◌-◌, List, [], ◌∷◌, ◌≡◌, Ok}
use Rattle.of_memory.specs.Regions.{image_start}
use Rattle.of_memory.specs.DataSpace.{DataSpace, IsSound, bytes_from, free_after}
use Rattle.of_memory.specs.Growth.{image_pushed}

-- where the latest image begins, by the ends of the images that run; the beginning of the region where none runs
abbrev pub latest_start : List ℕ → ℕ
latest_start [] = image_start
latest_start (end ∷ ends) = free_after ends

-- the bytes of the latest image; none where none runs
abbrev pub latest_image : DataSpace → List ℕ
latest_image m = bytes_from m (latest_start m.images) (free_after m.images - latest_start m.images)

-- an image that was pushed is the latest, at the address that was answered
abbrev pub LatestIsPushed : Type 0
LatestIsPushed = (m after : DataSpace) (xs : List ℕ) (a : ℕ) → IsSound m → image_pushed m xs ≡ Ok (a, after)
    → (latest_image after ≡ xs) × (latest_start after.images ≡ a)
