-- The law `images_run`: what writes, a new image and the end of the latest leave of the images that run.
use Rattle.std.proofs.Common.{◌≡◌, ℕ, ◌+◌, ◌-◌, ◌≤◌, Bool, true, false, List, [], ◌∷◌, length, take, drop}
use Rattle.std.proofs.Common.{replicate, Result, Ok, Err, refl, sym, ap, ◌∙◌, subst, arith, nat_le, nat_lt}
use Rattle.std.proofs.Common.{if◌then◌else◌}
use Rattle.std.specs.Prelude.{◌&&◌}
use Rattle.std.proofs.lemmas.Bool.{and_parts, leb-true}
use Rattle.std.proofs.lemmas.List.{drop-drop, length-replicate, places, same_lists}
use Rattle.of_memory.specs.declared.fault.MemFault.{MemFault}
use Rattle.of_memory.specs.declared.fault.MemFault.TheVariants.{Full}
use Rattle.of_memory.specs.DataSpace.{AreStacked, DataSpace, IsSound, bytes_from, free_after, splice, written}
use Rattle.of_memory.specs.Growth.{image_popped, image_pushed, without_image}
use Rattle.of_memory.specs.ImageRegion.{KeepsImages}
use Rattle.of_memory.specs.Images.{LatestIsPushed, latest_image}
use Rattle.of_memory.specs.Regions.{byte_count, image_count, image_limit, image_start, place_of}
use Rattle.of_eval_laws.specs.Running.{AllRun, RunningImage, images_to, running}

-- ---- what stands

-- the bytes up to an address of the image region are the same
abbrev AgreesTo : ℕ → DataSpace → DataSpace → Type 0
AgreesTo end m after =
    (p n : ℕ) → 0x14_0000 ≤ p → p + n ≤ place_of end → take n (drop p after.bytes) ≡ take n (drop p m.bytes)

low_place : (a : ℕ) → image_start ≤ a → a ≤ image_limit → 0x14_0000 ≤ place_of a
low_place a from to = omega (arith, from, to)

end_place : (a end : ℕ) → image_start ≤ a → a ≤ end → end ≤ image_limit → place_of a + (end - a) ≤ place_of end
end_place a end from most to = omega (arith, from, most, to)

less_place : (a end : ℕ) → image_start ≤ a → a ≤ end → end ≤ image_limit → place_of a ≤ place_of end
less_place a end from most to = omega (arith, from, most, to)

same_image : (m after : DataSpace) (a n : ℕ) (rest others : List RunningImage)
    → bytes_from after a n ≡ bytes_from m a n → rest ≡ others
    → ◌≡◌ {A = List RunningImage} (record { begin = a; bytes = bytes_from after a n } ∷ rest)
    (record { begin = a; bytes = bytes_from m a n } ∷ others)
same_image m after a n rest others e r =
    ap (λ (x : List ℕ). record { begin = a; bytes = x } ∷ rest) e
    ∙ ap (λ (x : List RunningImage). record { begin = a; bytes = bytes_from m a n } ∷ x) r

images_same : (m after : DataSpace) (ends : List ℕ) → AreStacked ends → AgreesTo (free_after ends) m after
    → images_to after ends ≡ images_to m ends
images_same m after [] h agrees = refl
images_same m after (end ∷ ends) h agrees =
    let a = free_after ends in
    let lower = less_place a end h.0 h.1 h.2 in
    same_image m after a (end - a) (images_to after ends) (images_to m ends)
    (agrees (place_of a) (end - a) (low_place a h.0 (omega (arith, h.1, h.2))) (end_place a end h.0 h.1 h.2))
    (images_same m after ends h.3 (λ p n l e. agrees p n l (omega (arith, e, lower))))

behind : (xs : List ℕ) (p : ℕ) → 0x14_0000 ≤ p → drop p xs ≡ drop (p - 0x14_0000) (drop 0x14_0000 xs)
behind xs p l =
    let whole : 0x14_0000 + (p - 0x14_0000) ≡ p = omega (arith, l) in
    sym (drop-drop (p - 0x14_0000) 0x14_0000 xs ∙ ap (λ k. drop k xs) whole)

-- where the image region is as it was, so are all bytes from there on
pub all_run : (m after : DataSpace) → AreStacked m.images → KeepsImages m after → AllRun m after
all_run m after stacked h =
    ap (λ ends. images_to after ends) h.0
    ∙ images_same m after m.images stacked
    (λ p n l e. ap (λ xs. take n xs)
    (behind after.bytes p l ∙ ap (λ xs. drop (p - 0x14_0000) xs) h.1 ∙ sym (behind m.bytes p l)))

-- ---- images that begin and end

kept_before : (xs ys : List ℕ) (i p n : ℕ) → i + length ys ≤ length xs → p + n ≤ i
    → take n (drop p (splice xs i ys)) ≡ take n (drop p xs)
kept_before xs ys i p n fits below = same_lists _ _ (grind (arith, places)) (λ k d h. grind (arith, places))

-- bytes written behind an address of the region leave those before it
written_agrees : (m : DataSpace) (a : ℕ) (ys : List ℕ) → length m.bytes ≡ byte_count → image_start ≤ a
    → a + length ys ≤ image_limit → AgreesTo a m (written m a ys)
written_agrees m a ys full from to p n l e =
    kept_before m.bytes ys (place_of a) p n (omega (arith, full, from, to)) e

zeros_fit : (end a : ℕ) → a ≤ end → end ≤ image_limit → a + length (replicate {A = ℕ} (end - a) 0) ≤ image_limit
zeros_fit end a l to = omega (arith, length-replicate {A = ℕ} (end - a) 0)

popped_from : (m : DataSpace) (ends : List ℕ) → m.images ≡ ends → IsSound m
    → running (without_image m ends) ≡ drop 1 (running m)
popped_from m [] e s = ap (λ x. images_to m x) e ∙ sym (ap (λ x. drop 1 (images_to m x)) e)
popped_from m (end ∷ ends) e s =
    let h : AreStacked (end ∷ ends) = subst (λ x. AreStacked x) e s.images in
    let a = free_after ends in
    let zeros = replicate (end - a) 0 in
    images_same m (record (written m a zeros) { images = ends }) ends h.3
    (written_agrees m a zeros s.bytes h.0 (zeros_fit end a h.1 h.2))
    ∙ sym (ap (λ x. drop 1 (images_to m x)) e)

-- the latest has ended, and the others run
pub popped : (m : DataSpace) → IsSound m → running (image_popped m) ≡ drop 1 (running m)
popped m s = popped_from m m.images refl s

free_from : (ends : List ℕ) → AreStacked ends → image_start ≤ free_after ends
free_from [] h = omega arith
free_from (end ∷ ends) h = omega (arith, h.0, h.1)

-- the data space with an image more
abbrev pub with_image : DataSpace → List ℕ → DataSpace
with_image m xs =
    record (written m (free_after m.images) xs) { images = (free_after m.images + length xs) ∷ m.images }

-- one more runs
abbrev pub Pushed : DataSpace → ℕ → List ℕ → DataSpace → Type 0
Pushed m a xs after = running after ≡ record { begin = a; bytes = xs } ∷ running m

with_image_runs : (m : DataSpace) (xs : List ℕ) → IsSound m → free_after m.images + length xs ≤ image_limit
    → bytes_from (with_image m xs) (free_after m.images) (free_after m.images + length xs - free_after m.images) ≡ xs
    → Pushed m (free_after m.images) xs (with_image m xs)
with_image_runs m xs s to e =
    let from = free_from m.images s.images in
    ap (λ (x : List ℕ). record { begin = free_after m.images; bytes = x } ∷ images_to (with_image m xs) m.images) e
    ∙ ap (λ (x : List RunningImage). record { begin = free_after m.images; bytes = xs } ∷ x)
    (images_same m (with_image m xs) m.images s.images (written_agrees m (free_after m.images) xs s.bytes from to))

abbrev answer_if : Bool → DataSpace → List ℕ → Result (ℕ × DataSpace) MemFault
answer_if true m xs = Ok (free_after m.images, with_image m xs)
answer_if false m xs = Err Full

pushed_if : (b : Bool) (m after : DataSpace) (xs : List ℕ) (a : ℕ)
    → (nat_le (free_after m.images + length xs) image_limit && nat_lt (length m.images) image_count) ≡ b → IsSound m
    → answer_if b m xs ≡ Ok (a, after)
    → latest_image after ≡ xs → Pushed m a xs after
pushed_if true m after xs a h s e latest =
    let one : ◌≡◌ {A = ℕ × DataSpace} (free_after m.images, with_image m xs) (a, after) = cc in
    let both =
    and_parts (nat_le (free_after m.images + length xs) image_limit) (nat_lt (length m.images) image_count) h in
    let fits = leb-true (free_after m.images + length xs) image_limit both.0 in
    let left : with_image m xs ≡ after = ap (λ (p : ℕ × DataSpace). p.1) one in
    subst (λ (p : ℕ × DataSpace). Pushed m p.0 xs p.1) one
    (with_image_runs m xs s fits
    (subst (λ x. latest_image x ≡ xs) (sym left) latest))
pushed_if false m after xs a h s e latest = absurd cc

answer_is : (b : Bool) (m : DataSpace) (xs : List ℕ)
    → answer_if b m xs
    ≡ if◌then◌else◌ {A = Result (ℕ × DataSpace) MemFault} b (Ok (free_after m.images, with_image m xs)) (Err Full)
answer_is true m xs = refl
answer_is false m xs = refl

pub pushed : (l : LatestIsPushed) (m after : DataSpace) (xs : List ℕ) (a : ℕ) → IsSound m
    → image_pushed m xs ≡ Ok (a, after) → Pushed m a xs after
pushed l m after xs a sound e =
    let b = nat_le (free_after m.images + length xs) image_limit && nat_lt (length m.images) image_count in
    pushed_if b m after xs a refl sound (answer_is b m xs ∙ e) (l m after xs a sound e).0
