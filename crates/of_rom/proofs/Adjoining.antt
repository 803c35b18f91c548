-- The images of a ROM are those that adjoin from its start on.
use Rattle.std.proofs.Common.{◌≡◌, ◌<◌, ◌≤◌, ◌+◌, ℕ, zero, suc, List, [], ◌∷◌, Option, Some, None, Result, Ok, Err}
use Rattle.std.proofs.Common.{Bool, true, false, if◌then◌else◌, length, refl, ap, subst, arith}
use Rattle.std.proofs.lemmas.List.{drop_all}
use Rattle.of_rom.specs.declared.fault.RomFault.{RomFault}
use Rattle.of_rom.specs.declared.fault.RomFault.TheVariants.{NoSignature}
use Rattle.of_rom.specs.declared.image.RomImage.{RomImage}
use Rattle.of_rom.specs.Images.{end_of, image_at}
use Rattle.of_rom.specs.Roms.{Images, image_before, images_by, images_from}
use Rattle.of_rom.specs.Laws.{Adjoin, GoesOn, ImagesAdjoin, IsImage}
use Rattle.of_rom.proofs.Said.{read_stands, stands_read}

-- no image stands at the end
at_end : (rom : List ℕ) (at : ℕ) → length rom ≤ at → image_at rom at ≡ Err (NoSignature at)
unfolding image_at
at_end rom at h = rw (drop_all at rom h) refl

-- an image ends behind its beginning
longer : (rom : List ℕ) (at : ℕ) (i : RomImage) → IsImage rom at i → at < end_of i
longer rom at i h =
    let b : i.offset ≡ at = h.begins in
    let f : 0 < i.length = h.filled in
    omega arith

going : (b : Bool) (rom : List ℕ) (end : ℕ) (r : Images) → Adjoin rom end r.0 r.1
    → GoesOn b (if b then ([], None) else r).0 (if b then ([], None) else r).1
    (Adjoin rom end (if b then ([], None) else r).0 (if b then ([], None) else r).1)
going true rom end r h = (refl, refl)
going false rom end r h = h

adjoin_by : (rom : List ℕ) (at : ℕ) (r : Result RomImage RomFault) (behind : ℕ → Images) → image_at rom at ≡ r
    → ((i : RomImage) → image_at rom at ≡ Ok i → Adjoin rom (end_of i) (behind (end_of i)).0 (behind (end_of i)).1)
    → Adjoin rom at (images_by r behind).0 (images_by r behind).1
adjoin_by rom at (Err f) behind e rest = e
adjoin_by rom at (Ok i) behind e rest =
    (read_stands rom at i e, going i.is_last rom (end_of i) (behind (end_of i)) (rest i e))

-- the images from a place on adjoin, where there may be as many as there are bytes
adjoin : (n : ℕ) (rom : List ℕ) (at : ℕ) → length rom ≤ n + at
    → Adjoin rom at (images_from rom n at).0 (images_from rom n at).1
adjoin zero rom at h = at_end rom at (omega (arith, h))
adjoin (suc n) rom at h =
    adjoin_by rom at (image_at rom at) (images_from rom n) refl
    (λ i e. adjoin n rom (end_of i)
    (let l : at < end_of i = longer rom at i (read_stands rom at i e) in omega (arith, h, l)))

follows : (b : Bool) (images : List RomImage) (f : Option RomFault) (r : Images) (Others : Type 0)
    → GoesOn b images f Others → (Others → ◌≡◌ {A = Images} r (images, f))
    → ◌≡◌ {A = Images} (if b then ([], None) else r) (images, f)
follows true images f r Others h rest = rw (h.0, h.1) refl
follows false images f r Others h rest = rest h

-- and no others do
alone : (images : List RomImage) (n : ℕ) (rom : List ℕ) (at : ℕ) (f : Option RomFault) → length rom ≤ n + at
    → Adjoin rom at images f → ◌≡◌ {A = Images} (images_from rom n at) (images, f)
alone [] n rom at None l h = absurd h
alone [] zero rom at (Some f) l h =
    let e : image_at rom at ≡ Err (NoSignature at) = at_end rom at (omega (arith, l)) in
    let same : NoSignature at ≡ f = cc in
    ap (λ (g : RomFault). ([], Some g)) same
alone [] (suc n) rom at (Some f) l h = rw h refl
alone (i ∷ images) zero rom at f l h =
    let e : image_at rom at ≡ Err (NoSignature at) = at_end rom at (omega (arith, l)) in
    let r : image_at rom at ≡ Ok i = stands_read rom at i h.0 in
    absurd cc
alone (i ∷ images) (suc n) rom at f l h =
    let longer : at < end_of i = longer rom at i h.0 in
    rw (stands_read rom at i h.0) (
    ap (image_before i) (follows i.is_last images f (images_from rom n (end_of i)) _ h.1
    (alone images n rom (end_of i) f (omega (arith, l, longer))))
    )

pub images_adjoin : ImagesAdjoin
images_adjoin rom images f = (
  λ e. subst (λ (r : Images). Adjoin rom 0 r.0 r.1) e (adjoin (length rom) rom 0 (omega arith)),
  λ h. alone images (length rom) rom 0 f (omega arith) h,
)
