-- A step of the walk over images, over variables.
use Rattle.std.proofs.Common.{◌≡◌, ℕ, suc, ◌+◌, ◌-◌, ◌<◌, ◌≤◌, List, [], ◌∷◌, ◌++◌, Option, Some, None}
use Rattle.std.proofs.Common.{Result, Ok, Err, Bool, true, false, if◌then◌else◌, refl, sym, ap, ◌∙◌, arith}
use Rattle.std.proofs.Common.{append_assoc, slice_range}
use Rattle.std.proofs.lemmas.List.{append-nil}
use Rattle.of_rom.specs.declared.fault.RomFault.{RomFault}
use Rattle.of_rom.specs.declared.fault.RomFault.TheVariants.{NoSignature}
use Rattle.of_rom.specs.declared.image.RomImage.{RomImage}
use Rattle.of_rom.specs.Images.{end_of, image_at}
use Rattle.of_rom.specs.Roms.{Images, first_program, image_before, images_from}

-- images before others
abbrev pub images_behind : List RomImage → Images → Images
images_behind before r = (before ++ r.0, r.1)

push_more : (before : List RomImage) (i : RomImage) (r : Images)
    → images_behind before (image_before i r) ≡ images_behind (before ++ i ∷ []) r
push_more before i r = ap (λ is. (is, r.1)) (sym (append_assoc before (i ∷ []) r.0))

before_others : (b : Bool) (i : RomImage) (r : Images) → b ≡ false
    → image_before i (if b then ([], None) else r) ≡ image_before i r
before_others true i r e = absurd cc
before_others false i r e = refl

before_none : (b : Bool) (i : RomImage) (r : Images) → b ≡ true
    → image_before i (if b then ([], None) else r) ≡ (i ∷ [], None)
before_none true i r e = refl
before_none false i r e = absurd cc

-- one more image that isn't the last
pub images_more : (before : List RomImage) (rom : List ℕ) (n k at : ℕ) (i : RomImage) → k < n
    → image_at rom at ≡ Ok i → i.is_last ≡ false
    → images_behind before (images_from rom (n - k) at)
    ≡ images_behind (before ++ i ∷ []) (images_from rom (n - (k + 1)) (end_of i))
images_more before rom n k at i l h e =
    let less : n - k ≡ suc (n - (k + 1)) = omega arith in
    let others = images_from rom (n - (k + 1)) (end_of i) in
    rw (less, h) (ap (images_behind before) (before_others i.is_last i others e) ∙ push_more before i others)

-- the last one
pub images_last : (before : List RomImage) (rom : List ℕ) (n k at : ℕ) (i : RomImage) → k < n
    → image_at rom at ≡ Ok i → i.is_last ≡ true
    → images_behind before (images_from rom (n - k) at) ≡ (before ++ i ∷ [], None)
images_last before rom n k at i l h e =
    let less : n - k ≡ suc (n - (k + 1)) = omega arith in
    let others = images_from rom (n - (k + 1)) (end_of i) in
    rw (less, h) (ap (images_behind before) (before_none i.is_last i others e))

-- no image
pub images_stop : (before : List RomImage) (rom : List ℕ) (n k at : ℕ) (f : RomFault) → k < n
    → image_at rom at ≡ Err f
    → images_behind before (images_from rom (n - k) at) ≡ (before, Some f)
images_stop before rom n k at f l h =
    let less : n - k ≡ suc (n - (k + 1)) = omega arith in
    rw (less, h) (ap (λ is. (is, Some f)) (append-nil before))

-- no more turns
pub images_end : (before : List RomImage) (rom : List ℕ) (n k at : ℕ) → n ≤ k
    → images_behind before (images_from rom (n - k) at) ≡ (before, Some (NoSignature at))
images_end before rom n k at l =
    let none : n - k ≡ 0 = omega arith in
    rw none (ap (λ is. (is, Some (NoSignature at))) (append-nil before))

-- what the first program is among the images from a place on
abbrev pub program_from : List ℕ → ℕ → ℕ → Result (Option (List ℕ)) RomFault
program_from rom n at = first_program rom (images_from rom n at).0 (images_from rom n at).1

-- one more image without a program that isn't the last
pub program_more : (rom : List ℕ) (n k at : ℕ) (i : RomImage) → k < n → image_at rom at ≡ Ok i → i.fcode ≡ None
    → i.is_last ≡ false → program_from rom (n - k) at ≡ program_from rom (n - (k + 1)) (end_of i)
program_more rom n k at i l h p e =
    let less : n - k ≡ suc (n - (k + 1)) = omega arith in
    rw (less, h, p, e) refl

-- the last image, without a program
pub program_none : (rom : List ℕ) (n k at : ℕ) (i : RomImage) → k < n → image_at rom at ≡ Ok i → i.fcode ≡ None
    → i.is_last ≡ true → program_from rom (n - k) at ≡ Ok None
program_none rom n k at i l h p e =
    let less : n - k ≡ suc (n - (k + 1)) = omega arith in
    rw (less, h, p, e) refl

-- an image with a program
pub program_found : (rom : List ℕ) (n k at : ℕ) (i : RomImage) (fcode : ℕ) → k < n → image_at rom at ≡ Ok i
    → i.fcode ≡ Some fcode → program_from rom (n - k) at ≡ Ok (Some (slice_range rom fcode (end_of i)))
program_found rom n k at i fcode l h p =
    let less : n - k ≡ suc (n - (k + 1)) = omega arith in
    rw (less, h, p) refl

-- no image
pub program_stop : (rom : List ℕ) (n k at : ℕ) (f : RomFault) → k < n → image_at rom at ≡ Err f
    → program_from rom (n - k) at ≡ Err f
program_stop rom n k at f l h =
    let less : n - k ≡ suc (n - (k + 1)) = omega arith in
    rw (less, h) refl

-- no more turns
pub program_end : (rom : List ℕ) (n k at : ℕ) → n ≤ k → program_from rom (n - k) at ≡ Err (NoSignature at)
program_end rom n k at l =
    let none : n - k ≡ 0 = omega arith in
    rw none refl
