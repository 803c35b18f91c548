-- The FCode program of a ROM is that of the first image that has one.
use Rattle.std.proofs.Common.{◌≡◌, ◌+◌, ℕ, List, [], ◌∷◌, ◌++◌, Option, Some, None, Result, Ok, Err, Bool, true, false}
use Rattle.std.proofs.Common.{refl, sym, ap, ◌∙◌, subst, slice_range}
use Rattle.std.specs.List.{AllByRecursion}
use Rattle.of_rom.specs.declared.code.CodeType.{CodeType}
use Rattle.of_rom.specs.declared.code.CodeType.TheVariants.{X86, OpenFirmware, PaRisc, Efi, Other}
use Rattle.of_rom.specs.declared.fault.RomFault.{RomFault}
use Rattle.of_rom.specs.declared.image.RomImage.{RomImage}
use Rattle.of_rom.specs.Images.{end_of, fcode_at, half_at}
use Rattle.of_rom.specs.Roms.{Images, first_program, images_of}
use Rattle.of_rom.specs.Laws.{Adjoin, GoesOn, IsImage, IsOther, ProgramsAreFirst}
use Rattle.of_rom.proofs.Adjoining.{images_adjoin}

-- an image has the program that its code type and its bytes say
abbrev Says : List ℕ → RomImage → Type 0
Says rom i = i.fcode ≡ fcode_at rom i.offset i.code

says : (rom : List ℕ) (at : ℕ) (i : RomImage) → IsImage rom at i → Says rom i
says rom at i h = h.fcode ∙ ap (λ (o : ℕ). fcode_at rom o i.code) (sym h.begins)

others_say : (b : Bool) (rom : List ℕ) (images : List RomImage) (f : Option RomFault) (Others : Type 0)
    → GoesOn b images f Others → (Others → AllByRecursion (Says rom) images) → AllByRecursion (Says rom) images
others_say true rom images f Others h rest = subst (AllByRecursion (Says rom)) (sym h.0) tt
others_say false rom images f Others h rest = rest h

all_say : (images : List RomImage) (rom : List ℕ) (at : ℕ) (f : Option RomFault) → Adjoin rom at images f
    → AllByRecursion (Says rom) images
all_say [] rom at f h = tt
all_say (i ∷ images) rom at f h =
    (says rom at i h.0, others_say i.is_last rom images f _ h.1 (all_say images rom (end_of i) f))

no_program : (rom : List ℕ) (at : ℕ) (c : CodeType) → (c ≡ OpenFirmware → ⊥) → fcode_at rom at c ≡ None
no_program rom at X86 h = refl
no_program rom at OpenFirmware h = absurd (h refl)
no_program rom at PaRisc h = refl
no_program rom at Efi h = refl
no_program rom at (Other n) h = refl

first : (before : List RomImage) (rom : List ℕ) (i : RomImage) (behind : List RomImage) (f : Option RomFault)
    → AllByRecursion (Says rom) (before ++ i ∷ behind) → AllByRecursion IsOther before → i.code ≡ OpenFirmware
    → first_program rom (before ++ i ∷ behind) f
    ≡ Ok (Some (slice_range rom (i.offset + half_at rom (i.offset + 2)) (end_of i)))
first [] rom i behind f s o e =
    let p : i.fcode ≡ Some (i.offset + half_at rom (i.offset + 2)) = s.0 ∙ ap (fcode_at rom i.offset) e in
    rw p refl
first (j ∷ before) rom i behind f s o e =
    let p : j.fcode ≡ None = s.0 ∙ no_program rom j.offset j.code o.0 in
    rw p (first before rom i behind f s.1 o.1 e)

-- what is said without a program
abbrev without : Option RomFault → Result (Option (List ℕ)) RomFault
without None = Ok None
without (Some f) = Err f

none : (images : List RomImage) (rom : List ℕ) (f : Option RomFault) → AllByRecursion (Says rom) images
    → AllByRecursion IsOther images → first_program rom images f ≡ without f
none [] rom None s o = refl
none [] rom (Some f) s o = refl
none (j ∷ images) rom f s o =
    let p : j.fcode ≡ None = s.0 ∙ no_program rom j.offset j.code o.0 in
    rw p (none images rom f s.1 o.1)

in_all : (rom : List ℕ) (images : List RomImage) (f : Option RomFault) → ◌≡◌ {A = Images} (images_of rom) (images, f)
    → AllByRecursion (Says rom) images
in_all rom images f h = all_say images rom 0 f ((images_adjoin rom images f).0 h)

pub programs_are_first : ProgramsAreFirst
programs_are_first = record {
  found = λ rom before i behind f h o e.
      ap (λ (r : Images). first_program rom r.0 r.1) h
      ∙ first before rom i behind f (in_all rom (before ++ i ∷ behind) f h) o e;
  none = λ rom images h o.
      ap (λ (r : Images). first_program rom r.0 r.1) h ∙ none images rom None (in_all rom images None h) o;
  faulty = λ rom images f h o.
      ap (λ (r : Images). first_program rom r.0 r.1) h ∙ none images rom (Some f) (in_all rom images (Some f) h) o;
}
