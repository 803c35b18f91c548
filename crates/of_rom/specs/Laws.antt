-- What the images of a ROM are, said of its bytes and not of how they are read (PCI Local Bus Specification 3.0, 6.3).
use Rattle.std.specs.Prelude.{◌≡◌, ◌↔◌, ◌<◌, ◌≤◌, ◌*◌, ◌+◌, ℕ, List, [], ◌∷◌, ◌++◌, take, drop, length, slice_index}
use Rattle.std.specs.Prelude.{slice_range, codes, Option, Some, None, IfSome, Ok, Err, Bool, true, false, nat_le}
use Rattle.std.specs.List.{AllByRecursion}
use Rattle.of_rom.specs.declared.code.CodeType.TheVariants.{OpenFirmware}
use Rattle.of_rom.specs.declared.fault.RomFault.{RomFault}
use Rattle.of_rom.specs.declared.image.RomImage.{RomImage}
use Rattle.of_rom.specs.Images.{class_at, code_type, end_of, fcode_at, half_at, image_at, structure_at}
use Rattle.of_rom.specs.Images.{structure_length}
use Rattle.of_rom.specs.Roms.{fcode_of, images_of}

-- an image stands at a place of a ROM
pub record IsImage (rom : List ℕ) (at : ℕ) (i : RomImage) : Type 0 where
  pub begins : i.offset ≡ at
  -- the signature at its start, and inside of it a data structure
  pub signed : take 2 (drop at rom) ≡ 0x55 ∷ 0xaa ∷ []
  pub structured : take 4 (drop (structure_at rom at) rom) ≡ codes "PCIR"
  pub whole : structure_at rom at + structure_length ≤ end_of i
  -- some 512 bytes, which all stand within the ROM
  pub sized : i.length ≡ 512 * half_at rom (structure_at rom at + 0x10)
  pub filled : 0 < i.length
  pub inside : end_of i ≤ length rom
  -- what its data structure says of it
  pub vendor : i.vendor ≡ half_at rom (structure_at rom at + 0x04)
  pub device : i.device ≡ half_at rom (structure_at rom at + 0x06)
  pub class : i.class ≡ class_at rom (structure_at rom at + 0x0d)
  pub code : i.code ≡ code_type (slice_index rom (structure_at rom at + 0x14))
  pub last : i.is_last ≡ nat_le 0x80 (slice_index rom (structure_at rom at + 0x15))
  -- an FCode program, if it has one, begins inside of it
  pub fcode : i.fcode ≡ fcode_at rom at i.code
  pub program : IfSome i.fcode (λ fcode. fcode < end_of i)

-- an image is read at a place exactly where it stands there
abbrev pub ImagesAreRead : Type 0
ImagesAreRead = (rom : List ℕ) (at : ℕ) (i : RomImage) → (image_at rom at ≡ Ok i) ↔ IsImage rom at i

-- behind an image there is nothing where it is the last, and else what is said
abbrev pub GoesOn : Bool → List RomImage → Option RomFault → Type 0 → Type 0
GoesOn true images f Others = (images ≡ []) × (f ≡ None)
GoesOn false images f Others = Others

-- images stand one behind the other from a place on, up to one that says that it is the last, or up to this fault
abbrev pub Adjoin : List ℕ → ℕ → List RomImage → Option RomFault → Type 0
Adjoin rom at [] None = ⊥
Adjoin rom at [] (Some f) = image_at rom at ≡ Err f
Adjoin rom at (i ∷ images) f = IsImage rom at i × GoesOn i.is_last images f (Adjoin rom (end_of i) images f)

-- the images of a ROM are those that so adjoin from its start on, and no others do
abbrev pub ImagesAdjoin : Type 0
ImagesAdjoin = (rom : List ℕ) (images : List RomImage) (f : Option RomFault)
    → (images_of rom ≡ (images, f)) ↔ Adjoin rom 0 images f

-- an image has another code type than Open Firmware's
abbrev pub IsOther : RomImage → Type 0
IsOther i = i.code ≡ OpenFirmware → ⊥

-- The FCode program of a ROM is that of the first of its images that has Open Firmware's code type (PCI Bus Binding to
-- IEEE 1275-1994, 9).
pub record ProgramsAreFirst : Type 0 where
  -- it reaches from where the bytes 2 and 3 of that image say to its end
  pub found :
      (rom : List ℕ) (before : List RomImage) (i : RomImage) (behind : List RomImage) (f : Option RomFault)
      → images_of rom ≡ (before ++ i ∷ behind, f) → AllByRecursion IsOther before → i.code ≡ OpenFirmware
      → fcode_of rom ≡ Ok (Some (slice_range rom (i.offset + half_at rom (i.offset + 2)) (end_of i)))
  -- there is none where all images have other code types
  pub none :
      (rom : List ℕ) (images : List RomImage) → images_of rom ≡ (images, None) → AllByRecursion IsOther images
      → fcode_of rom ≡ Ok None
  -- unless one behind them can't be read
  pub faulty :
      (rom : List ℕ) (images : List RomImage) (f : RomFault) → images_of rom ≡ (images, Some f)
      → AllByRecursion IsOther images → fcode_of rom ≡ Err f
