-- An expansion ROM as a row of images (PCI Local Bus Specification 3.0, 6.3).
use Rattle.std.specs.Prelude.{ℕ, zero, suc, List, [], ◌∷◌, length, slice_range, Option, Some, None, Result, Ok, Err}
use Rattle.std.specs.Prelude.{if◌then◌else◌}
use Rattle.of_rom.specs.declared.fault.RomFault.{RomFault}
use Rattle.of_rom.specs.declared.fault.RomFault.TheVariants as fault
use Rattle.of_rom.specs.declared.image.RomImage.{RomImage}
use Rattle.of_rom.specs.Images.{end_of, image_at}

-- images up to the last, or up to what is wrong
abbrev pub Images : Type 0
Images = List RomImage × Option RomFault

-- an image before others
abbrev pub image_before : RomImage → Images → Images
image_before i r = (i ∷ r.0, r.1)

-- an image, and those behind it where it isn't the last; or what is wrong with it
abbrev pub images_by : Result RomImage RomFault → (ℕ → Images) → Images
images_by (Err f) behind = ([], Some f)
images_by (Ok i) behind = image_before i (if i.is_last then ([], None) else behind (end_of i))

-- the images from a place on, at most so many
abbrev pub images_from : List ℕ → ℕ → ℕ → Images
images_from rom zero at = ([], Some (fault.NoSignature at))
images_from rom (suc more) at = images_by (image_at rom at) (images_from rom more)

-- the images of a ROM; each has bytes, so there are no more of them than bytes
abbrev pub images_of : List ℕ → Images
images_of rom = images_from rom (length rom) 0

-- the FCode program of an image, if it has one, or else another answer
abbrev pub program_or : List ℕ → RomImage → Option ℕ → Result (Option (List ℕ)) RomFault
    → Result (Option (List ℕ)) RomFault
program_or rom i (Some fcode) other = Ok (Some (slice_range rom fcode (end_of i)))
program_or rom i None other = other

-- that of the first image that has one; without one what is wrong behind the images, if anything
abbrev pub first_program : List ℕ → List RomImage → Option RomFault → Result (Option (List ℕ)) RomFault
first_program rom (i ∷ images) f = program_or rom i i.fcode (first_program rom images f)
first_program rom [] None = Ok None
first_program rom [] (Some f) = Err f

-- that of a ROM
abbrev pub fcode_of : List ℕ → Result (Option (List ℕ)) RomFault
fcode_of rom = first_program rom (images_of rom).0 (images_of rom).1
