-- One image of an expansion ROM: its header and its data structure (PCI Local Bus Specification 3.0, 6.3.1).
use Rattle.std.specs.Prelude.{ℕ, ◌+◌, ◌*◌, List, [], ◌∷◌, length, drop, slice_index, codes, Option, Some, None}
use Rattle.std.specs.Prelude.{Result, Ok, Err, Bool, true, ◌&&◌, nat_eq, nat_le, nat_lt, if◌then◌else◌}
use Rattle.std.specs.List.{starts_with}
use Rattle.byteorder.specs.Endian.{little_number}
use Rattle.of_rom.specs.declared.code.CodeType.{CodeType}
use Rattle.of_rom.specs.declared.code.CodeType.TheVariants as code
use Rattle.of_rom.specs.declared.fault.RomFault.{RomFault}
use Rattle.of_rom.specs.declared.fault.RomFault.TheVariants as fault
use Rattle.of_rom.specs.declared.image.RomImage.{RomImage}

-- the number in two bytes at a place, the low one first
abbrev pub half_at : List ℕ → ℕ → ℕ
half_at rom at = little_number 2 (drop at rom)

-- the number in three bytes
abbrev pub class_at : List ℕ → ℕ → ℕ
class_at rom at = little_number 3 (drop at rom)

-- ---- the header (6.3.1.1)

-- 0x55, 0xAA at its start
abbrev pub is_signed : List ℕ → ℕ → Bool
is_signed rom at = starts_with nat_eq (drop at rom) (0x55 ∷ 0xaa ∷ [])

-- how many bytes it has, up to the pointer to the data structure
abbrev pub header_length : ℕ
header_length = 0x1a

-- where the data structure is: so far from the image's start as the bytes 0x18 and 0x19 say
abbrev pub structure_at : List ℕ → ℕ → ℕ
structure_at rom at = at + half_at rom (at + 0x18)

-- ---- the data structure (6.3.1.2)

-- how many bytes it has at least
abbrev pub structure_length : ℕ
structure_length = 0x18

-- there is one at a place, whole and with `PCIR` at its start
abbrev pub is_structure : List ℕ → ℕ → Bool
is_structure rom d = nat_le (d + structure_length) (length rom) && starts_with nat_eq (drop d rom) (codes "PCIR")

-- an image has a whole header that points to one
abbrev pub has_structure : List ℕ → ℕ → Bool
has_structure rom at = nat_le (at + header_length) (length rom) && is_structure rom (structure_at rom at)

-- the code type of a number
abbrev pub code_type : ℕ → CodeType
code_type n =
    if nat_eq n 0 then code.X86 else
    if nat_eq n 1 then code.OpenFirmware else
    if nat_eq n 2 then code.PaRisc else
    if nat_eq n 3 then code.Efi else
    code.Other n

-- where the FCode program begins: so far from the image's start as the bytes 2 and 3 say, in an image of Open
-- Firmware's code type (PCI Bus Binding to IEEE 1275-1994, 9)
abbrev pub fcode_at : List ℕ → ℕ → CodeType → Option ℕ
fcode_at rom at code.OpenFirmware = Some (at + half_at rom (at + 2))
fcode_at rom at code.X86 = None
fcode_at rom at code.PaRisc = None
fcode_at rom at code.Efi = None
fcode_at rom at (code.Other n) = None

-- an image at a place, as it and its data structure say, which is at another one
abbrev pub image_by : List ℕ → ℕ → ℕ → RomImage
image_by rom at d = record {
  offset = at;
  length = 512 * half_at rom (d + 0x10);
  code = code_type (slice_index rom (d + 0x14));
  vendor = half_at rom (d + 0x04);
  device = half_at rom (d + 0x06);
  class = class_at rom (d + 0x0d);
  fcode = fcode_at rom at (code_type (slice_index rom (d + 0x14)));
  is_last = nat_le 0x80 (slice_index rom (d + 0x15));
}

abbrev pub said_image : List ℕ → ℕ → RomImage
said_image rom at = image_by rom at (structure_at rom at)

-- ---- what is wrong

-- where an image ends
abbrev pub end_of : RomImage → ℕ
end_of i = i.offset + i.length

-- a program begins before this
abbrev pub begins_before : ℕ → Option ℕ → Bool
begins_before end None = true
begins_before end (Some fcode) = nat_lt fcode end

-- what is wrong with an image that has a data structure
abbrev pub fault_in : List ℕ → RomImage → Option RomFault
fault_in rom i =
    if nat_eq i.length 0 then Some (fault.NoLength i.offset) else
    if nat_lt (length rom) (end_of i) then Some (fault.CutOff i.offset) else
    if nat_lt (end_of i) (structure_at rom i.offset + structure_length) then Some (fault.NoStructure i.offset) else
    if begins_before (end_of i) i.fcode then None else
    Some (fault.FCodeOutside i.offset)

-- an image with this fault, or none
abbrev pub unless_faulty : Option RomFault → RomImage → Result RomImage RomFault
unless_faulty None i = Ok i
unless_faulty (Some f) i = Err f

-- the image at a place, or what is wrong with it
unfoldable pub image_at : List ℕ → ℕ → Result RomImage RomFault
image_at rom at =
    if is_signed rom at then
    if has_structure rom at then unless_faulty (fault_in rom (said_image rom at)) (said_image rom at)
    else Err (fault.NoStructure at)
    else Err (fault.NoSignature at)
