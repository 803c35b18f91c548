-- How the images of an expansion ROM are shown, a line for each.
use Rattle.std.specs.Prelude.{ℕ, List, [], ◌++◌, codes, Option, Some, None}
use Rattle.std.specs.List.{flat_map}
use Rattle.byteorder.specs.Endian.{big_bytes}
use Rattle.hex.specs.Hex.{encode_lower}
use Rattle.of_rom.specs.declared.code.CodeType.{CodeType}
use Rattle.of_rom.specs.declared.code.CodeType.TheVariants.{X86, OpenFirmware, PaRisc, Efi, Other}
use Rattle.of_rom.specs.declared.fault.RomFault.{RomFault}
use Rattle.of_rom.specs.declared.image.RomImage.{RomImage}
use Rattle.of_rom.specs.Roms.{images_of}

-- the low bytes of a number, so many, in hexadecimal digits, the highest first
unfoldable pub number_shown : ℕ → ℕ → List ℕ
number_shown count n = encode_lower (big_bytes count n)

-- the same behind a title
unfoldable pub titled : List ℕ → ℕ → ℕ → List ℕ
titled title count n = title ++ number_shown count n

-- what an image holds
abbrev pub code_shown : CodeType → List ℕ
code_shown X86 = codes "x86"
code_shown OpenFirmware = codes "Open Firmware"
code_shown PaRisc = codes "PA-RISC"
code_shown Efi = codes "EFI"
code_shown (Other n) = titled (codes "code type ") 1 n

-- where the FCode program begins, if there is one
abbrev pub fcode_shown : Option ℕ → List ℕ
fcode_shown (Some fcode) = titled (codes ", FCode at ") 3 fcode
fcode_shown None = []

-- the line of an image
unfoldable pub line_text : RomImage → List ℕ
line_text i =
    number_shown 3 i.offset ++ titled (codes ": ") 4 i.length ++ titled (codes " bytes, vendor ") 2 i.vendor
    ++ titled (codes ", device ") 2 i.device ++ titled (codes ", class ") 3 i.class ++ codes ", " ++ code_shown i.code
    ++ fcode_shown i.fcode ++ codes "\n"

-- the lines of a ROM, and what is wrong behind them, if anything
abbrev pub rom_text : List ℕ → List ℕ × Option RomFault
rom_text rom = (flat_map line_text (images_of rom).0, (images_of rom).1)
