-- The image that a file has: its bytes, or those that its hexadecimal digits say.
use Rattle.std.specs.Prelude.{◌≡◌, ◌≤◌, ◌⊎◌, ℕ, ◌+◌, ◌&&◌, ◌||◌, Bool, false, List, [], ◌∷◌, ◌++◌, length, ⊤}
use Rattle.std.specs.Prelude.{Option, Some, None, Result, Ok, Err, filter, not, nat_eq, nat_le, if◌then◌else◌}
use Rattle.std.specs.Char.{is_ascii_whitespace, is_ascii_hexdigit}
use Rattle.hex.specs.Hex.{decode_of}
use Rattle.hex.specs.declared.error.FromHexError.{FromHexError}
use Rattle.of_files.specs.declared.fault.Fault.{Fault}
use Rattle.of_files.specs.declared.fault.Fault.TheVariants as fault
use Rattle.of_files.specs.declared.part.Part.{Part as HeldPart}
use Rattle.of_files.specs.declared.part.Part.TheVariants as held
use Rattle.of_source.specs.declared.place.Place.{Place}

-- a start word of an image, which no text of digits begins with: 0xF0 to 0xF3, or 0xFD
abbrev pub is_start : ℕ → Bool
is_start b = nat_eq b 0xfd || (nat_le 0xf0 b && nat_le b 0xf3)

-- whether a file is an image as it stands
abbrev pub is_binary : List ℕ → Bool
is_binary [] = false
is_binary (b ∷ file) = is_start b

-- a text without its white space
abbrev pub dense : List ℕ → List ℕ
dense text = filter (λ b. not (is_ascii_whitespace b)) text

-- where a text begins
abbrev pub first_place : Place
first_place = record { line = 1; column = 1 }

-- where what follows a byte stands
abbrev pub behind : ℕ → Place → Place
behind b p =
    if nat_eq b 10 then record { line = p.line + 1; column = 1 } else record { line = p.line; column = p.column + 1 }

-- whether a byte may stand in a text of digits
abbrev pub is_text : ℕ → Bool
is_text b = is_ascii_whitespace b || is_ascii_hexdigit b

-- the first byte that may not, with its place, in a text that begins at this one
abbrev pub stray_from : Place → List ℕ → Option (Place × ℕ)
stray_from p [] = None
stray_from p (b ∷ text) = if is_text b then stray_from (behind b p) text else Some (p, b)

-- what digits say: a stray byte counts before their number
abbrev pub said : Option (Place × ℕ) → Result (List ℕ) FromHexError → Result (List ℕ) Fault
said (Some stray) bytes = Err (fault.BadDigit stray.0 stray.1)
said None (Ok bytes) = Ok bytes
said None (Err e) = Err fault.OddDigits

-- the image that a file has, or what is wrong with its text
unfoldable pub image_in : List ℕ → Result (List ℕ) Fault
image_in file = if is_binary file then Ok file else said (stray_from first_place file) (decode_of (dense file))

-- a read failed
abbrev pub IsUnread : Fault → Type 0
IsUnread (fault.Unread code) = ⊤
IsUnread _ = ⊥

-- why the image of a file can't be had: a read failed, the file doesn't end, memory was refused, or its text is wrong
abbrev pub FaultsReading : List ℕ → Fault → Type 0
FaultsReading file f =
    IsUnread f ⊎ ((f ≡ fault.Endless) × (16777216 ≤ length file)) ⊎ (f ≡ fault.NoMemory) ⊎ (image_in file ≡ Err f)

-- ---- a file of which a part was read

-- where what follows a text stands, where the text begins at a place
abbrev pub past : List ℕ → Place → Place
past [] p = p
past (b ∷ text) p = past text (behind b p)

-- the image of a file of which a part was read, and these bytes are left
abbrev pub image_with : HeldPart → List ℕ → Result (List ℕ) Fault
image_with held.Nothing rest = image_in rest
image_with (held.Binary bytes) rest = Ok (bytes.items ++ rest)
image_with (held.Digits digits p) rest = said (stray_from p rest) (decode_of (digits.items ++ dense rest))

-- lines and columns that were counted
abbrev pub counted : HeldPart → ℕ
counted held.Nothing = 2
counted (held.Binary bytes) = 0
counted (held.Digits digits p) = p.line + p.column

-- there was no memory, or the text has a stray byte
abbrev pub IsStray : Option (Place × ℕ) → Fault → Type 0
IsStray stray f = (f ≡ fault.NoMemory) ⊎ ((s : Place × ℕ) × (stray ≡ Some s) × (f ≡ fault.BadDigit s.0 s.1))

-- the part that was read decides with what is left of the file, which has lost so many bytes or more
abbrev pub Decides : Option (List ℕ) → Option (List ℕ) → HeldPart → ℕ → Type 0
Decides None left part n = ⊤
Decides (Some file) None part n = ⊥
Decides (Some file) (Some left) part n = (image_with part left ≡ image_in file) × (n + length left ≤ length file)
