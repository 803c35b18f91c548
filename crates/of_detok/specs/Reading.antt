-- What a listing means: the bytes on its lines, joined.
use Rattle.std.specs.Prelude.{◌≡◌, ℕ, ◌+◌, ◌*◌, List, [], ◌∷◌, ◌++◌, length, take, drop, Option, Some, None, Result}
use Rattle.std.specs.Prelude.{Ok, Err}
use Rattle.std.specs.Prelude.{Bool, ◌&&◌, nat_eq, if◌then◌else◌}
use Rattle.std.specs.Str.{str_eq_ignore_ascii_case}
use Rattle.of_stream.specs.Bytes.{AreBytes}
use Rattle.of_detok.specs.declared.fault.DetokFault.{DetokFault}
use Rattle.of_detok.specs.declared.fault.DetokFault.TheVariants as fault
use Rattle.of_detok.specs.Digits.{digit_value, place}
use Rattle.of_stream.specs.declared.fault.StreamFault.{StreamFault}
use Rattle.of_stream.specs.declared.fault.StreamFault.TheVariants.{Ended}
use Rattle.of_detok.specs.declared.notes.Extras.{Extras}
use Rattle.of_detok.specs.Listing.{Listed, listed_so_far}

-- a byte before the other lines of a text
abbrev pub with_first : ℕ → List (List ℕ) → List (List ℕ)
with_first b [] = (b ∷ []) ∷ []
with_first b (line ∷ lines) = (b ∷ line) ∷ lines

-- the lines of a text, each up to its 0x0A or to the end
unfoldable pub text_lines : List ℕ → List (List ℕ)
text_lines [] = []
text_lines (b ∷ bytes) = if nat_eq b 10 then [] ∷ text_lines bytes else with_first b (text_lines bytes)

-- the byte that two digits say
abbrev pub byte_of : Option ℕ → Option ℕ → Option ℕ
byte_of (Some high) (Some low) = Some (high * 16 + low)
byte_of _ _ = None

-- a byte before others
abbrev pub byte_before : Option ℕ → Option (List ℕ) → Option (List ℕ)
byte_before (Some b) (Some bytes) = Some (b ∷ bytes)
byte_before _ _ = None

-- two spaces
abbrev pub are_spaces : ℕ → ℕ → Bool
are_spaces a b = nat_eq a 0x20 && nat_eq b 0x20

-- the bytes of pairs of digits up to two spaces
unfoldable pub paired : List ℕ → Option (List ℕ)
paired [] = None
paired (a ∷ []) = None
paired (a ∷ b ∷ text) =
    if are_spaces a b then Some [] else byte_before (byte_of (digit_value a) (digit_value b)) (paired text)

-- at least one byte
abbrev pub some_bytes : Option (List ℕ) → Option (List ℕ)
some_bytes (Some (b ∷ bytes)) = Some (b ∷ bytes)
some_bytes _ = None

-- the bytes on a line before which so many stand
unfoldable pub line_bytes : ℕ → List ℕ → Option (List ℕ)
line_bytes before line =
    if str_eq_ignore_ascii_case (take 8 line) (place before) then some_bytes (paired (drop 8 line)) else None

-- the bytes so far with those of a line, and what follows them; or the number of the line
abbrev pub bytes_behind : ℕ → List ℕ → Option (List ℕ) → (List ℕ → Result (List ℕ) ℕ) → Result (List ℕ) ℕ
bytes_behind number image None following = Err number
bytes_behind number image (Some bytes) following = following (image ++ bytes)

-- the bytes so far with those on the lines from this number on; or the number of the first line that isn't one
abbrev pub read_lines : ℕ → List ℕ → List (List ℕ) → Result (List ℕ) ℕ
read_lines number image [] = Ok image
read_lines number image (line ∷ lines) =
    bytes_behind number image (line_bytes (length image) line) (λ longer. read_lines (number + 1) longer lines)

-- the image that a text means, or the number of its first line that isn't one, from 1
abbrev pub meaning : List ℕ → Result (List ℕ) ℕ
meaning text = read_lines 1 [] (text_lines text)

-- a call was refused for this line, or for want of memory
abbrev pub IsUnread : {A : Type 0} → Result A ℕ → DetokFault → Type 0
IsUnread r fault.NoMemory = Unit {0}
IsUnread r (fault.Stream f) = ⊥
IsUnread r (fault.BadLine n) = r ≡ Err n

-- how many bytes of an image a listing has that stops for this fault, if for any
abbrev pub listed_bytes : List ℕ → Option StreamFault → List ℕ
listed_bytes image None = image
listed_bytes image (Some (Ended position)) = take position image
listed_bytes image (Some f) = []

-- a text means the bytes of an image that a listing has
abbrev pub MeansListed : List ℕ → Listed → Type 0
MeansListed image (text, f) = meaning text ≡ Ok (listed_bytes image f)

-- Each listing of bytes reads back, whatever it says beyond names and operands: to the whole image, or to what stands
-- before the first token that can't be read.
abbrev pub ListingReadsBack : Type 0
ListingReadsBack = (e : Extras) (image : List ℕ) → AreBytes image → MeansListed image (listed_so_far e image)
