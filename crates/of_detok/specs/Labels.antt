-- What is said behind the bytes of a line (IEEE 1275-1994, 5.2.2).
use Rattle.std.specs.Prelude.{ℕ, ◌+◌, ◌-◌, ◌*◌, ◌%◌, ℤ, pos, negsuc, List, [], ◌++◌, map, length, drop, slice_index}
use Rattle.std.specs.Prelude.{codes, Option, Some, None, nat_eq, nat_lt, if◌then◌else◌}
use Rattle.std.specs.List.{sum}
use Rattle.of_fcodes.specs.Lookup.{name_numbered}
use Rattle.of_stream.specs.Decoding.{Argument, Nothing, Literal, String, Code, Named, Offset, Token}
use Rattle.of_stream.specs.Image.{header_length}
use Rattle.of_stream.specs.Targets.{target}
use Rattle.of_detok.specs.Digits.{digits}

-- ---- the label of a token

-- the name, or the number of an FCode that isn't listed
abbrev pub name_or : Option (List ℕ) → ℕ → List ℕ
name_or (Some name) n = name
name_or None n = codes "fcode-" ++ digits 3 n

-- the name of an FCode
unfoldable pub name : ℕ → List ℕ
name n = name_or (name_numbered n) n

-- a byte as it is shown in a string: `.` unless it can be printed
abbrev pub shown : ℕ → ℕ
shown b = if nat_lt b 0x20 then 46 else if nat_lt 0x7e b then 46 else b

-- a string in quotes
unfoldable pub quoted : List ℕ → List ℕ
quoted bytes = codes "\"" ++ map shown bytes ++ codes "\""

-- an integer modulo 2^24
abbrev pub wrapped : ℤ → ℕ
wrapped (pos n) = n % 0x1000000
wrapped (negsuc n) = 0xffffff - n % 0x1000000

-- the operands of the token at a position, each behind a space; an offset by where it leads
unfoldable pub operands : ℕ → Argument → List ℕ
operands position Nothing = []
operands position (Literal x) = codes " " ++ digits 8 x.0
operands position (String s) = codes " " ++ quoted s
operands position (Code c) = codes " " ++ digits 3 c.0
operands position (Named s c) = codes " " ++ quoted s ++ codes " " ++ digits 3 c.0
operands position (Offset by) = codes " -> " ++ digits 6 (wrapped (target position by))

-- name and operands
abbrev pub token_label : ℕ → Token → List ℕ
token_label position t = name t.code.0 ++ operands position t.argument

-- ---- the label of a header

-- the word that a start byte stands for
abbrev pub start_name : ℕ → List ℕ
start_name start =
    if nat_eq start 0xf1 then codes "start1" else
    if nat_eq start 0xf2 then codes "start2" else
    if nat_eq start 0xf3 then codes "start4" else
    codes "version1"

-- the checksum that a header says, and that of the bytes behind it
abbrev pub said_sum : List ℕ → ℕ
said_sum image = slice_index image 2 * 256 + slice_index image 3

unfoldable pub actual_sum : List ℕ → ℕ
actual_sum image = sum (drop header_length image) % 65536

-- the length that a header says
abbrev pub said_length : List ℕ → ℕ
said_length image =
    ((slice_index image 4 * 256 + slice_index image 5) * 256 + slice_index image 6) * 256 + slice_index image 7

-- a number where the header says another
abbrev pub unless_said : List ℕ → ℕ → ℕ → ℕ → List ℕ
unless_said title count said actual = if nat_eq said actual then [] else title ++ digits count actual ++ codes ")"

-- the start word, and the checksum and the length where the header says others
unfoldable pub header_label : List ℕ → List ℕ
header_label image =
    start_name (slice_index image 0)
    ++ unless_said (codes " (sum ") 4 (said_sum image) (actual_sum image)
    ++ unless_said (codes " (bytes ") 8 (said_length image) (length image)
