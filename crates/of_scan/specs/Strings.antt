-- A string behind the word `"`: bytes as they are, and between them groups of hexadecimal digits, `"(` to `)`.
use Rattle.std.specs.Prelude.{◌≡◌, ◌≢◌, ℕ, ◌<◌, ◌≤◌, List, [], ◌∷◌, ◌++◌, Some}
use Rattle.std.specs.List.{All}
use Rattle.of_format.specs.Digits.{digit_value}
use Rattle.of_scan.specs.Scan.{byte_of}

-- what stands in a group: a byte as two digits, or a blank
pub data Digits : Type 0 where
  Byte : ℕ → ℕ → ℕ → Digits  -- this byte, as these two
  Blank : ℕ → Digits

-- bytes as they are, and the group behind them
pub record Piece : Type 0 where
  pub bytes : List ℕ
  pub group : List Digits

-- a group as text, and then this text
abbrev pub digits_written : List Digits → List ℕ → List ℕ
digits_written [] more = more
digits_written (Byte b high low ∷ ds) more = high ∷ low ∷ digits_written ds more
digits_written (Blank b ∷ ds) more = b ∷ digits_written ds more

-- the bytes of a group
abbrev pub digits_bytes : List Digits → List ℕ
digits_bytes [] = []
digits_bytes (Byte b high low ∷ ds) = b ∷ digits_bytes ds
digits_bytes (Blank b ∷ ds) = digits_bytes ds

-- pieces as text, and then this text
abbrev pub pieces_written : List Piece → List ℕ → List ℕ
pieces_written [] more = more
pieces_written (p ∷ ps) more = p.bytes ++ 34 ∷ 40 ∷ digits_written p.group (41 ∷ pieces_written ps more)

-- the bytes of pieces
abbrev pub pieces_bytes : List Piece → List ℕ
pieces_bytes [] = []
pieces_bytes (p ∷ ps) = (p.bytes ++ digits_bytes p.group) ++ pieces_bytes ps

-- neither the end of a string or comment nor of a line
abbrev pub IsWithin : ℕ → List ℕ → Type 0
IsWithin end bytes = All (λ b. (b ≢ end) × (b ≢ 10)) bytes

-- two digits say their byte, and a blank ends no line; no digit is a blank or `)`
abbrev pub AreDigits : List Digits → Type 0
AreDigits [] = Unit {0}
AreDigits (Byte b high low ∷ ds) =
    (0x20 < high) × (high ≢ 41) × (byte_of (digit_value 16 high) (digit_value 16 low) ≡ Some b) × AreDigits ds
AreDigits (Blank b ∷ ds) = (b ≤ 0x20) × (b ≢ 10) × AreDigits ds

-- each piece stands on one line, and no quote is among its bytes
abbrev pub ArePieces : List Piece → Type 0
ArePieces [] = Unit {0}
ArePieces (p ∷ ps) = IsWithin 34 p.bytes × AreDigits p.group × ArePieces ps
