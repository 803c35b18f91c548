-- The string of the word `"` that no line ends: bytes as they are, and between them groups of hexadecimal digits, `"(`
-- to `)` (IEEE 1275-1994, 7.3.1).
use Rattle.std.specs.Prelude.{◌≡◌, ◌≢◌, ℕ, ◌<◌, ◌≤◌, List, [], ◌∷◌, ◌++◌, Some}
use Rattle.std.specs.List.{All}
use Rattle.of_format.specs.Digits.{digit_value}
use Rattle.of_scan.specs.Parts.{quoted_part}
use Rattle.of_scan.specs.Scan.{byte_of}
use Rattle.of_scan.specs.Strings.{Digits, Byte, Blank, digits_written, digits_bytes}

-- two digits say their byte; a line may end between pairs
abbrev pub SayBytes : List Digits → Type 0
SayBytes [] = Unit {0}
SayBytes (Byte b high low ∷ ds) =
    (0x20 < high) × (byte_of (digit_value 16 high) (digit_value 16 low) ≡ Some b) × SayBytes ds
SayBytes (Blank b ∷ ds) = (b ≤ 0x20) × SayBytes ds

-- a group, and then this text
abbrev pub group_written : List Digits → List ℕ → List ℕ
group_written ds more = 40 ∷ digits_written ds (41 ∷ more)

-- no group stands at the beginning of a text
abbrev pub HasNoGroup : List ℕ → Type 0
HasNoGroup text = (ds : List Digits) (more : List ℕ) → SayBytes ds → text ≢ group_written ds more

-- The string goes up to the first quote that no group follows, and takes all that is left where there is none. Each
-- text is one of these three.
pub record QuotedPartsAreRead : Type 0 where
  pub group : (bytes : List ℕ) (ds : List Digits) (more : List ℕ) → All (λ b. b ≢ 34) bytes → SayBytes ds
      → quoted_part (bytes ++ 34 ∷ group_written ds more)
      ≡ ((bytes ++ digits_bytes ds) ++ (quoted_part more).0, (quoted_part more).1)
  pub ended : (bytes more : List ℕ) → All (λ b. b ≢ 34) bytes → HasNoGroup more
      → quoted_part (bytes ++ 34 ∷ more) ≡ (bytes, more)
  pub unended : (bytes : List ℕ) → All (λ b. b ≢ 34) bytes → quoted_part bytes ≡ (bytes, [])
