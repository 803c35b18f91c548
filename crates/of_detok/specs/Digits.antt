-- Hexadecimal digits.
use Rattle.std.specs.Prelude.{ℕ, zero, suc, ◌/◌, ◌%◌, List, [], ◌∷◌, ◌++◌, Option, Some, None, codes, nat_lt}
use Rattle.std.specs.Prelude.{if◌then◌else◌}
use Rattle.std.specs.Char.{digit_char, digit_value as code_value}

-- the last digits of a number, so many
unfoldable pub digits : ℕ → ℕ → List ℕ
digits zero n = []
digits (suc more) n = digits more (n / 16) ++ digit_char (n % 16) ∷ []

-- the digits of bytes, two a byte
unfoldable pub pairs : List ℕ → List ℕ
pairs [] = []
pairs (b ∷ bytes) = digit_char (b / 16) ∷ digit_char (b % 16) ∷ pairs bytes

-- the value of a digit of either case
abbrev pub digit_value : ℕ → Option ℕ
digit_value c = if nat_lt (code_value c) 16 then Some (code_value c) else None

-- what stands at the beginning of a line: how many bytes stand before it, modulo 2^24
unfoldable pub place : ℕ → List ℕ
place before = digits 6 before ++ codes ": "
