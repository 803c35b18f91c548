-- Digits, and numbers as text in a base (IEEE 1275-1994, annex A; Forth 2012, 3.2.1.2 and 6.1.0050).
use Rattle.std.specs.Prelude.{ℕ, zero, suc, ◌+◌, ◌/◌, ◌%◌, ℤ, pos, negsuc, nat_lt, List, [], ◌∷◌, ◌++◌, Option, Some}
use Rattle.std.specs.Prelude.{None, if◌then◌else◌}
use Rattle.std.specs.Char.{digit_char, digit_value as code_value}

-- the digits of a number in a base, at most `more` and one
unfoldable pub digits : ℕ → ℕ → ℕ → List ℕ
digits zero base n = digit_char (n % base) ∷ []
digits (suc more) base n =
    if nat_lt n base then digit_char (n % base) ∷ [] else digits more base (n / base) ++ digit_char (n % base) ∷ []

-- a cell's number in a base, unsigned
abbrev pub unsigned_text : ℕ → ℕ → List ℕ
unsigned_text base n = digits 31 base n

-- a double's number in a base
abbrev pub double_text : ℕ → ℕ → List ℕ
double_text base n = digits 63 base n

-- a signed number in a base
unfoldable pub number_text : ℕ → ℤ → List ℕ
number_text base (pos n) = digits 31 base n
number_text base (negsuc n) = 45 ∷ digits 31 base (n + 1)

-- what a character stands for as a digit: 0 to 9, and letters of either case from 10 on
unfoldable pub digit_of : ℕ → Option ℕ
digit_of char = if nat_lt (code_value char) 36 then Some (code_value char) else None

-- a digit, if it is below the base
abbrev pub below_base : ℕ → Option ℕ → Option ℕ
below_base base None = None
below_base base (Some d) = if nat_lt d base then Some d else None

-- the value of a character as a digit in a base
abbrev pub digit_value : ℕ → ℕ → Option ℕ
digit_value base char = below_base base (digit_of char)
