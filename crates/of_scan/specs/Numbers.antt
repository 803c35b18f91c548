-- What a word says as a number in a base.
use Rattle.std.specs.Prelude.{ℕ, ◌==◌, List, [], ◌∷◌, ◌&&◌, length, Bool, Option, Some, None, is_some, nat_lt}
use Rattle.std.specs.Prelude.{if◌then◌else◌}
use Rattle.of_cells.specs.declared.cells.Cell.{Cell}
use Rattle.of_scan.specs.declared.numbers.Number.{Number}
use Rattle.of_scan.specs.declared.numbers.Number.TheVariants.{Value, OutOfRange, NoNumber}
use Rattle.std.specs.List.{list_all}
use Rattle.of_format.specs.Digits.{digit_value}
use Rattle.of_format.specs.Reading.{number_read}

-- whether a byte is a digit in a base
abbrev pub is_digit : ℕ → ℕ → Bool
is_digit base c = is_some (digit_value base c)

-- whether a text has digits alone
abbrev pub all_digits : ℕ → List ℕ → Bool
all_digits base text = list_all (λ c. is_digit base c) text

-- one or more digits
abbrev pub are_digits : ℕ → List ℕ → Bool
are_digits base text = nat_lt 0 (length text) && all_digits base text

-- without the sign
abbrev pub unsigned_part : List ℕ → List ℕ
unsigned_part [] = []
unsigned_part (b ∷ text) = if b == 45 then text else b ∷ text

-- a number that was read, or digits that no cell holds, or something else
abbrev pub number_or : Option Cell → Bool → Number
number_or (Some x) are = Value x
number_or None are = if are then OutOfRange else NoNumber

-- what a word says as a number in a base
unfoldable pub number_in : ℕ → List ℕ → Number
number_in base word = number_or (number_read base word) (are_digits base (unsigned_part word))
