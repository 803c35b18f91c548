-- Numbers that a text reads as (IEEE 1275-1994, annex A, `$number`; Forth 2012, 3.4.1.3).
use Rattle.std.specs.Prelude.{ℕ, ◌+◌, ◌*◌, ◌-◌, ◌^◌, ◌≤◌, ◌≡◌, nat_le, ◌==◌, List, [], ◌∷◌, Option, Some, None}
use Rattle.std.specs.Prelude.{if◌then◌else◌}
use Rattle.of_cells.specs.declared.cells.Cell.{Cell}
use Rattle.of_cells.specs.Numbers.{cell, signed}
use Rattle.of_cells.specs.Arithmetic.{negated}
use Rattle.of_cells.specs.Splitting.{IsCell}
use Rattle.of_format.specs.Digits.{digit_value, unsigned_text, number_text}

-- a number with one more digit behind it, if both are there
abbrev pub with_digit : ℕ → Option ℕ → Option ℕ → Option ℕ
with_digit base None d = None
with_digit base (Some n) None = None
with_digit base (Some n) (Some d) = Some (n * base + d)

-- a number with the digits of a text behind it, if they all are digits
abbrev pub with_digits : ℕ → Option ℕ → List ℕ → Option ℕ
with_digits base n [] = n
with_digits base n (char ∷ text) = with_digits base (with_digit base n (digit_value base char)) text

-- a number, if it is at most the limit
abbrev pub at_most : ℕ → Option ℕ → Option ℕ
at_most limit None = None
at_most limit (Some n) = if nat_le n limit then Some n else None

-- the number of a text of one or more digits, if it is at most the limit
abbrev pub digits_read : ℕ → ℕ → List ℕ → Option ℕ
digits_read base limit [] = None
digits_read base limit (char ∷ text) = at_most limit (with_digits base (Some 0) (char ∷ text))

-- the cell of a number that was read
abbrev pub cell_read : Option ℕ → Option Cell
cell_read None = None
cell_read (Some n) = Some (cell n)

-- the cell of a number that was read behind a minus sign
abbrev pub negative_read : Option ℕ → Option Cell
negative_read None = None
negative_read (Some n) = Some (negated (cell n))

-- What a text reads as: digits without case, at most 2 ^ 32 - 1, or `-` and digits, at most 2 ^ 31.
unfoldable pub number_read : ℕ → List ℕ → Option Cell
number_read base [] = None
number_read base (char ∷ text) =
    if char == 45 then negative_read (digits_read base (2 ^ 31) text)
    else cell_read (digits_read base (2 ^ 32 - 1) (char ∷ text))

-- a cell's text reads as the cell, in each base, unsigned and signed
pub record ReadsBack : Type 0 where
  pub unsigned : (base : ℕ) (x : Cell)
      → 2 ≤ base → base ≤ 36 → IsCell x → number_read base (unsigned_text base x.0) ≡ Some x
  pub signed : (base : ℕ) (x : Cell)
      → 2 ≤ base → base ≤ 36 → IsCell x → number_read base (number_text base (signed x)) ≡ Some x
