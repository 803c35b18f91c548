-- What each word of the group Numbers makes of the data stack, the top first, of the data space and of the pictured
-- text, or what it throws (IEEE 1275-1994, annex A; Forth 2012, 6.1.0490, 6.1.1670, 6.1.2210, 6.1.0030,
-- 6.1.0050, 6.1.0040, 6.1.0750).
use Rattle.std.specs.Prelude.{ℕ, ◌-◌, ◌/◌, ◌%◌, ◌^◌, Bool, true, false, List, ◌∷◌, [], Option, Some, None, Result, Ok}
use Rattle.std.specs.Prelude.{Err}
use Rattle.std.specs.Char.{digit_char}
use Rattle.of_cells.specs.declared.cells.Cell.{Cell}
use Rattle.of_cells.specs.Numbers.{flag}
use Rattle.of_cells.specs.Comparing.{is_less}
use Rattle.of_cells.specs.Doubles.{double, number_of}
use Rattle.of_calc.specs.Arithmetic.{double_of, with_double}
use Rattle.of_cells.specs.Splitting.{low_byte}
use Rattle.of_stacks.specs.declared.throws.Throw.{Throw}
use Rattle.of_stacks.specs.Throws.{stack_underflow}
use Rattle.of_stacks.specs.Stacks.{within}
use Rattle.of_memory.specs.Access.{read_fault}
use Rattle.of_memory.specs.DataSpace.{DataSpace, bytes_from}
use Rattle.of_memory.specs.declared.width.Width.TheVariants.{One as OneByte}
use Rattle.of_fcodes.specs.declared.words.NumbersWord.{NumbersWord}
use Rattle.of_fcodes.specs.declared.words.NumbersWord.TheVariants.{Begin, Hold, Sign, NextDigit, AllDigits, End}
use Rattle.of_fcodes.specs.declared.words.NumbersWord.TheVariants.{UnsignedDigit, UnsignedDigits, UnsignedEnd, Base}
use Rattle.of_fcodes.specs.declared.words.NumbersWord.TheVariants.{ParseNumber, Digit, MinusOne, Zero, One, Two, Three}
use Rattle.of_fcodes.specs.declared.words.NumbersWord.TheVariants.{Noop, FcodeRevision}
use Rattle.of_format.specs.Digits.{digit_value, unsigned_text, double_text}
use Rattle.of_format.specs.Pictured.{held, base_in, text_address}
use Rattle.of_format.specs.Reading.{number_read}
use Rattle.of_prims.specs.Data.{Data, data_of, number, unless_fault}

-- a stack over the same data space and pictured text
abbrev pub beside : DataSpace → ℕ → Result (List Cell) Throw → Result Data Throw
beside m count (Ok s) = Ok (data_of s m count)
beside m count (Err t) = Err t

-- the stack over what holding a text leaves
abbrev pub holding : List Cell → Result (DataSpace × ℕ) Throw → Result Data Throw
holding s (Ok after) = Ok (data_of s after.0 after.1)
holding s (Err t) = Err t

-- the last digit of a double is held, and the rest of the double stays
abbrev pub next_digit : ℕ → List Cell → DataSpace → ℕ → Result ℕ Throw → Result Data Throw
next_digit n s m count (Ok base) =
    holding (with_double (double (n / base)) s) (held m count (digit_char (n % base) ∷ []))
next_digit n s m count (Err t) = Err t

-- all digits of a double are held, and 0 stays
abbrev pub all_digits : ℕ → List Cell → DataSpace → ℕ → Result ℕ Throw → Result Data Throw
all_digits n s m count (Ok base) = holding (number 0 ∷ number 0 ∷ s) (held m count (double_text base n))
all_digits n s m count (Err t) = Err t

-- the same two for one cell
abbrev pub next_unsigned_digit : ℕ → List Cell → DataSpace → ℕ → Result ℕ Throw → Result Data Throw
next_unsigned_digit n s m count (Ok base) =
    holding (number (n / base) ∷ s) (held m count (digit_char (n % base) ∷ []))
next_unsigned_digit n s m count (Err t) = Err t

abbrev pub all_unsigned_digits : ℕ → List Cell → DataSpace → ℕ → Result ℕ Throw → Result Data Throw
all_unsigned_digits n s m count (Ok base) = holding (number 0 ∷ s) (held m count (unsigned_text base n))
all_unsigned_digits n s m count (Err t) = Err t

-- a minus sign is held where the number is negative
abbrev pub signed_with : Bool → List Cell → DataSpace → ℕ → Result Data Throw
signed_with true s m count = holding s (held m count (45 ∷ []))
signed_with false s m count = Ok (data_of s m count)

-- the address and the length of the pictured text on the stack
abbrev pub with_text : ℕ → List Cell → List Cell
with_text count s = number count ∷ number (text_address count) ∷ s

-- the cell that a text reads as and false, or true where it is no number
abbrev pub with_number : Option Cell → List Cell → List Cell
with_number None s = flag true ∷ s
with_number (Some x) s = flag false ∷ x ∷ s

abbrev pub number_parsed : List ℕ → List Cell → DataSpace → ℕ → Result ℕ Throw → Result Data Throw
number_parsed text s m count (Ok base) = Ok (data_of (with_number (number_read base text) s) m count)
number_parsed text s m count (Err t) = Err t

-- a digit's value and true, or the character and false
abbrev pub with_digit : Cell → Option ℕ → List Cell → List Cell
with_digit char None s = flag false ∷ char ∷ s
with_digit char (Some d) s = flag true ∷ number d ∷ s

-- the table, a word a line
unfoldable pub numbers_entry : NumbersWord → List Cell → DataSpace → ℕ → Result Data Throw
numbers_entry Begin s m count = Ok (data_of s m 0)
numbers_entry Hold (char ∷ s) m count = holding s (held m count ((low_byte char).0 ∷ []))
numbers_entry Sign (n ∷ s) m count = signed_with (is_less n (number 0)) s m count
numbers_entry NextDigit (high ∷ low ∷ s) m count = next_digit (number_of (double_of low high)) s m count (base_in m)
numbers_entry AllDigits (high ∷ low ∷ s) m count = all_digits (number_of (double_of low high)) s m count (base_in m)
numbers_entry End (high ∷ low ∷ s) m count = Ok (data_of (with_text count s) m count)
numbers_entry UnsignedDigit (u ∷ s) m count = next_unsigned_digit u.0 s m count (base_in m)
numbers_entry UnsignedDigits (u ∷ s) m count = all_unsigned_digits u.0 s m count (base_in m)
numbers_entry UnsignedEnd (u ∷ s) m count = beside m count (within (with_text count s))
numbers_entry Base s m count = beside m count (within (number 0x50_0000 ∷ s))
numbers_entry ParseNumber (n ∷ a ∷ s) m count =
    unless_fault (read_fault m a.0 n.0 OneByte) (number_parsed (bytes_from m a.0 n.0) s m count (base_in m))
numbers_entry Digit (base ∷ char ∷ s) m count = Ok (data_of (with_digit char (digit_value base.0 char.0) s) m count)
numbers_entry MinusOne s m count = beside m count (within (number (2 ^ 32 - 1) ∷ s))
numbers_entry Zero s m count = beside m count (within (number 0 ∷ s))
numbers_entry One s m count = beside m count (within (number 1 ∷ s))
numbers_entry Two s m count = beside m count (within (number 2 ∷ s))
numbers_entry Three s m count = beside m count (within (number 3 ∷ s))
numbers_entry Noop s m count = Ok (data_of s m count)
numbers_entry FcodeRevision s m count = beside m count (within (number 0x3_0000 ∷ s))
-- every other stack is too short
numbers_entry _ _ m count = Err stack_underflow
