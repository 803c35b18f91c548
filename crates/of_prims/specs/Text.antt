-- What each word of the group Text makes of the data stack, the top first, and of the data space, or what it throws
-- (IEEE 1275-1994, annex A; Forth 2012, 6.1.0980, 6.1.0770).
use Rattle.std.specs.Prelude.{ℕ, ◌+◌, ◌-◌, ◌==◌, min, nat_lt, List, ◌∷◌, [], length, take, drop, Option, Some, None}
use Rattle.std.specs.Prelude.{Result, Ok, Err, if◌then◌else◌}
use Rattle.std.specs.Char.{to_ascii_uppercase, to_ascii_lowercase}
use Rattle.of_cells.specs.declared.cells.Cell.{Cell}
use Rattle.of_cells.specs.Arithmetic.{plus}
use Rattle.of_cells.specs.Splitting.{low_byte}
use Rattle.of_stacks.specs.declared.throws.Throw.{Throw}
use Rattle.of_stacks.specs.Throws.{stack_underflow, invalid_argument}
use Rattle.of_stacks.specs.Order.{refused_if}
use Rattle.of_stacks.specs.Stacks.{within}
use Rattle.of_memory.specs.Access.{read_fault, write_fault, number_at}
use Rattle.of_memory.specs.DataSpace.{DataSpace, bytes_from, written}
use Rattle.of_memory.specs.declared.width.Width.TheVariants.{One}
use Rattle.of_fcodes.specs.declared.words.TextWord.{TextWord}
use Rattle.of_fcodes.specs.declared.words.TextWord.TheVariants.{UpperCase, LowerCase, Pack, Count, Blank, Backspace}
use Rattle.of_fcodes.specs.declared.words.TextWord.TheVariants.{Bell, LeftParseString, ParseTwoInts}
use Rattle.of_format.specs.Reading.{number_read}
use Rattle.of_prims.specs.Data.{Space, number, unless_fault, over}

-- a character with an ASCII letter in upper case
abbrev pub upper_case : Cell → Cell
upper_case char = number (to_ascii_uppercase char.0)

-- a character with an ASCII letter in lower case
abbrev pub lower_case : Cell → Cell
lower_case char = number (to_ascii_lowercase char.0)

-- how many bytes of a text stand before the first that is the byte
abbrev pub before : ℕ → List ℕ → ℕ
before byte [] = 0
before byte (x ∷ xs) = if x == byte then 0 else before byte xs + 1

-- A text of n bytes at the address, parted at its byte i: what stands before it, on top, and what stands after it.
-- At the end of the text nothing stands after it.
abbrev pub parted : Cell → ℕ → ℕ → List Cell → List Cell
parted a n i s = number i ∷ a ∷ number (n - (i + 1)) ∷ plus a (number (min (i + 1) n)) ∷ s

-- two numbers, where a text gave both
abbrev pub both_read : Option Cell → Option Cell → Option (Cell × Cell)
both_read (Some low) (Some high) = Some (low, high)
both_read (Some low) None = None
both_read None high = None

-- What a text reads as in hexadecimal: the number behind its first comma, and the one before it. Without a comma
-- the whole text is the second, and the first is 0.
abbrev pub two_read : List ℕ → Option (Cell × Cell)
two_read text =
    if nat_lt (before 44 text) (length text)
    then both_read (number_read 16 (drop (before 44 text + 1) text)) (number_read 16 (take (before 44 text) text))
    else both_read (Some (number 0)) (number_read 16 text)

-- both numbers on the stack, the second on top
abbrev pub two_pushed : Option (Cell × Cell) → List Cell → Result (List Cell) Throw
two_pushed None s = Err invalid_argument
two_pushed (Some numbers) s = Ok (numbers.1 ∷ numbers.0 ∷ s)

-- the table, a word a line
unfoldable pub text_entry : TextWord → List Cell → DataSpace → Result Space Throw
text_entry UpperCase (char ∷ s) m = Ok (upper_case char ∷ s, m)
text_entry LowerCase (char ∷ s) m = Ok (lower_case char ∷ s, m)
text_entry Pack (a ∷ n ∷ from ∷ s) m =
    unless_fault (read_fault m from.0 n.0 One)
    (unless_fault (write_fault m a.0 (n.0 + 1) One)
    (refused_if (nat_lt 255 n.0) invalid_argument (a ∷ s, written m a.0 (n.0 ∷ bytes_from m from.0 n.0))))
text_entry Count (a ∷ s) m =
    unless_fault (read_fault m a.0 1 One) (over m (within (number (number_at m a.0 1) ∷ plus a (number 1) ∷ s)))
text_entry Blank s m = over m (within (number 32 ∷ s))
text_entry Backspace s m = over m (within (number 8 ∷ s))
text_entry Bell s m = over m (within (number 7 ∷ s))
text_entry LeftParseString (char ∷ n ∷ a ∷ s) m =
    unless_fault (read_fault m a.0 n.0 One)
    (over m (within (parted a n.0 (before (low_byte char).0 (bytes_from m a.0 n.0)) s)))
text_entry ParseTwoInts (n ∷ a ∷ s) m =
    unless_fault (read_fault m a.0 n.0 One)
    (over m (two_pushed (two_read (bytes_from m a.0 n.0)) s))
-- every other stack is too short
text_entry _ _ m = Err stack_underflow
