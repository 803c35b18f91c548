-- What each word of the group Addresses makes of the data stack, the top first, or what it throws
-- (IEEE 1275-1994, annex A; Forth 2012, 6.1.0880, 6.1.0706, 6.1.1650).
use Rattle.std.specs.Prelude.{ℕ, ◌+◌, ◌*◌, ◌/◌, List, ◌∷◌, Result, Ok, Err}
use Rattle.of_cells.specs.declared.cells.Cell.{Cell}
use Rattle.of_cells.specs.Numbers.{cell}
use Rattle.of_cells.specs.Arithmetic.{plus, times}
use Rattle.of_stacks.specs.declared.throws.Throw.{Throw}
use Rattle.of_stacks.specs.Throws.{stack_underflow}
use Rattle.of_stacks.specs.Stacks.{within}
use Rattle.of_fcodes.specs.declared.words.AddressesWord.{AddressesWord}
use Rattle.of_fcodes.specs.declared.words.AddressesWord.TheVariants.{ByteSize, WordSize, LongSize, CellSize}
use Rattle.of_fcodes.specs.declared.words.AddressesWord.TheVariants.{ByteIndexed, WordIndexed, LongIndexed, CellIndexed}
use Rattle.of_fcodes.specs.declared.words.AddressesWord.TheVariants.{NextByte, NextWord, NextLong, NextCell, Bytes}
use Rattle.of_fcodes.specs.declared.words.AddressesWord.TheVariants.{Words, Longs, Cells, Aligned, Here, Bounds}
use Rattle.of_prims.specs.declared.address_shapes.Addressing.{Addressing}
use Rattle.of_prims.specs.declared.address_shapes.Addressing.TheVariants as shape
use Rattle.of_prims.specs.Data.{number}

-- up to a multiple of 4, modulo 2 ^ 32
abbrev pub rounded_up : Cell → Cell
rounded_up x = cell ((x.0 + 3) / 4 * 4)

-- what each word takes and leaves, a word a line, with the size of an item
unfoldable pub addressing_of : AddressesWord → Addressing
addressing_of ByteSize = shape.Size (number 1)
addressing_of WordSize = shape.Size (number 2)
addressing_of LongSize = shape.Size (number 4)
addressing_of CellSize = shape.Size (number 4)
addressing_of ByteIndexed = shape.Indexed (number 1)
addressing_of WordIndexed = shape.Indexed (number 2)
addressing_of LongIndexed = shape.Indexed (number 4)
addressing_of CellIndexed = shape.Indexed (number 4)
addressing_of NextByte = shape.Next (number 1)
addressing_of NextWord = shape.Next (number 2)
addressing_of NextLong = shape.Next (number 4)
addressing_of NextCell = shape.Next (number 4)
addressing_of Bytes = shape.Scaled (number 1)
addressing_of Words = shape.Scaled (number 2)
addressing_of Longs = shape.Scaled (number 4)
addressing_of Cells = shape.Scaled (number 4)
addressing_of Aligned = shape.Aligned
addressing_of Here = shape.Here
addressing_of Bounds = shape.Bounds

-- what is made of the stack, by the next free address
abbrev pub addressed : Addressing → ℕ → List Cell → Result (List Cell) Throw
addressed (shape.Size n) here s = within (n ∷ s)
addressed (shape.Indexed n) here (i ∷ a ∷ s) = Ok (plus a (times i n) ∷ s)
addressed (shape.Next n) here (a ∷ s) = Ok (plus a n ∷ s)
addressed (shape.Scaled n) here (i ∷ s) = Ok (times i n ∷ s)
addressed shape.Aligned here (x ∷ s) = Ok (rounded_up x ∷ s)
addressed shape.Here here s = within (number here ∷ s)
addressed shape.Bounds here (n ∷ a ∷ s) = Ok (a ∷ plus a n ∷ s)
-- every other stack is too short
addressed _ here _ = Err stack_underflow

abbrev pub addresses_entry : AddressesWord → ℕ → List Cell → Result (List Cell) Throw
addresses_entry w here s = addressed (addressing_of w) here s
