-- Cells, halves of 16 bits and bytes, split and joined (IEEE 1275-1994, A.5.2). Inputs are cut to their width.
use Rattle.std.specs.Prelude.{ℕ, ◌+◌, ◌*◌, ◌/◌, ◌%◌, ◌^◌, ◌<◌, ◌≡◌}
use Rattle.of_cells.specs.declared.cells.Cell.{Cell}

-- the least significant byte
abbrev pub low_byte : Cell → Cell
low_byte x = record { 0 = x.0 % 2 ^ 8 }

-- the byte above it
abbrev pub second_byte : Cell → Cell
second_byte x = record { 0 = x.0 / 2 ^ 8 % 2 ^ 8 }

-- the byte above that
abbrev pub third_byte : Cell → Cell
third_byte x = record { 0 = x.0 / 2 ^ 16 % 2 ^ 8 }

-- the most significant byte
abbrev pub high_byte : Cell → Cell
high_byte x = record { 0 = x.0 / 2 ^ 24 }

-- the less significant 16 bits
abbrev pub low_half : Cell → Cell
low_half x = record { 0 = x.0 % 2 ^ 16 }

-- the more significant 16 bits
abbrev pub high_half : Cell → Cell
high_half x = record { 0 = x.0 / 2 ^ 16 }

-- the half of two bytes, the second the more significant
abbrev pub half_of : Cell → Cell → Cell
half_of low high = record { 0 = low.0 % 2 ^ 8 + 2 ^ 8 * (high.0 % 2 ^ 8) }

-- the cell of two halves, the second the more significant
abbrev pub cell_of_halves : Cell → Cell → Cell
cell_of_halves low high = record { 0 = low.0 % 2 ^ 16 + 2 ^ 16 * (high.0 % 2 ^ 16) }

-- the cell of four bytes, the last the most significant
abbrev pub cell_of_bytes : Cell → Cell → Cell → Cell → Cell
cell_of_bytes low second third high =
    record { 0 = low.0 % 2 ^ 8 + 2 ^ 8 * (second.0 % 2 ^ 8) + 2 ^ 16 * (third.0 % 2 ^ 8) + 2 ^ 24 * (high.0 % 2 ^ 8) }

-- the two bytes of the low half exchanged
abbrev pub flipped_half : Cell → Cell
flipped_half x = half_of (second_byte x) (low_byte x)

-- the halves exchanged
abbrev pub flipped_halves : Cell → Cell
flipped_halves x = cell_of_halves (high_half x) (low_half x)

-- the four bytes in the other order
abbrev pub flipped_bytes : Cell → Cell
flipped_bytes x = cell_of_bytes (high_byte x) (third_byte x) (second_byte x) (low_byte x)

-- the number of a cell
abbrev pub IsCell : Cell → Type 0
IsCell x = x.0 < 2 ^ 32

abbrev pub IsByte : Cell → Type 0
IsByte x = x.0 < 2 ^ 8

abbrev pub IsHalf : Cell → Type 0
IsHalf x = x.0 < 2 ^ 16

-- a cell is the join of its four bytes
abbrev pub JoinsItsBytes : Type 0
JoinsItsBytes = (x : Cell) → IsCell x → cell_of_bytes (low_byte x) (second_byte x) (third_byte x) (high_byte x) ≡ x

-- a cell is the join of its halves
abbrev pub JoinsItsHalves : Type 0
JoinsItsHalves = (x : Cell) → IsCell x → cell_of_halves (low_half x) (high_half x) ≡ x

-- what was flipped twice is as before
pub record FlipsBack : Type 0 where
  pub half : (x : Cell) → IsHalf x → flipped_half (flipped_half x) ≡ x
  pub halves : (x : Cell) → IsCell x → flipped_halves (flipped_halves x) ≡ x
  pub bytes : (x : Cell) → IsCell x → flipped_bytes (flipped_bytes x) ≡ x

-- the bytes of a join are the bytes joined
pub record SplitsItsBytes : Type 0 where
  pub low : (a b c d : Cell) → IsByte a → low_byte (cell_of_bytes a b c d) ≡ a
  pub second : (a b c d : Cell) → IsByte b → second_byte (cell_of_bytes a b c d) ≡ b
  pub third : (a b c d : Cell) → IsByte c → third_byte (cell_of_bytes a b c d) ≡ c
  pub high : (a b c d : Cell) → IsByte d → high_byte (cell_of_bytes a b c d) ≡ d

-- the halves of a join are the halves joined
pub record SplitsItsHalves : Type 0 where
  pub low : (a b : Cell) → IsHalf a → low_half (cell_of_halves a b) ≡ a
  pub high : (a b : Cell) → IsHalf b → high_half (cell_of_halves a b) ≡ b

-- the bytes of a half are the bytes joined
pub record SplitsItsHalf : Type 0 where
  pub low : (a b : Cell) → IsByte a → low_byte (half_of a b) ≡ a
  pub high : (a b : Cell) → IsByte b → second_byte (half_of a b) ≡ b
