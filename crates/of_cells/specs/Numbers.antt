-- Cells as numbers (Forth 2012, 3.1.3 and 3.1.4): below 2 ^ 32, or signed by two's complement.
use Rattle.std.specs.Prelude.{ℕ, ◌-◌, ◌%◌, ◌^◌, ℤ, pos, negsuc, Bool, if◌then◌else◌}
use Rattle.std.specs.Int.{w32, cast_signed}
use Rattle.of_cells.specs.declared.cells.Cell.{Cell}

-- the cell of a natural number: the number modulo 2 ^ 32
abbrev pub cell : ℕ → Cell
cell n = record { 0 = n % 2 ^ 32 }

-- a cell as a signed number: itself below 2 ^ 31, else 2 ^ 32 less
abbrev pub signed : Cell → ℤ
signed x = cast_signed w32 x.0

-- the cell of a signed number: the number modulo 2 ^ 32
abbrev pub cell_of : ℤ → Cell
cell_of (pos n) = cell n
cell_of (negsuc n) = record { 0 = 2 ^ 32 - 1 - n % 2 ^ 32 }

-- a flag: all bits set, or none
abbrev pub flag : Bool → Cell
flag truth = if truth then record { 0 = 2 ^ 32 - 1 } else record { 0 = 0 }
