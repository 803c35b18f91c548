-- Sums, differences and products, which wrap, and what depends on the sign (Forth 2012, 6.1).
use Rattle.std.specs.Prelude.{ℕ, ◌+◌, ◌-◌, ◌*◌, ◌^◌, nat_lt, if◌then◌else◌}
use Rattle.std.specs.Int.{int_min, int_max}
use Rattle.of_cells.specs.declared.cells.Cell.{Cell}
use Rattle.of_cells.specs.Numbers.{cell, cell_of, signed}

-- the sum (6.1.0120)
abbrev pub plus : Cell → Cell → Cell
plus x y = cell (x.0 + y.0)

-- the difference (6.1.0160)
abbrev pub minus : Cell → Cell → Cell
minus x y = cell (x.0 + (2 ^ 32 - y.0))

-- the product (6.1.0090)
abbrev pub times : Cell → Cell → Cell
times x y = cell (x.0 * y.0)

-- the negative (6.1.1910)
abbrev pub negated : Cell → Cell
negated x = cell (2 ^ 32 - x.0)

-- the absolute value (6.1.0690)
abbrev pub magnitude : Cell → Cell
magnitude x = if nat_lt x.0 (2 ^ 31) then x else negated x

-- the lesser signed number (6.1.1880)
abbrev pub least : Cell → Cell → Cell
least x y = cell_of (int_min (signed x) (signed y))

-- the greater signed number (6.1.1870)
abbrev pub greatest : Cell → Cell → Cell
greatest x y = cell_of (int_max (signed x) (signed y))
