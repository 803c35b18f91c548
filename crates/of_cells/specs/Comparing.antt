-- Comparisons of signed and unsigned numbers (Forth 2012, 6.1 and 6.2).
use Rattle.std.specs.Prelude.{◌-◌, ◌^◌, Bool, not, ◌&&◌, nat_lt, int_lt, int_le}
use Rattle.of_cells.specs.declared.cells.Cell.{Cell}
use Rattle.of_cells.specs.Numbers.{signed}
use Rattle.of_cells.specs.Arithmetic.{minus}

-- the first signed number is less (6.1.0480)
abbrev pub is_less : Cell → Cell → Bool
is_less x y = int_lt (signed x) (signed y)

-- the first signed number is at most the second
abbrev pub is_at_most : Cell → Cell → Bool
is_at_most x y = int_le (signed x) (signed y)

-- the first unsigned number is less (6.1.2340)
abbrev pub is_below : Cell → Cell → Bool
is_below x y = nat_lt x.0 y.0

-- signed, with both ends in (IEEE 1275-1994, `between`)
abbrev pub is_between : Cell → Cell → Cell → Bool
is_between n low high = is_at_most low n && is_at_most n high

-- on the circle of cells from low up to, but not with, high (6.2.2440)
abbrev pub is_within : Cell → Cell → Cell → Bool
is_within n low high = is_below (minus n low) (minus high low)
