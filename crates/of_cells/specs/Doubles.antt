-- Doubles: numbers of 64 bits in two cells (Forth 2012, 3.1.4.1).
use Rattle.std.specs.Prelude.{ℕ, ◌+◌, ◌-◌, ◌*◌, ◌/◌, ◌%◌, ◌^◌, nat_lt, if◌then◌else◌}
use Rattle.of_cells.specs.declared.cells.Cell.{Cell}
use Rattle.of_cells.specs.declared.doubles.Double.{Double}
use Rattle.of_cells.specs.Numbers.{cell}

-- the unsigned number that a double is
abbrev pub number_of : Double → ℕ
number_of d = d.low.0 + 2 ^ 32 * d.high.0

-- the double of a number: the number modulo 2 ^ 64
abbrev pub double : ℕ → Double
double n = record { low = cell n; high = cell (n / 2 ^ 32) }

-- the product of two unsigned cells (6.1.2360)
abbrev pub wide_product : Cell → Cell → Double
wide_product x y = double (x.0 * y.0)

-- the quotient of a double by a cell, modulo 2 ^ 32 (6.1.2370)
abbrev pub double_quotient : Double → Cell → Cell
double_quotient d y = cell (number_of d / y.0)

-- what that quotient leaves
abbrev pub double_remainder : Double → Cell → Cell
double_remainder d y = record { 0 = number_of d % y.0 }

-- the sum of two doubles, modulo 2 ^ 64 (8.6.1.1040)
abbrev pub double_sum : Double → Double → Double
double_sum d e = double (number_of d + number_of e)

-- the difference of two doubles, modulo 2 ^ 64 (8.6.1.1050)
abbrev pub double_difference : Double → Double → Double
double_difference d e = double (number_of d + (2 ^ 64 - number_of e))

-- a signed cell as a double (6.1.2170)
abbrev pub extended : Cell → Double
extended x = record { low = x; high = if nat_lt x.0 (2 ^ 31) then record { 0 = 0 } else record { 0 = 2 ^ 32 - 1 } }
