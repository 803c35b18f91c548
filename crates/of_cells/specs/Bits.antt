-- Bits (Forth 2012, 6.1). A shift of 32 or more leaves nothing, or the sign where it keeps the sign.
use Rattle.std.specs.Prelude.{ℕ, ◌-◌, ◌*◌, ◌/◌, ◌^◌, bit_and, bit_or, bit_xor, nat_lt, if◌then◌else◌}
use Rattle.std.specs.Int.{int_shr}
use Rattle.of_cells.specs.declared.cells.Cell.{Cell}
use Rattle.of_cells.specs.Numbers.{cell, cell_of, signed}

-- the bits set in both (6.1.0720)
abbrev pub both : Cell → Cell → Cell
both x y = record { 0 = bit_and x.0 y.0 }

-- the bits set in either (6.1.1980)
abbrev pub either : Cell → Cell → Cell
either x y = record { 0 = bit_or x.0 y.0 }

-- the bits in which the two differ (6.1.2490)
abbrev pub differing : Cell → Cell → Cell
differing x y = record { 0 = bit_xor x.0 y.0 }

-- each bit turned (6.1.1720)
abbrev pub inverted : Cell → Cell
inverted x = record { 0 = 2 ^ 32 - 1 - x.0 }

-- shifted towards the high bits (6.1.1805)
abbrev pub shifted_left : Cell → Cell → Cell
shifted_left x y = if nat_lt y.0 32 then cell (x.0 * 2 ^ y.0) else record { 0 = 0 }

-- shifted towards the low bits, with zeros behind (6.1.2162)
abbrev pub shifted_right : Cell → Cell → Cell
shifted_right x y = if nat_lt y.0 32 then record { 0 = x.0 / 2 ^ y.0 } else record { 0 = 0 }

-- the signed number halved y times, each time rounded down
abbrev pub shifted_keeping_sign : Cell → Cell → Cell
shifted_keeping_sign x y = cell_of (int_shr (signed x) (if nat_lt y.0 32 then y.0 else 31))
