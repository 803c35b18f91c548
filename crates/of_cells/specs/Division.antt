-- Division with the quotient rounded down (Forth 2012, 3.2.2.1 and 6.1.1561), and unsigned division.
use Rattle.std.specs.Prelude.{ℕ, ◌+◌, ◌-◌, ◌*◌, ◌/◌, ◌%◌, zero, suc, ℤ, pos, negsuc, neg_ℤ, ◌+ℤ◌, ◌*ℤ◌, ◌≡◌}
use Rattle.std.specs.Prelude.{◌≢◌, ◌<ℤ◌}
use Rattle.std.specs.Prelude.{◌≤ℤ◌, ◌⊎◌}
use Rattle.of_cells.specs.declared.cells.Cell.{Cell}
use Rattle.of_cells.specs.Numbers.{cell_of, signed}

-- the quotient rounded down
abbrev pub floored : ℤ → ℤ → ℤ
floored (pos n) (pos d) = pos (n / d)
floored (negsuc n) (pos d) = negsuc (n / d)
floored (pos zero) (negsuc d) = pos 0
floored (pos (suc n)) (negsuc d) = negsuc (n / suc d)
floored (negsuc n) (negsuc d) = pos (suc n / suc d)

-- what the quotient rounded down leaves
abbrev pub rest : ℤ → ℤ → ℤ
rest (pos n) (pos d) = pos (n % d)
rest (negsuc n) (pos d) = pos (d - 1 - n % d)
rest (pos zero) (negsuc d) = pos 0
rest (pos (suc n)) (negsuc d) = neg_ℤ (pos (d - n % suc d))
rest (negsuc n) (negsuc d) = neg_ℤ (pos (suc n % suc d))

-- the signed quotient; the least number by -1 wraps to itself
abbrev pub quotient : Cell → Cell → Cell
quotient x y = cell_of (floored (signed x) (signed y))

-- what the signed quotient leaves
abbrev pub remainder : Cell → Cell → Cell
remainder x y = cell_of (rest (signed x) (signed y))

-- the unsigned quotient
abbrev pub unsigned_quotient : Cell → Cell → Cell
unsigned_quotient x y = record { 0 = x.0 / y.0 }

-- what the unsigned quotient leaves
abbrev pub unsigned_remainder : Cell → Cell → Cell
unsigned_remainder x y = record { 0 = x.0 % y.0 }

-- the quotient of the product of two cells by a third, over 64 bits (6.1.0100)
abbrev pub scaled_quotient : Cell → Cell → Cell → Cell
scaled_quotient x y z = cell_of (floored (signed x *ℤ signed y) (signed z))

-- what that quotient leaves (6.1.0110)
abbrev pub scaled_remainder : Cell → Cell → Cell → Cell
scaled_remainder x y z = cell_of (rest (signed x *ℤ signed y) (signed z))

-- r lies between 0 and d, on the side of d
abbrev pub HasSignOf : ℤ → ℤ → Type 0
HasSignOf r (pos d) = (pos 0 ≤ℤ r) × (r <ℤ pos d)
HasSignOf r (negsuc d) = (negsuc d <ℤ r) × (r ≤ℤ pos 0)

-- quotient and rest give the number back, and the rest has the divisor's sign or is 0
abbrev pub DividesBack : Type 0
DividesBack = (n d : ℤ) → d ≢ pos 0 → (floored n d *ℤ d +ℤ rest n d ≡ n) × HasSignOf (rest n d) d
