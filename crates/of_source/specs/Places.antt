-- The line and the column of a place in a text: a place is how many bytes stand before it.
use Rattle.std.specs.Prelude.{ℕ, ◌+◌, ◌-◌, List, length, take, take_while, reverse, not, nat_eq}
use Rattle.std.specs.List.{count_by}

-- its line: 1, and how many bytes 0x0A stand before it
abbrev pub line_at : List ℕ → ℕ → ℕ
line_at text at = 1 + count_by (λ b. nat_eq b 10) (take at text)

-- its column: 1, and how many bytes stand before it behind the last 0x0A before it
abbrev pub column_at : List ℕ → ℕ → ℕ
column_at text at = 1 + length (take_while (λ b. not (nat_eq b 10)) (reverse (take at text)))

-- the place of the last byte of a text; that of a text without bytes is 0
abbrev pub last_place : List ℕ → ℕ
last_place text = length text - 1
