-- What a word over the device tree leaves of the data stack.
use Rattle.std.specs.Prelude.{ℕ, List, length, nat_lt, Result, Ok, Err}
use Rattle.of_cells.specs.declared.cells.Cell.{Cell}
use Rattle.of_stacks.specs.declared.throws.Throw.{Throw}
use Rattle.of_stacks.specs.Throws.{stack_overflow}
use Rattle.of_stacks.specs.Order.{refused_if}
use Rattle.of_board.specs.declared.board.Board.{Board}

-- the board with another data stack
abbrev pub with_stack : Board → List Cell → Board
with_stack w s = record w { stack = s }

-- what is left, unless its data stack has no room for all its cells; every other fault counts before that one
abbrev pub with_room : Result Board Throw → Result Board Throw
with_room (Ok w) = refused_if (nat_lt 256 (length w.stack)) stack_overflow w
with_room (Err t) = Err t

-- the cell of a number below 2 ^ 32
abbrev pub number : ℕ → Cell
number n = record { 0 = n }
