-- The board that a word on its data stack leaves.
use Rattle.std.specs.Prelude.{List, Result, Ok, Err}
use Rattle.of_cells.specs.declared.cells.Cell.{Cell}
use Rattle.of_stacks.specs.declared.throws.Throw.{Throw}
use Rattle.of_board.specs.declared.board.Board.{Board}

-- the board with the stack that was left, or what was thrown
abbrev pub stack_left : Board → Result (List Cell) Throw → Result Board Throw
stack_left b (Ok s) = Ok (record b { stack = s })
stack_left b (Err t) = Err t
