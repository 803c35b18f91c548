-- The line of a state that a debugger shows.
use Rattle.std.specs.Prelude.{ℕ, false, List, [], ◌∷◌, ◌++◌, codes, reverse}
use Rattle.std.specs.Fmt.{decimal, digits}
use Rattle.of_cells.specs.declared.cells.Cell.{Cell}
use Rattle.of_debug.specs.Debugging.{Debugged, made}

-- cells in hexadecimal digits, unsigned, each with a space behind it
abbrev pub cells_text : List Cell → List ℕ
cells_text [] = []
cells_text (x ∷ cells) = (digits 16 false x.0 ++ codes " ") ++ cells_text cells

-- how many steps were made, in decimal digits, and the data stack, the bottom first
abbrev pub state_line : Debugged → List ℕ
state_line d =
    codes "@" ++ decimal (made d) ++ codes " [ " ++ cells_text (reverse d.feed.machine.eval.board.stack) ++ codes "]\n"
