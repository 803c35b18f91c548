-- What the name of a word finds (IEEE 1275-1994, 5.3.2 and annex A, `$find`; Forth 2012, 3.4.2).
use Rattle.std.specs.Prelude.{ℕ, true, false, List, ◌∷◌, Option, Some, None, Result, Ok, Err}
use Rattle.of_cells.specs.declared.cells.Cell.{Cell}
use Rattle.of_cells.specs.Numbers.{flag}
use Rattle.of_stacks.specs.declared.throws.Throw.{Throw}
use Rattle.of_stacks.specs.Stacks.{within}
use Rattle.of_stacks.specs.Throws.{stack_underflow}
use Rattle.of_memory.specs.Access.{read_bytes}
use Rattle.of_prims.specs.Data.{thrown}
use Rattle.of_compile.specs.Words.{WordsState}
use Rattle.of_text.specs.Names.{Names, xt_named}
use Rattle.of_board.specs.declared.board.Board.{Board}
use Rattle.of_board.specs.Left.{stack_left}

-- where the names of texts are looked up
abbrev pub search_order : WordsState → Board → Names
search_order w b = record { nodes = b.tree; home = b.active.«package»; words = w.dictionary }

-- the execution token of a name that was read, if it finds one
abbrev pub found_by : WordsState → Board → Result (List ℕ) Throw → Result (Option Cell) Throw
found_by w b (Ok name) = Ok (xt_named (search_order w b) name)
found_by w b (Err t) = Err t

-- that of the name of n bytes at an address
abbrev pub found_at : WordsState → Board → Cell → Cell → Result (Option Cell) Throw
found_at w b a n = found_by w b (thrown (read_bytes b.memory a.0 n.0))

-- ( s n -- xt true ) of a word, else ( s n -- s n false )
abbrev pub finding : Result (Option Cell) Throw → Cell → Cell → List Cell → Result (List Cell) Throw
finding (Ok (Some xt)) a n s = Ok (flag true ∷ xt ∷ s)
finding (Ok None) a n s = within (flag false ∷ n ∷ a ∷ s)
finding (Err t) a n s = Err t

abbrev pub find_of : WordsState → Board → List Cell → Result (List Cell) Throw
find_of w b (n ∷ a ∷ s) = finding (found_at w b a n) a n s
find_of w b _ = Err stack_underflow

-- `$find`
abbrev pub find_entry : WordsState → Board → Result Board Throw
find_entry w b = stack_left b (find_of w b b.stack)
