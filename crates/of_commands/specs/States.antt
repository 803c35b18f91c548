-- What is printed of the state of a machine: its stacks, `here`, and how many own words were made (Forth 2012, 3.1,
-- 6.1.1650; IEEE 1275-1994, 5.3.3.1).
use Rattle.std.specs.Prelude.{ℕ, ◌%◌, ◌^◌, List, [], ◌∷◌, ◌++◌, length, reverse, codes}
use Rattle.std.specs.Int.{to_be_bytes, w32}
use Rattle.hex.specs.Hex.{encode_lower}
use Rattle.of_cells.specs.declared.cells.Cell.{Cell}
use Rattle.of_compile.specs.Coding.{Coding}
use Rattle.of_machine.specs.States.{MachineState}

-- a number below 2 ^ 32 in 8 hexadecimal digits
abbrev pub number_shown : ℕ → List ℕ
number_shown n = encode_lower (to_be_bytes w32 n)

-- cells, each behind a space
abbrev pub cells_shown : List Cell → List ℕ
cells_shown [] = []
cells_shown (x ∷ cells) = 32 ∷ number_shown x.0 ++ cells_shown cells

-- a stack as a line, the bottom first
abbrev pub stack_line : List Cell → List ℕ
stack_line cells = codes "stack" ++ cells_shown cells ++ 10 ∷ []

-- a number as a line, behind what it is of
abbrev pub number_line : List ℕ → ℕ → List ℕ
number_line what n = what ++ number_shown n ++ 10 ∷ []

-- the data stack, how many items the return stack has, `here`, and how many own words were made
abbrev pub state_text : MachineState Coding → List ℕ
state_text m =
    stack_line (reverse m.eval.board.stack)
    ++ number_line (codes "return stack ") (length m.eval.flow.items % 2 ^ 32)
    ++ number_line (codes "here ") m.eval.board.memory.here
    ++ number_line (codes "words ") (length m.eval.words.dictionary % 2 ^ 32)
