-- What is printed (IEEE 1275-1994, annex A; Forth 2012, 6.1.0180 and 6.2.0210).
use Rattle.std.specs.Prelude.{ℕ, ◌-◌, ℤ, pos, negsuc, Bool, true, false, List, [], ◌∷◌, ◌++◌, length, replicate}
use Rattle.std.specs.Prelude.{codes}
use Rattle.of_cells.specs.declared.cells.Cell.{Cell}
use Rattle.of_cells.specs.Numbers.{signed}
use Rattle.of_stacks.specs.declared.throws.Throw.{Throw}
use Rattle.of_stacks.specs.Throws.{throw_text}
use Rattle.of_format.specs.Digits.{number_text}

-- a text and a space
abbrev pub spaced : List ℕ → List ℕ
spaced text = text ++ 32 ∷ []

-- a cell as `.` prints it
abbrev pub cell_text : ℕ → Cell → List ℕ
cell_text base x = spaced (number_text base (signed x))

-- the cells of a stack, the top first, as `.s` prints them: the bottom first
abbrev pub stack_text : ℕ → List Cell → List ℕ
stack_text base [] = []
stack_text base (x ∷ s) = stack_text base s ++ cell_text base x

-- how many spaces stand before so many bytes in a width; a negative width wants none
abbrev pub padding : ℤ → ℕ → ℕ
padding (pos width) n = width - n
padding (negsuc width) n = 0

-- a text at the right end of a width, never cut
abbrev pub at_right : ℤ → List ℕ → List ℕ
at_right width text = replicate (padding width (length text)) 32 ++ text

-- what a throw that nothing catches prints
abbrev pub fault_text : Throw → List ℕ
fault_text t = codes "fault " ++ number_text 10 t.0 ++ codes ": " ++ throw_text t.0 ++ 10 ∷ []

-- ---- the console

-- what was printed
pub record Printed : Type 0 where
  -- all bytes that were printed
  pub text : List ℕ
  -- there is room for the text of one more throw
  pub ready : Bool

-- how many bytes of room are kept for the text of a throw
abbrev pub room_kept : Bool → ℕ
room_kept true = 72
room_kept false = 0

-- nothing was printed yet
abbrev pub nothing_printed : Printed
nothing_printed = record { text = []; ready = false }

-- a text was printed, and room was made for the text of a throw, too
abbrev pub printed : Printed → List ℕ → Printed
printed c text = record { text = c.text ++ text; ready = true }

-- room was made for the text of a throw
abbrev pub made_ready : Printed → Printed
made_ready c = record c { ready = true }

-- that room is given up, unless it is kept
abbrev pub ready_kept : Printed → Bool → Printed
ready_kept c true = c
ready_kept c false = record c { ready = false }

-- what a throw prints that nothing catches, for which there was room
abbrev pub fault_printed : Printed → Throw → Printed
fault_printed c t = record { text = c.text ++ fault_text t; ready = false }
