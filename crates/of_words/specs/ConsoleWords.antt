-- What each of the console's ordinary words without an FCode makes of the board, or what it throws. Forth 2012:
-- 6.1.0290 `1+`, 6.1.0300 `1-`, 6.2.2298 `true`, 6.2.1485 `false`, 6.1.1805 `lshift`, 6.1.2162 `rshift`, 6.1.1720
-- `invert`, 6.1.2220 `space`, 6.1.2230 `spaces`, 6.1.0710 `allot`, 6.1.0705 `align`, 6.2.1350 `erase`, 6.2.1660 `hex`,
-- 6.1.1170 `decimal`, 6.1.2170 `s>d`, 6.1.0100 `*/`, 6.1.0110 `*/mod`. The others: IEEE 1275-1994, annex A
-- and 7.4.11.
use Rattle.std.specs.Prelude.{ℕ, ◌+◌, ℤ, pos, negsuc, Bool, true, false, List, [], ◌∷◌, replicate, Option, Some, None}
use Rattle.std.specs.Prelude.{Result, Ok, Err}
use Rattle.std.specs.Int.{bytes_high_first}
use Rattle.of_cells.specs.declared.cells.Cell.{Cell}
use Rattle.of_cells.specs.Arithmetic.{plus, minus}
use Rattle.of_cells.specs.Division.{scaled_quotient, scaled_remainder}
use Rattle.of_cells.specs.Doubles.{extended}
use Rattle.of_cells.specs.Numbers.{flag, signed}
use Rattle.of_stacks.specs.declared.throws.Throw.{Throw}
use Rattle.of_stacks.specs.Stacks.{within}
use Rattle.of_stacks.specs.Throws.{no_node, stack_underflow}
use Rattle.of_fcodes.specs.declared.console_words.ConsoleWord.{ConsoleWord}
use Rattle.of_fcodes.specs.declared.console_words.ConsoleWord.TheVariants as console
use Rattle.of_fcodes.specs.declared.words.ArithmeticWord.TheVariants.{Invert, LeftShift, RightShift}
use Rattle.of_memory.specs.Access.{filled}
use Rattle.of_memory.specs.DataSpace.{DataSpace, written}
use Rattle.of_memory.specs.Growth.{aligned, allotted}
use Rattle.of_memory.specs.Regions.{scratch_start}
use Rattle.of_memory.specs.declared.fault.MemFault.{MemFault}
use Rattle.of_calc.specs.Arithmetic.{arithmetic_entry, if_divides, with_double}
use Rattle.of_prims.specs.Data.{cell_at, number, throw_of}
use Rattle.of_stacks.specs.declared.stop.Stop.{Stop}
use Rattle.of_stacks.specs.declared.stop.Stop.TheVariants.{Thrown, NoMemory as Refused}
use Rattle.of_nodes.specs.declared.fault.NodeFault.{NodeFault}
use Rattle.of_nodes.specs.declared.fault.NodeFault.TheVariants.{BadName, NoMemory, NoNode, PropertyFull, TooManyNodes}
use Rattle.of_nodes.specs.declared.phandles.Phandle.{Phandle}
use Rattle.of_console.specs.Children.{ls_text}
use Rattle.of_console.specs.Texts.{devs_text, properties_text, pwd_text}
use Rattle.of_board.specs.Text.{printed}
use Rattle.of_board.specs.declared.board.Board.{Board}

-- ---- on the data stack

-- the board with what a word left on the stack, or its throw
abbrev pub on_board : Board → Result (List Cell) Throw → Result Board Throw
on_board m (Ok s) = Ok (record m { stack = s })
on_board m (Err t) = Err t

-- `1+` and `2+` ( x -- y )
abbrev pub increased : Cell → List Cell → Result (List Cell) Throw
increased n [] = Err stack_underflow
increased n (x ∷ s) = Ok (plus x n ∷ s)

-- `1-` and `2-` ( x -- y )
abbrev pub decreased : Cell → List Cell → Result (List Cell) Throw
decreased n [] = Err stack_underflow
decreased n (x ∷ s) = Ok (minus x n ∷ s)

-- `s>d` ( n -- d ), the high cell on top
abbrev pub doubled : List Cell → Result (List Cell) Throw
doubled [] = Err stack_underflow
doubled (x ∷ s) = within (with_double (extended x) s)

-- `*/` ( x y d -- quotient ), by way of 64 bits, rounded down
abbrev pub scaled : List Cell → Result (List Cell) Throw
scaled (d ∷ y ∷ x ∷ s) = if_divides d (scaled_quotient x y d ∷ s)
scaled _ = Err stack_underflow

-- `*/mod` ( x y d -- rest quotient )
abbrev pub scaled_parts : List Cell → Result (List Cell) Throw
scaled_parts (d ∷ y ∷ x ∷ s) = if_divides d (scaled_quotient x y d ∷ scaled_remainder x y d ∷ s)
scaled_parts _ = Err stack_underflow

-- ---- on the console

-- a signed number of blanks; none where it is negative
abbrev pub blanks : ℤ → List ℕ
blanks (pos n) = replicate n 32
blanks (negsuc n) = []

-- `spaces` ( n -- )
abbrev pub spaces_entry : List Cell → Board → Result Board Throw
spaces_entry [] m = Err stack_underflow
spaces_entry (n ∷ s) m = Ok (record m { stack = s; console = printed m.console (blanks (signed n)) })

-- ---- on the data space

-- the board with a data space that a call left, or the throw of its fault
abbrev pub space_changed : List Cell → Result DataSpace MemFault → Board → Result Board Throw
space_changed s (Ok after) m = Ok (record m { stack = s; memory = after })
space_changed s (Err fault) m = Err (throw_of fault)

-- `allot` ( n -- )
abbrev pub allot_entry : List Cell → Board → Result Board Throw
allot_entry [] m = Err stack_underflow
allot_entry (n ∷ s) m = space_changed s (allotted m.memory n.0) m

-- `erase` ( a n -- )
abbrev pub erase_entry : List Cell → Board → Result Board Throw
erase_entry (n ∷ a ∷ s) m = space_changed s (filled m.memory a.0 n.0 0) m
erase_entry _ m = Err stack_underflow

-- the data space with `here` at an address
abbrev pub here_at : ℕ → DataSpace → DataSpace
here_at a m = record m { here = a }

-- the data space with a number in the cell `base`
abbrev pub with_base : ℕ → DataSpace → DataSpace
with_base n m = written m scratch_start (bytes_high_first 4 n)

-- where the flag of `fcode-debug?` stands, behind the cell `base`
abbrev pub debug_cell : ℕ
debug_cell = scratch_start + 4

-- ---- on the device tree

-- why a text of the tree isn't there
abbrev pub fault_stop : NodeFault → Stop
fault_stop NoMemory = Refused
fault_stop NoNode = Thrown no_node
fault_stop BadName = Thrown no_node
fault_stop PropertyFull = Thrown no_node
fault_stop TooManyNodes = Thrown no_node

-- the board with a text of the tree on the console; -259 where there is no node
abbrev pub text_shown : Result (List ℕ) NodeFault → Board → Result Board Throw
text_shown (Ok text) m = Ok (record m { console = printed m.console text })
text_shown (Err fault) m = Err no_node

-- the text of the active package; -259 where there is none
abbrev pub package_shown : (Phandle → Result (List ℕ) NodeFault) → Option Phandle → Board → Result Board Throw
package_shown text None m = Err no_node
package_shown text (Some node) m = text_shown (text node) m

-- the board without an active package
abbrev pub without_package : Board → Board
without_package m = record m { active = record m.active { «package» = None } }

-- ---- the table, a word a line
abbrev pub console_entry : ConsoleWord → Board → Result Board Throw
console_entry console.OnePlus m = on_board m (increased (number 1) m.stack)
console_entry console.OneMinus m = on_board m (decreased (number 1) m.stack)
console_entry console.TwoPlus m = on_board m (increased (number 2) m.stack)
console_entry console.TwoMinus m = on_board m (decreased (number 2) m.stack)
console_entry console.True m = on_board m (within (flag true ∷ m.stack))
console_entry console.False m = on_board m (within (flag false ∷ m.stack))
console_entry console.ShiftLeft m = on_board m (arithmetic_entry LeftShift m.stack)
console_entry console.ShiftRight m = on_board m (arithmetic_entry RightShift m.stack)
console_entry console.Not m = on_board m (arithmetic_entry Invert m.stack)
console_entry console.Struct m = on_board m (within (number 0 ∷ m.stack))
console_entry console.Space m = Ok (record m { console = printed m.console (32 ∷ []) })
console_entry console.Spaces m = spaces_entry m.stack m
console_entry console.Allot m = allot_entry m.stack m
console_entry console.Align m = Ok (record m { memory = here_at (aligned m.memory.here) m.memory })
console_entry console.Erase m = erase_entry m.stack m
console_entry console.Hex m = Ok (record m { memory = with_base 16 m.memory })
console_entry console.Decimal m = Ok (record m { memory = with_base 10 m.memory })
console_entry console.SingleToDouble m = on_board m (doubled m.stack)
console_entry console.TimesSlash m = on_board m (scaled m.stack)
console_entry console.TimesSlashMod m = on_board m (scaled_parts m.stack)
console_entry console.FcodeDebug m = on_board m (within (cell_at m.memory debug_cell ∷ m.stack))
console_entry console.DeviceEnd m = Ok (without_package m)
console_entry console.PrintPath m = package_shown (pwd_text m.memory m.tree) m.active.package m
console_entry console.PrintChildren m = package_shown (ls_text m.memory m.tree) m.active.package m
console_entry console.PrintProperties m = package_shown (properties_text m.memory m.tree) m.active.package m
console_entry console.ShowDevices m = text_shown (Ok (devs_text m.memory m.tree)) m

-- whether the console grows by the word
abbrev pub console_grows : ConsoleWord → Bool
console_grows console.OnePlus = false
console_grows console.OneMinus = false
console_grows console.TwoPlus = false
console_grows console.TwoMinus = false
console_grows console.True = false
console_grows console.False = false
console_grows console.ShiftLeft = false
console_grows console.ShiftRight = false
console_grows console.Not = false
console_grows console.Struct = false
console_grows console.Space = true
console_grows console.Spaces = true
console_grows console.Allot = false
console_grows console.Align = false
console_grows console.Erase = false
console_grows console.Hex = false
console_grows console.Decimal = false
console_grows console.SingleToDouble = false
console_grows console.TimesSlash = false
console_grows console.TimesSlashMod = false
console_grows console.FcodeDebug = false
console_grows console.DeviceEnd = false
console_grows console.PrintPath = true
console_grows console.PrintChildren = true
console_grows console.PrintProperties = true
console_grows console.ShowDevices = true
