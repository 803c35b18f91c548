-- What the console's words throw has a listed number, word by word.
use Rattle.std.proofs.Common.{ℕ, Bool, true, false, List, [], ◌∷◌, Option, Some, None, Result, Ok, Err, length, nat_lt}
use Rattle.std.proofs.Common.{eqb, refl}
use Rattle.of_cells.specs.declared.cells.Cell.{Cell}
use Rattle.of_cells.specs.Division.{scaled_quotient, scaled_remainder}
use Rattle.of_cells.specs.Doubles.{extended}
use Rattle.of_cells.specs.Numbers.{flag}
use Rattle.of_stacks.specs.declared.throws.Throw.{Throw}
use Rattle.of_stacks.specs.Order.{refused_if}
use Rattle.of_stacks.specs.Stacks.{within}
use Rattle.of_stacks.specs.Throws.{ThrowsListed, division_by_zero, is_listed, listed_numbers, stack_overflow}
use Rattle.of_fcodes.specs.declared.console_words.ConsoleWord.{ConsoleWord}
use Rattle.of_fcodes.specs.declared.console_words.ConsoleWord.TheVariants as console
use Rattle.of_fcodes.specs.declared.words.ArithmeticWord.{ArithmeticWord}
use Rattle.of_fcodes.specs.declared.words.ArithmeticWord.TheVariants.{Invert, LeftShift, RightShift}
use Rattle.of_memory.specs.Access.{filled}
use Rattle.of_memory.specs.DataSpace.{DataSpace}
use Rattle.of_memory.specs.Growth.{allotted}
use Rattle.of_memory.specs.declared.fault.MemFault.{MemFault}
use Rattle.of_calc.specs.Arithmetic.{arithmetic_entry, with_double}
use Rattle.of_calc.specs.Listed.{ThrowListedNumbers as CalculationsThrowListed}
use Rattle.of_prims.specs.Data.{cell_at, number}
use Rattle.of_prims.specs.Listed.{ThrowListedNumbers as PrimsThrowListed}
use Rattle.of_nodes.specs.declared.fault.NodeFault.{NodeFault}
use Rattle.of_nodes.specs.declared.phandles.Phandle.{Phandle}
use Rattle.of_console.specs.Children.{ls_text}
use Rattle.of_console.specs.Texts.{properties_text, pwd_text}
use Rattle.of_board.specs.declared.board.Board.{Board}
use Rattle.of_words.specs.ConsoleWords.{allot_entry, console_entry, debug_cell, decreased, doubled, erase_entry}
use Rattle.of_words.specs.ConsoleWords.{increased, package_shown, text_shown}
use Rattle.of_words.specs.ConsoleWords.{on_board, scaled, scaled_parts, space_changed, spaces_entry}
use Rattle.of_words.specs.Listed.{ThrowListedNumbers}

stacks : (m : Board) (r : Result (List Cell) Throw) → ThrowsListed r → ThrowsListed (on_board m r)
stacks m (Ok s) h = tt
stacks m (Err t) h = h

full : (b : Bool) (s : List Cell) → ThrowsListed (refused_if b stack_overflow s)
unfolding is_listed listed_numbers
full true s = refl
full false s = tt

fits : (s : List Cell) → ThrowsListed (within s)
fits s = full (nat_lt 256 (length s)) s

divides : (b : Bool) (s : List Cell) → ThrowsListed (refused_if b division_by_zero s)
unfolding is_listed listed_numbers
divides true s = refl
divides false s = tt

pushes : (x : Cell) (m : Board) → ThrowsListed (on_board m (within (x ∷ m.stack)))
pushes x m = stacks m (within (x ∷ m.stack)) (fits (x ∷ m.stack))

increases : (n : Cell) (s : List Cell) → ThrowsListed (increased n s)
unfolding is_listed listed_numbers
increases n [] = refl
increases n (x ∷ s) = tt

decreases : (n : Cell) (s : List Cell) → ThrowsListed (decreased n s)
unfolding is_listed listed_numbers
decreases n [] = refl
decreases n (x ∷ s) = tt

extends : (s : List Cell) → ThrowsListed (doubled s)
unfolding is_listed listed_numbers
extends [] = refl
extends (x ∷ s) = fits (with_double (extended x) s)

scales : (s : List Cell) → ThrowsListed (scaled s)
unfolding is_listed listed_numbers
scales (d ∷ y ∷ x ∷ s) = divides (eqb d.0 0) (scaled_quotient x y d ∷ s)
scales _ = refl

scales_parts : (s : List Cell) → ThrowsListed (scaled_parts s)
unfolding is_listed listed_numbers
scales_parts (d ∷ y ∷ x ∷ s) = divides (eqb d.0 0) (scaled_quotient x y d ∷ scaled_remainder x y d ∷ s)
scales_parts _ = refl

prints : (s : List Cell) (m : Board) → ThrowsListed (spaces_entry s m)
unfolding is_listed listed_numbers
prints [] m = refl
prints (n ∷ s) m = tt

spaces : PrimsThrowListed → (s : List Cell) (r : Result DataSpace MemFault) (m : Board)
    → ThrowsListed (space_changed s r m)
spaces law s (Ok after) m = tt
spaces law s (Err fault) m = law.faults fault

allots : PrimsThrowListed → (s : List Cell) (m : Board) → ThrowsListed (allot_entry s m)
unfolding is_listed listed_numbers
allots law [] m = refl
allots law (n ∷ s) m = spaces law s (allotted m.memory n.0) m

erases : PrimsThrowListed → (s : List Cell) (m : Board) → ThrowsListed (erase_entry s m)
unfolding is_listed listed_numbers
erases law (n ∷ a ∷ s) m = spaces law s (filled m.memory a.0 n.0 0) m
erases law _ m = refl

calculates : CalculationsThrowListed → (w : ArithmeticWord) (m : Board)
    → ThrowsListed (on_board m (arithmetic_entry w m.stack))
calculates calc w m = stacks m (arithmetic_entry w m.stack) (calc.arithmetic w m.stack)

shows_text : (r : Result (List ℕ) NodeFault) (m : Board) → ThrowsListed (text_shown r m)
unfolding is_listed listed_numbers
shows_text (Ok text) m = tt
shows_text (Err fault) m = refl

shows : (text : Phandle → Result (List ℕ) NodeFault) (o : Option Phandle) (m : Board)
    → ThrowsListed (package_shown text o m)
unfolding is_listed listed_numbers
shows text None m = refl
shows text (Some node) m = shows_text (text node) m

words : CalculationsThrowListed → PrimsThrowListed → (w : ConsoleWord) (m : Board) → ThrowsListed (console_entry w m)
unfolding is_listed listed_numbers
words calc law console.OnePlus m = stacks m (increased (number 1) m.stack) (increases (number 1) m.stack)
words calc law console.OneMinus m = stacks m (decreased (number 1) m.stack) (decreases (number 1) m.stack)
words calc law console.TwoPlus m = stacks m (increased (number 2) m.stack) (increases (number 2) m.stack)
words calc law console.TwoMinus m = stacks m (decreased (number 2) m.stack) (decreases (number 2) m.stack)
words calc law console.True m = pushes (flag true) m
words calc law console.False m = pushes (flag false) m
words calc law console.ShiftLeft m = calculates calc LeftShift m
words calc law console.ShiftRight m = calculates calc RightShift m
words calc law console.Not m = calculates calc Invert m
words calc law console.Struct m = pushes (number 0) m
words calc law console.Space m = tt
words calc law console.Spaces m = prints m.stack m
words calc law console.Allot m = allots law m.stack m
words calc law console.Align m = tt
words calc law console.Erase m = erases law m.stack m
words calc law console.Hex m = tt
words calc law console.Decimal m = tt
words calc law console.SingleToDouble m = stacks m (doubled m.stack) (extends m.stack)
words calc law console.TimesSlash m = stacks m (scaled m.stack) (scales m.stack)
words calc law console.TimesSlashMod m = stacks m (scaled_parts m.stack) (scales_parts m.stack)
words calc law console.FcodeDebug m = pushes (cell_at m.memory debug_cell) m
words calc law console.DeviceEnd m = tt
words calc law console.PrintPath m = shows (pwd_text m.memory m.tree) m.active.package m
words calc law console.PrintChildren m = shows (ls_text m.memory m.tree) m.active.package m
words calc law console.PrintProperties m = shows (properties_text m.memory m.tree) m.active.package m
words calc law console.ShowDevices m = tt

pub throw_listed_numbers : CalculationsThrowListed → PrimsThrowListed → ThrowListedNumbers
throw_listed_numbers calc law = record { console = words calc law }
