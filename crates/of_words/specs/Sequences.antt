-- That each of the console's words leaves what the words and numbers leave that the standard gives for it, by the
-- tables of the words that have FCodes (Forth 2012, 6.1 and 6.2; IEEE 1275-1994, annex A). A number that a word has of
-- itself needs no room on the stack; one that a text has does.
use Rattle.std.specs.Prelude.{◌≡◌, ◌≢◌, ℕ, ◌^◌, ◌<◌, ◌≤◌, ℤ, pos, ◌+ℤ◌, ◌*ℤ◌, suc, true, false, List, [], ◌∷◌}
use Rattle.std.specs.Prelude.{length, ◌++◌, ◌⊎◌, Option, Some, None, Result, Ok, Err}
use Rattle.of_cells.specs.declared.cells.Cell.{Cell}
use Rattle.of_cells.specs.Division.{HasSignOf}
use Rattle.of_cells.specs.Numbers.{cell_of, signed}
use Rattle.of_stacks.specs.declared.throws.Throw.{Throw}
use Rattle.of_stacks.specs.Stacks.{within}
use Rattle.of_stacks.specs.Throws.{dictionary_overflow, division_by_zero, no_node, stack_underflow}
use Rattle.of_fcodes.specs.declared.console_words.ConsoleWord.{ConsoleWord}
use Rattle.of_fcodes.specs.declared.console_words.ConsoleWord.TheVariants as console
use Rattle.of_fcodes.specs.declared.words.AddressesWord.TheVariants.{Aligned}
use Rattle.of_fcodes.specs.declared.words.ArithmeticWord.TheVariants.{Invert, LeftShift, Minus, Plus, RightShift}
use Rattle.of_fcodes.specs.declared.words.ComparingWord.TheVariants.{IsNegative}
use Rattle.of_fcodes.specs.declared.words.MemoryWord.TheVariants.{Fetch, Fill, Store}
use Rattle.of_fcodes.specs.declared.words.NumbersWord.TheVariants.{MinusOne, Zero}
use Rattle.of_fcodes.specs.declared.words.PrimitiveWord.{PrimitiveWord}
use Rattle.of_fcodes.specs.declared.words.PrimitiveWord.TheVariants as primitive
use Rattle.of_fcodes.specs.declared.words.PrintingWord.TheVariants.{Emit}
use Rattle.of_fcodes.specs.declared.words.StacksWord.TheVariants.{Dup, Nip}
use Rattle.of_fcodes.specs.declared.words.Word.{Word}
use Rattle.of_fcodes.specs.declared.words.Word.TheVariants.{Console, Primitive, Printing}
use Rattle.of_memory.specs.DataSpace.{IsSound}
use Rattle.of_memory.specs.Regions.{data_limit, data_start}
use Rattle.of_nodes.specs.declared.phandles.Phandle.{Phandle}
use Rattle.of_nodes.specs.Paths.{path_found}
use Rattle.of_console.specs.Children.{ls_text}
use Rattle.of_console.specs.Texts.{devs_text, properties_text}
use Rattle.of_format.specs.Pictured.{base_in}
use Rattle.of_prims.specs.Addresses.{addresses_entry}
use Rattle.of_prims.specs.Data.{number}
use Rattle.of_prims.specs.Prims.{on_stack}
use Rattle.of_board.specs.Text.{printed}
use Rattle.of_board.specs.declared.board.Board.{Board}
use Rattle.of_words.specs.ConsoleWords.{console_entry}
use Rattle.of_words.specs.Words.{data_in, grows, with_data, word_entry}

-- ---- sequences

-- the board with a cell more on top, also where there is no room
abbrev pub on_top : Cell → Board → Board
on_top x m = record m { stack = x ∷ m.stack }

-- a number or a word of a text
pub data Item : Type 0 where
  Literal : Cell → Item
  Run : Word → Item

-- what it leaves
abbrev pub item_left : Item → Board → Result Board Throw
item_left (Literal x) m = with_data m (on_stack (data_in m) (within (x ∷ m.stack)))
item_left (Run w) m = word_entry w m

-- what items leave, one after another, behind what there was; or the first throw
abbrev pub behind : Result Board Throw → List Item → Result Board Throw
behind r [] = r
behind (Ok m) (i ∷ items) = behind (item_left i m) items
behind (Err t) (i ∷ items) = Err t

-- a word that has an FCode, by itself
abbrev pub primitive_left : PrimitiveWord → Board → Result Board Throw
primitive_left w m = word_entry (Primitive w) m

-- ---- what some words leave

-- the board with `here` at an address, and all else as it was
abbrev pub moved_to : ℕ → Board → Board
moved_to a m = record m { memory = record m.memory { here = a } }

-- an address that lies a signed number behind another, in the data region or at its end
pub record LiesBehind (here : ℕ) (n : Cell) (a : ℕ) : Type 0 where
  pub at : pos a ≡ pos here +ℤ signed n
  pub from : data_start ≤ a
  pub to : a ≤ data_limit

-- the quotient of two numbers and what it leaves, which is 0 or has the divisor's sign
pub record Divides (n d quotient rest : ℤ) : Type 0 where
  pub whole : quotient *ℤ d +ℤ rest ≡ n
  pub sign : HasSignOf rest d

-- the words that take a cell from the stack
abbrev pub TakesCells : ConsoleWord → Type 0
TakesCells console.OnePlus = Unit {0}
TakesCells console.OneMinus = Unit {0}
TakesCells console.TwoPlus = Unit {0}
TakesCells console.TwoMinus = Unit {0}
TakesCells console.ShiftLeft = Unit {0}
TakesCells console.ShiftRight = Unit {0}
TakesCells console.Not = Unit {0}
TakesCells console.Spaces = Unit {0}
TakesCells console.Allot = Unit {0}
TakesCells console.Erase = Unit {0}
TakesCells console.SingleToDouble = Unit {0}
TakesCells console.TimesSlash = Unit {0}
TakesCells console.TimesSlashMod = Unit {0}
TakesCells w = ⊥

-- those that show the active package
abbrev pub ShowsPackage : ConsoleWord → Type 0
ShowsPackage console.PrintPath = Unit {0}
ShowsPackage console.PrintChildren = Unit {0}
ShowsPackage console.PrintProperties = Unit {0}
ShowsPackage w = ⊥

-- those that print
abbrev pub Prints : ConsoleWord → Type 0
Prints console.Space = Unit {0}
Prints console.Spaces = Unit {0}
Prints console.ShowDevices = Unit {0}
Prints w = ShowsPackage w

-- ---- the law

pub record ConsoleWordsAreSequences : Type 0 where
  -- `1+` is `1 +`, and so on
  pub one_plus : (m : Board)
      → console_entry console.OnePlus m ≡ primitive_left (primitive.Arithmetic Plus) (on_top (number 1) m)
  pub one_minus : (m : Board)
      → console_entry console.OneMinus m ≡ primitive_left (primitive.Arithmetic Minus) (on_top (number 1) m)
  pub two_plus : (m : Board)
      → console_entry console.TwoPlus m ≡ primitive_left (primitive.Arithmetic Plus) (on_top (number 2) m)
  pub two_minus : (m : Board)
      → console_entry console.TwoMinus m ≡ primitive_left (primitive.Arithmetic Minus) (on_top (number 2) m)
  -- other names of `-1` and `0`, of `lshift`, `rshift` and `invert`
  pub truth : (m : Board) → console_entry console.True m ≡ primitive_left (primitive.Numbers MinusOne) m
  pub falsehood : (m : Board) → console_entry console.False m ≡ primitive_left (primitive.Numbers Zero) m
  pub structure : (m : Board) → console_entry console.Struct m ≡ primitive_left (primitive.Numbers Zero) m
  pub shift_left : (m : Board)
      → console_entry console.ShiftLeft m ≡ primitive_left (primitive.Arithmetic LeftShift) m
  pub shift_right : (m : Board)
      → console_entry console.ShiftRight m ≡ primitive_left (primitive.Arithmetic RightShift) m
  pub turned : (m : Board) → console_entry console.Not m ≡ primitive_left (primitive.Arithmetic Invert) m
  -- `space` is `bl emit`; `spaces` of no more than 0 prints nothing, and of one more it is `space` and then the others
  pub space : (m : Board) → console_entry console.Space m ≡ word_entry (Printing Emit) (on_top (number 32) m)
  pub no_spaces : (m : Board) (n : Cell) → (n.0 ≡ 0) ⊎ (2 ^ 31 ≤ n.0)
      → console_entry console.Spaces (on_top n m) ≡ Ok (record m { console = printed m.console [] })
  pub more_spaces : (m : Board) (n : ℕ) → suc n < 2 ^ 31
      → console_entry console.Spaces (on_top (number (suc n)) m)
      ≡ behind (console_entry console.Space (on_top (number n) m)) (Run (Console console.Spaces) ∷ [])
  -- `allot` moves `here` by a signed number, where it stays in the data region; `align` to where `here aligned` points
  pub allot : (m : Board) (n : Cell) (a : ℕ) → n.0 < 2 ^ 32 → LiesBehind m.memory.here n a
      → console_entry console.Allot (on_top n m) ≡ Ok (moved_to a m)
  pub no_allot : (m : Board) (n : Cell) → n.0 < 2 ^ 32 → ((a : ℕ) → LiesBehind m.memory.here n a → ⊥)
      → console_entry console.Allot (on_top n m) ≡ Err dictionary_overflow
  pub align : (m : Board) (a : Cell) → IsSound m.memory
      → addresses_entry Aligned m.memory.here (number m.memory.here ∷ []) ≡ Ok (a ∷ [])
      → console_entry console.Align m ≡ Ok (moved_to a.0 m)
  -- `erase` is `0 fill`
  pub erase : (m : Board) → console_entry console.Erase m ≡ primitive_left (primitive.Memory Fill) (on_top (number 0) m)
  -- `hex` is `16 base !`, and then the base is 16; so `decimal`
  pub hex : (m : Board) → console_entry console.Hex m
      ≡ primitive_left (primitive.Memory Store) (on_top (number 0x50_0000) (on_top (number 16) m))
  pub hex_base : (m after : Board) → IsSound m.memory → console_entry console.Hex m ≡ Ok after
      → base_in after.memory ≡ Ok 16
  pub decimal : (m : Board) → console_entry console.Decimal m
      ≡ primitive_left (primitive.Memory Store) (on_top (number 0x50_0000) (on_top (number 10) m))
  pub decimal_base : (m after : Board) → IsSound m.memory → console_entry console.Decimal m ≡ Ok after
      → base_in after.memory ≡ Ok 10
  -- `fcode-debug?` is the cell behind `base`, fetched
  pub fcode_debug : (m : Board) → console_entry console.FcodeDebug m
      ≡ behind (Ok m) (Literal (number 0x50_0004) ∷ Run (Primitive (primitive.Memory Fetch)) ∷ [])
  -- `s>d` is `dup 0<`
  pub single_to_double : (m : Board) → console_entry console.SingleToDouble m
      ≡ behind (Ok m)
      (Run (Primitive (primitive.Stacks Dup)) ∷ Run (Primitive (primitive.Comparing IsNegative)) ∷ [])
  -- `*/mod` divides the whole product, rounded down; `*/` is `*/mod nip`
  pub times_slash_mod : (m : Board) (x y d : Cell) → d.0 ≢ 0
      → (q : ℤ) × (r : ℤ) × Divides (signed x *ℤ signed y) (signed d) q r
      × (console_entry console.TimesSlashMod (on_top d (on_top y (on_top x m)))
      ≡ Ok (on_top (cell_of q) (on_top (cell_of r) m)))
  pub no_times_slash_mod : (m : Board) (x y d : Cell) → d.0 ≡ 0
      → console_entry console.TimesSlashMod (on_top d (on_top y (on_top x m))) ≡ Err division_by_zero
  pub few_times_slash_mod : (m : Board) → length m.stack < 3
      → console_entry console.TimesSlashMod m ≡ Err stack_underflow
  pub times_slash : (m : Board) → console_entry console.TimesSlash m
      ≡ behind (console_entry console.TimesSlashMod m) (Run (Primitive (primitive.Stacks Nip)) ∷ [])
  -- a word that takes cells finds none on an empty stack
  pub empty : (w : ConsoleWord) (m : Board) → TakesCells w → m.stack ≡ []
      → console_entry w m ≡ Err stack_underflow
  -- what the words on the device tree print is its text; without an active package there is none
  pub path : (m : Board) (node : Phandle) (path : List ℕ) → m.active.package ≡ Some node
      → path_found m.memory m.tree node ≡ Ok path
      → console_entry console.PrintPath m ≡ Ok (record m { console = printed m.console (path ++ 10 ∷ []) })
  pub children : (m : Board) (node : Phandle) (text : List ℕ) → m.active.package ≡ Some node
      → ls_text m.memory m.tree node ≡ Ok text
      → console_entry console.PrintChildren m ≡ Ok (record m { console = printed m.console text })
  pub properties : (m : Board) (node : Phandle) (text : List ℕ) → m.active.package ≡ Some node
      → properties_text m.memory m.tree node ≡ Ok text
      → console_entry console.PrintProperties m ≡ Ok (record m { console = printed m.console text })
  pub devices : (m : Board) → console_entry console.ShowDevices m
      ≡ Ok (record m { console = printed m.console (devs_text m.memory m.tree) })
  pub no_package : (w : ConsoleWord) (m : Board) → ShowsPackage w → m.active.package ≡ None
      → console_entry w m ≡ Err no_node
  -- `device-end` leaves no package active, and then there is none to show
  pub device_end : (m : Board) → console_entry console.DeviceEnd m
      ≡ Ok (record m { active = record m.active { «package» = None } })
  -- words that print alone may want memory
  pub growing : (w : ConsoleWord) → Prints w → grows (Console w) ≡ true
  pub others : (w : ConsoleWord) → (Prints w → ⊥) → grows (Console w) ≡ false
