-- What callers see of a machine (IEEE 1275-1994, 5.3.2 and 5.3.3.1; Forth 2012, 3.4.2 and 16.3.3).
use Rattle.std.specs.Prelude.{ℕ, List, Option, Some, None, Result, Ok, Err}
use Rattle.std.specs.Option.{option_map}
use Rattle.of_cells.specs.declared.cells.Cell.{Cell}
use Rattle.of_fcodes.specs.Tokens.{entry_in}
use Rattle.of_memory.specs.declared.fault.MemFault.{MemFault}
use Rattle.of_memory.specs.declared.width.Width.TheVariants.{One}
use Rattle.of_memory.specs.DataSpace.{DataSpace}
use Rattle.of_memory.specs.Access.{read}
use Rattle.of_compile.specs.Words.{WordsState}
use Rattle.of_text.specs.Names.{xt_named}
use Rattle.of_console.specs.Names.{words_text}
use Rattle.of_state.specs.State.{State}
use Rattle.of_interpret.specs.TextActs.{names_in}

-- the number that was read, if it was
abbrev pub number_or_none : Result ℕ MemFault → Option ℕ
number_or_none (Ok n) = Some n
number_or_none (Err fault) = None

-- the byte of an address, if it can be read
abbrev pub byte_of : DataSpace → ℕ → Option ℕ
byte_of m a = number_or_none (read One m a)

-- the execution token that a name finds
abbrev pub word_named : {S : Type 0} → State S → List ℕ → Option Cell
word_named s name = xt_named (names_in s) name

-- what `words` prints
abbrev pub words_listed : {S : Type 0} → State S → List ℕ
words_listed s = words_text s.board.tree s.board.active.«package» s.words.dictionary

-- the execution token that an FCode names
abbrev pub xt_numbered : WordsState → ℕ → Option Cell
xt_numbered w code = option_map (λ e. record { 0 = e.xt }) (entry_in w.table code)
