-- What `to` stores into a word (Forth 2012, 6.2.2295; IEEE 1275-1994, annex A, `b(to)`).
use Rattle.std.specs.Prelude.{ℕ, List, [], ◌∷◌, Option, Some, None, Result, Ok, Err}
use Rattle.of_cells.specs.declared.cells.Cell.{Cell}
use Rattle.of_stacks.specs.declared.throws.Throw.{Throw}
use Rattle.of_stacks.specs.Throws.{stack_underflow}
use Rattle.of_memory.specs.Access.{write}
use Rattle.of_memory.specs.DataSpace.{DataSpace}
use Rattle.of_memory.specs.declared.width.Width.TheVariants.{Four}
use Rattle.of_nodes.specs.declared.properties.Span.{Span}
use Rattle.of_prims.specs.Data.{thrown}
use Rattle.of_dict.specs.declared.word.Kind.{Kind}
use Rattle.of_dict.specs.declared.word.Kind.TheVariants as kind
use Rattle.of_dict.specs.declared.word.Slot.TheVariants as slot
use Rattle.of_compile.specs.DictionaryWords.{kind_at, store_entry as plain_store}
use Rattle.of_compile.specs.Words.{WordsState}
use Rattle.of_board.specs.declared.board.Board.{Board}
use Rattle.of_own.specs.Slots.{slot_span}

-- what a store changes, beside the data stack
pub data Stored : Type 0 where
  -- the words
  InWord : WordsState → List Cell → Stored
  -- the data space
  InSlot : DataSpace → List Cell → Stored

-- the slot of a word that is one of each instance, where that can be stored into
abbrev pub stored_slot : Option Kind → Option ℕ
stored_slot None = None
stored_slot (Some (kind.PerInstance slot.Value n)) = Some n
stored_slot (Some (kind.PerInstance slot.Defer n)) = Some n
stored_slot (Some (kind.PerInstance slot.Variable n)) = None
stored_slot (Some (kind.PerInstance slot.Buffer n)) = None
stored_slot (Some (kind.Defer xt)) = None
stored_slot (Some (kind.Colon start)) = None
stored_slot (Some (kind.Constant x)) = None
stored_slot (Some (kind.Value x)) = None
stored_slot (Some (kind.Variable a)) = None
stored_slot (Some (kind.Create a)) = None
stored_slot (Some (kind.Buffer a)) = None
stored_slot (Some (kind.Field offset)) = None

-- what storing a cell at the beginning of a slot leaves, as `!` stores it there
abbrev pub span_written : DataSpace → Cell → Result Span Throw → Result DataSpace Throw
span_written m x (Ok s) = thrown (write Four m s.address.0 x.0)
span_written m x (Err t) = Err t

-- slot n of the current instance
abbrev pub slot_written : Board → ℕ → Cell → Result DataSpace Throw
slot_written b n x = span_written b.memory x (slot_span b n)

abbrev pub in_slot : List Cell → Result DataSpace Throw → Result Stored Throw
in_slot s (Ok m) = Ok (InSlot m s)
in_slot s (Err t) = Err t

abbrev pub into_slot : ℕ → Board → List Cell → Result Stored Throw
into_slot n b [] = Err stack_underflow
into_slot n b (x ∷ s) = in_slot s (slot_written b n x)

abbrev pub in_word : Result (WordsState × List Cell) Throw → Result Stored Throw
in_word (Ok x) = Ok (InWord x.0 x.1)
in_word (Err t) = Err t

abbrev pub stored_by : Option ℕ → ℕ → WordsState → Board → Result Stored Throw
stored_by None xt w b = in_word (plain_store xt w b.stack)
stored_by (Some n) xt w b = into_slot n b b.stack

-- what `to` comes to for the word of an execution token
abbrev pub store_entry : ℕ → WordsState → Board → Result Stored Throw
store_entry xt w b = stored_by (stored_slot (kind_at w xt)) xt w b

-- the words, and the board
abbrev pub both : WordsState → Board → WordsState × Board
both w b = (w, b)

-- what it leaves of them
abbrev pub stored_left : Stored → WordsState × Board → WordsState × Board
stored_left (InWord w s) x = (w, record x.1 { stack = s })
stored_left (InSlot m s) x = (x.0, record x.1 { stack = s; memory = m })

abbrev pub store_left : Result Stored Throw → WordsState × Board → Result (WordsState × Board) Throw
store_left (Ok s) x = Ok (stored_left s x)
store_left (Err t) x = Err t
