-- What the code of a defining word holds between its steps.
use Rattle.std.specs.Prelude.{ℕ, List, ◌∷◌, drop, Option, Some, None}
use Rattle.of_cells.specs.declared.cells.Cell.{Cell}
use Rattle.of_stacks.specs.declared.stop.Stop.{Stop}
use Rattle.of_stacks.specs.declared.stop.Stop.TheVariants.{Thrown, NoMemory}
use Rattle.of_stacks.specs.Throws.{dictionary_overflow}
use Rattle.of_dict.specs.declared.word.Kind.{Kind}
use Rattle.of_dict.specs.declared.word.Slot.{Slot}
use Rattle.of_ihandles.specs.declared.instance_fault.InstanceFault.{InstanceFault}
use Rattle.of_ihandles.specs.declared.instance_fault.InstanceFault.TheVariants as fault
use Rattle.of_compile.specs.declared.words.Pending.{Pending}
use Rattle.of_compile.specs.declared.defining.DefiningWord.{DefiningWord}
use Rattle.of_compile.specs.declared.defining.Product.{Product}
use Rattle.of_compile.specs.Words.{WordsState}
use Rattle.of_compile.specs.Defining.{Made, one, with_word}
use Rattle.of_compile.specs.SlotWords.{with_slot_word}

-- a stack with a cell more, if there is one
abbrev pub left_on : Option Cell → List Cell → List Cell
left_on None s = s
left_on (Some x) s = x ∷ s

-- what a product is, made over a stack
abbrev pub made_of : Product → List Cell → Made
made_of p s = one p.kind p.bytes.0 (left_on p.left (drop p.taken s))

-- the words with one more, where one is pending
abbrev pub with_pending : DefiningWord → Kind → Option Pending → WordsState → WordsState
with_pending d k None w = w
with_pending d k (Some p) w = with_word d k p w

-- the same of one that works on a slot
abbrev pub with_pending_slot : Slot → ℕ → Option Pending → WordsState → WordsState
with_pending_slot s n None w = w
with_pending_slot s n (Some p) w = with_slot_word s n p w

-- why no slot was made
abbrev pub slot_stop : InstanceFault → Stop
slot_stop fault.NoMemory = NoMemory
slot_stop fault.Full = Thrown dictionary_overflow
slot_stop fault.NoInstance = Thrown dictionary_overflow
