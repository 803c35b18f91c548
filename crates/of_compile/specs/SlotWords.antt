-- Words of which each instance of a package has one of its own: what `instance` leaves for the next word that can be
-- such a one, and what a defining word makes then (IEEE 1275-1994, annex A, `instance`).
use Rattle.std.specs.Prelude.{ℕ, true, false, nat_le, List, [], ◌∷◌, ◌++◌, length, Option, Some, None, Result, Ok, Err}
use Rattle.std.specs.Prelude.{is_err, is_none, is_some, if◌then◌else◌}
use Rattle.of_cells.specs.declared.cells.Cell.{Cell}
use Rattle.of_stacks.specs.declared.throws.Throw.{Throw}
use Rattle.of_stacks.specs.Throws.{compiler_nesting, dictionary_overflow, no_node, stack_underflow}
use Rattle.of_stacks.specs.Order.{counting, fault_if, unless}
use Rattle.of_memory.specs.DataSpace.{DataSpace}
use Rattle.of_memory.specs.Growth.{zeros_allotted}
use Rattle.of_memory.specs.declared.fault.MemFault.{MemFault}
use Rattle.of_dict.specs.declared.word.Kind.TheVariants as kind
use Rattle.of_dict.specs.declared.word.Slot.{Slot}
use Rattle.of_dict.specs.declared.word.Slot.TheVariants as slot
use Rattle.of_dict.specs.Calls.{made}
use Rattle.of_dict.specs.Words.{capacity}
use Rattle.of_nodes.specs.declared.phandles.Phandle.{Phandle}
use Rattle.of_ihandles.specs.declared.instance_fault.InstanceFault.{InstanceFault}
use Rattle.of_ihandles.specs.declared.instance_fault.InstanceFault.TheVariants.{Full}
use Rattle.of_ihandles.specs.declared.slots.Template.{Template}
use Rattle.of_ihandles.specs.declared.slots.Template.TheVariants.{Value, Zeros}
use Rattle.of_ihandles.specs.Instances.{slotted}
use Rattle.of_ihandles.specs.Table.{InstanceTable}
use Rattle.of_compile.specs.declared.defining.DefiningWord.{DefiningWord}
use Rattle.of_compile.specs.declared.defining.DefiningWord.TheVariants as word
use Rattle.of_compile.specs.declared.words.Pending.{Pending}
use Rattle.of_compile.specs.Defining.{cell, made_word}
use Rattle.of_compile.specs.Words.{WordsState, name_fault}

-- ---- `instance`

-- it waits for the next word that can be one of each instance
abbrev pub instance_said : WordsState → WordsState
instance_said w = record w { waiting = true }

-- what a defining word makes one of each instance of, if `instance` waits; it leaves the other words alone
abbrev pub slot_of : DefiningWord → Option Slot
slot_of word.Value = Some slot.Value
slot_of word.Variable = Some slot.Variable
slot_of word.Buffer = Some slot.Buffer
slot_of word.Defer = Some slot.Defer
slot_of word.Colon = None
slot_of word.Constant = None
slot_of word.Create = None
slot_of word.Field = None

abbrev pub awaited : DefiningWord → WordsState → Option Slot
awaited d w = if w.waiting then slot_of d else None

-- ---- the word

-- what such words are made of; the stack has its top first
pub record SlotMaking : Type 0 where
  pub words : WordsState
  pub stack : List Cell
  pub memory : DataSpace
  pub instances : InstanceTable

abbrev pub slot_making : WordsState → List Cell → DataSpace → InstanceTable → SlotMaking
slot_making w s m t = record { words = w; stack = s; memory = m; instances = t }

-- how a slot begins in each instance, and the stack that is left
pub record SlotMade : Type 0 where
  pub template : Template
  pub stack : List Cell

abbrev pub begins : Template → List Cell → SlotMade
begins t s = record { template = t; stack = s }

-- the table, a word a line, where the stack has the cell that it takes
abbrev pub slot_made : Slot → List Cell → Option SlotMade
slot_made slot.Value (x ∷ s) = Some (begins (Value x) s)
slot_made slot.Variable s = Some (begins (Value (cell 0)) s)
slot_made slot.Buffer (n ∷ s) = Some (begins (Zeros n) s)
slot_made slot.Defer s = Some (begins (Value (cell 0)) s)
slot_made slot.Value [] = None
slot_made slot.Buffer [] = None

-- the slot that each instance of the package gets, with its number
abbrev pub slot_given :
    Option Phandle → Option SlotMade → SlotMaking → Result (ℕ × (InstanceTable × DataSpace)) InstanceFault
slot_given (Some ph) (Some x) g = slotted g.instances g.memory ph x.template
slot_given None x g = Err Full
slot_given (Some ph) None g = Err Full

-- The faults of such a word, in their order. There are no more slots than there can be words.
abbrev pub slot_faults :
    Option Phandle → Option SlotMade → Result (ℕ × (InstanceTable × DataSpace)) InstanceFault → SlotMaking
    → List (Option Throw)
slot_faults home x r g =
    fault_if (is_some g.words.defining) compiler_nesting
    ∷ fault_if (is_none g.words.pending) compiler_nesting
    ∷ fault_if (is_none x) stack_underflow
    ∷ fault_if (is_none home) no_node
    ∷ fault_if (nat_le capacity (length g.words.dictionary)) dictionary_overflow
    ∷ fault_if (nat_le capacity (length g.instances.slots)) dictionary_overflow
    ∷ fault_if (is_err r) dictionary_overflow
    ∷ []

-- the data space with `here` at the next multiple of 4
abbrev pub rounded_to : DataSpace → Result (ℕ × DataSpace) MemFault → DataSpace
rounded_to m (Ok x) = x.1
rounded_to m (Err fault) = m

abbrev pub rounded : DataSpace → DataSpace
rounded m = rounded_to m (zeros_allotted m 0)

-- the words with one more, for which `instance` waited
abbrev pub with_slot_word : Slot → ℕ → Pending → WordsState → WordsState
with_slot_word s n p w = record (made_word false (kind.PerInstance s n) p w) { waiting = false }

-- what the word leaves: it works on the slot; without a number, a cell that it takes, or a slot none is made
abbrev pub slot_word_made :
    Slot → Option Pending → Option SlotMade → Result (ℕ × (InstanceTable × DataSpace)) InstanceFault → SlotMaking
    → SlotMaking
slot_word_made s (Some p) (Some x) (Ok r) g =
    slot_making (with_slot_word s r.0 p g.words) x.stack (rounded r.1.1) r.1.0
slot_word_made s None x r g = g
slot_word_made s (Some p) None r g = g
slot_word_made s (Some p) (Some x) (Err fault) g = g

-- what it leaves, or throws
abbrev pub slot_defined :
    Slot → Option Phandle → Option SlotMade → Result (ℕ × (InstanceTable × DataSpace)) InstanceFault → SlotMaking
    → Result SlotMaking Throw
slot_defined s home x r g =
    unless (counting (slot_faults home x r g)) (slot_word_made s g.words.pending x r g)

abbrev pub slot_entry : Slot → Option Phandle → SlotMaking → Result SlotMaking Throw
slot_entry s home g =
    let x = slot_made s g.stack in slot_defined s home x (slot_given home x g) g

-- ---- the same of a word that a text names, which neither needs nor takes a pending number

-- the faults of such a word, in their order
abbrev pub slot_naming_faults :
    List ℕ → Option Phandle → Option SlotMade → Result (ℕ × (InstanceTable × DataSpace)) InstanceFault → SlotMaking
    → List (Option Throw)
slot_naming_faults name home x r g =
    fault_if (is_some g.words.defining) compiler_nesting
    ∷ fault_if (is_none x) stack_underflow
    ∷ fault_if (is_none home) no_node
    ∷ name_fault (Some name)
    ∷ fault_if (nat_le capacity (length g.words.dictionary)) dictionary_overflow
    ∷ fault_if (nat_le capacity (length g.instances.slots)) dictionary_overflow
    ∷ fault_if (is_err r) dictionary_overflow
    ∷ []

-- the words with one more, of this name, for which `instance` waited
abbrev pub with_named_slot : Slot → ℕ → List ℕ → WordsState → WordsState
with_named_slot s n name w = record w {
  dictionary = w.dictionary ++ Some (made (Some name) (kind.PerInstance s n)) ∷ [];
  waiting = false;
}

-- what the word leaves; without a cell that it takes, or a slot, none is made
abbrev pub slot_word_named :
    Slot → List ℕ → Option SlotMade → Result (ℕ × (InstanceTable × DataSpace)) InstanceFault → SlotMaking → SlotMaking
slot_word_named s name (Some x) (Ok r) g =
    slot_making (with_named_slot s r.0 name g.words) x.stack (rounded r.1.1) r.1.0
slot_word_named s name None r g = g
slot_word_named s name (Some x) (Err fault) g = g

-- what it leaves, or throws
abbrev pub slot_named :
    Slot → List ℕ → Option Phandle → Option SlotMade → Result (ℕ × (InstanceTable × DataSpace)) InstanceFault
    → SlotMaking → Result SlotMaking Throw
slot_named s name home x r g = unless (counting (slot_naming_faults name home x r g)) (slot_word_named s name x r g)

abbrev pub slot_naming_entry : Slot → List ℕ → Option Phandle → SlotMaking → Result SlotMaking Throw
slot_naming_entry s name home g =
    let x = slot_made s g.stack in slot_named s name home x (slot_given home x g) g
