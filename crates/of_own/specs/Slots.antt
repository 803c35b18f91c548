-- Slots of the current instance: what a word finds there that is one of each instance of its package
-- (IEEE 1275-1994, annex A, `instance`).
use Rattle.std.specs.Prelude.{ℕ, Result, Ok, Err}
use Rattle.of_cells.specs.declared.cells.Cell.{Cell}
use Rattle.of_stacks.specs.declared.throws.Throw.{Throw}
use Rattle.of_stacks.specs.Throws.{no_instance}
use Rattle.of_nodes.specs.declared.properties.Span.{Span}
use Rattle.of_ihandles.specs.declared.instance_fault.InstanceFault.{InstanceFault}
use Rattle.of_ihandles.specs.Instances.{slot_block, slot_read}
use Rattle.of_board.specs.declared.board.Board.{Board}

-- what is found in the current instance; where it isn't one of the slot's package, there is no such instance
abbrev pub in_instance : {A : Type 0} → Result A InstanceFault → Result A Throw
in_instance (Ok x) = Ok x
in_instance (Err fault) = Err no_instance

-- where the bytes of a slot stand
abbrev pub slot_span : Board → ℕ → Result Span Throw
slot_span b n = in_instance (slot_block b.instances b.active.my_self n)

abbrev pub address_of : Result Span Throw → Result Cell Throw
address_of (Ok s) = Ok s.address
address_of (Err t) = Err t

-- a variable and a buffer give the address
abbrev pub slot_address : Board → ℕ → Result Cell Throw
slot_address b n = address_of (slot_span b n)

-- a value gives the cell that the slot holds, and a defer executes it
abbrev pub slot_cell : Board → ℕ → Result Cell Throw
slot_cell b n = in_instance (slot_read b.memory b.instances b.active.my_self n)
