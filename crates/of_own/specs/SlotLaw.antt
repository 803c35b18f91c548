-- A slot holds, in each instance of its package, what was stored there, and is nowhere else (IEEE 1275-1994, annex A,
-- `instance`).
use Rattle.std.specs.Prelude.{ℕ, ◌≡◌, ◌^◌, ◌<◌, true, false, Some, None, Ok, Err}
use Rattle.std.specs.List.{slice_get}
use Rattle.of_cells.specs.declared.cells.Cell.{Cell}
use Rattle.of_stacks.specs.Throws.{no_instance}
use Rattle.of_memory.specs.DataSpace.{DataSpace, IsSound}
use Rattle.of_nodes.specs.declared.properties.Span.{Span}
use Rattle.of_ihandles.specs.declared.instances.Instance.{Instance}
use Rattle.of_ihandles.specs.declared.slots.Slot.{Slot}
use Rattle.of_ihandles.specs.Instances.{found}
use Rattle.of_ihandles.specs.OwnedBlocks.{OwnBlocks}
use Rattle.of_ihandles.specs.OwnSlots.{HasSlots}
use Rattle.of_ihandles.specs.Slots.{is_same}
use Rattle.of_board.specs.Active.{with_self}
use Rattle.of_board.specs.declared.board.Board.{Board}
use Rattle.of_own.specs.Slots.{slot_address, slot_cell, slot_span}
use Rattle.of_own.specs.Stores.{slot_written}

-- the board with another data space
abbrev pub with_memory : Board → DataSpace → Board
with_memory b m = record b { memory = m }

-- the slot isn't there: it has no cell, no address, and nothing can be stored into it
pub record IsAway (b : Board) (n : ℕ) : Type 0 where
  pub cell : slot_cell b n ≡ Err no_instance
  pub address : slot_address b n ≡ Err no_instance
  pub store : (x : Cell) → slot_written b n x ≡ Err no_instance

pub record SlotsHold : Type 0 where
  -- what was stored in a slot of the current instance is what the slot holds there
  pub stored : (b : Board) (n : ℕ) (x : Cell) (m : DataSpace) → IsSound b.memory → OwnBlocks b.instances b.memory
      → x.0 < 2 ^ 32 → slot_written b n x ≡ Ok m → slot_cell (with_memory b m) n ≡ Ok x
  -- any other slot, and the slot in any other instance, holds what it did
  pub others : (b : Board) (me : Cell) (n k : ℕ) (x : Cell) (m : DataSpace) → IsSound b.memory
      → OwnBlocks b.instances b.memory → HasSlots b.instances → (b.active.my_self.0 ≡ me.0 → n ≡ k → ⊥)
      → slot_written b n x ≡ Ok m → slot_cell (with_self (with_memory b m) me) k ≡ slot_cell (with_self b me) k
  -- the slot is there where the current instance is one of its package
  pub home : (b : Board) (n : ℕ) (s : Slot) (i : Instance) → HasSlots b.instances
      → found b.instances b.active.my_self ≡ Some i → slice_get b.instances.slots n ≡ Some s
      → is_same s.«package» i.«package» ≡ true → (a : Span) × (slot_span b n ≡ Ok a)
  -- and not in an instance of another package, nor where none is current or that was released
  pub away : (b : Board) (n : ℕ) (s : Slot) (i : Instance) → found b.instances b.active.my_self ≡ Some i
      → slice_get b.instances.slots n ≡ Some s → is_same s.«package» i.«package» ≡ false → IsAway b n
  pub none : (b : Board) (n : ℕ) → found b.instances b.active.my_self ≡ None → IsAway b n
