-- Each live instance has each slot of its package, of its own (IEEE 1275-1994, annex A, `instance`).
use Rattle.std.specs.Prelude.{ℕ, ◌≡◌, ◌^◌, ◌<◌, true, List, length, map, take, get_or, Some, None, Ok}
use Rattle.std.specs.List.{slice_get}
use Rattle.of_cells.specs.declared.cells.Cell.{Cell}
use Rattle.of_memory.specs.Access.{read_bytes}
use Rattle.of_memory.specs.DataSpace.{DataSpace, IsSound}
use Rattle.of_nodes.specs.declared.phandles.Phandle.{Phandle}
use Rattle.of_nodes.specs.declared.properties.Span.{Span}
use Rattle.of_ihandles.specs.declared.instances.Instance.{Instance}
use Rattle.of_ihandles.specs.declared.slots.Slot.{Slot}
use Rattle.of_ihandles.specs.declared.slots.Template.{Template}
use Rattle.of_ihandles.specs.Instances.{released}
use Rattle.of_ihandles.specs.Instances.{argument_span, arguments_set, closed, found, no_instances, opened}
use Rattle.of_ihandles.specs.Instances.{slot_block}
use Rattle.of_ihandles.specs.Instances.{slot_read, slot_stored, slotted}
use Rattle.of_ihandles.specs.OwnedBlocks.{OwnBlocks}
use Rattle.of_ihandles.specs.Slots.{is_same, size_of, slots_of}
use Rattle.of_ihandles.specs.Table.{InstanceTable}

-- the slots of each package are numbered from 0 on, in the order of making
abbrev pub AreNumbered : List Slot → Type 0
AreNumbered slots =
    (n : ℕ) (s : Slot) → slice_get slots n ≡ Some s → s.place ≡ length (slots_of s.«package» (take n slots))

-- each live instance has a block for each slot of its package, as long as the slot
abbrev pub HaveBlocks : InstanceTable → Type 0
HaveBlocks t =
    (k : ℕ) (i : Instance) → get_or t.made k None ≡ Some i
    → map (λ (b : Span). b.length) i.slots ≡ map (λ (s : Slot). size_of s.template) (slots_of i.«package» t.slots)

pub record HasSlots (t : InstanceTable) : Type 0 where
  pub numbered : AreNumbered t.slots
  pub blocks : HaveBlocks t

-- slot n has a block in the instance, as long as the slot
pub record HasSlot (t : InstanceTable) (ih : Cell) (n : ℕ) (s : Slot) : Type 0 where
  pub block : Span
  pub found : slot_block t ih n ≡ Ok block
  pub size : block.length ≡ size_of s.template

pub record SlotsAreOwn : Type 0 where
  -- so it is at first, and after each call
  pub at_first : HasSlots no_instances
  pub by_open : (t after : InstanceTable) (m left : DataSpace) (ph : Phandle) (parent ih : Cell) (arguments : List ℕ)
      → HasSlots t → opened t m ph parent arguments ≡ Ok (ih, (after, left)) → HasSlots after
  pub by_close : (t after : InstanceTable) (m left : DataSpace) (ih : Cell)
      → HasSlots t → closed t m ih ≡ Ok (tt, (after, left)) → HasSlots after
  pub by_release : (t after : InstanceTable) (m left : DataSpace) (ih : Cell)
      → HasSlots t → released t m ih ≡ (after, left) → HasSlots after
  pub by_slot : (t after : InstanceTable) (m left : DataSpace) (ph : Phandle) (template : Template) (n : ℕ)
      → HasSlots t → slotted t m ph template ≡ Ok (n, (after, left)) → HasSlots after
  pub by_arguments : (t after : InstanceTable) (m left : DataSpace) (ih : Cell) (arguments : List ℕ) (unit : List Cell)
      → HasSlots t → arguments_set t m ih arguments unit ≡ Ok (tt, (after, left)) → HasSlots after
  -- and then each slot of its package is found in a live instance
  pub there : (t : InstanceTable) (ih : Cell) (i : Instance) (n : ℕ) (s : Slot) → HasSlots t → found t ih ≡ Some i
      → slice_get t.slots n ≡ Some s → is_same s.«package» i.«package» ≡ true → HasSlot t ih n s
  -- what was stored in a slot of an instance is read there
  pub stored : (t : InstanceTable) (m after : DataSpace) (ih : Cell) (n : ℕ) (x : Cell) → IsSound m → OwnBlocks t m
      → x.0 < 2 ^ 32 → slot_stored m t ih n x ≡ Ok (tt, after) → slot_read after t ih n ≡ Ok x
  -- and any other instance, and any other slot, holds what it did
  pub others : (t : InstanceTable) (m after : DataSpace) (ih other : Cell) (n k : ℕ) (x : Cell) → IsSound m
      → OwnBlocks t m → HasSlots t → (ih.0 ≡ other.0 → n ≡ k → ⊥) → slot_stored m t ih n x ≡ Ok (tt, after)
      → slot_read after t other k ≡ slot_read m t other k
  -- so do the arguments of all instances
  pub arguments : (t : InstanceTable) (m after : DataSpace) (ih other : Cell) (n : ℕ) (x : Cell) (a : Span) → IsSound m
      → OwnBlocks t m → slot_stored m t ih n x ≡ Ok (tt, after) → argument_span t other ≡ Ok a
      → read_bytes after a.address.0 a.length.0 ≡ read_bytes m a.address.0 a.length.0
