-- The law `slots_hold`: what a store left is what of_ihandles says of it.
use Rattle.std.proofs.Common.{◌≡◌, ℕ, false, Option, Some, None, Result, Ok, Err, refl, ap, ◌∙◌}
use Rattle.std.specs.List.{slice_get}
use Rattle.of_cells.specs.declared.cells.Cell.{Cell}
use Rattle.of_memory.specs.Access.{unless, write_fault}
use Rattle.of_memory.specs.DataSpace.{DataSpace}
use Rattle.of_memory.specs.declared.fault.MemFault.{MemFault}
use Rattle.of_memory.specs.declared.width.Width.TheVariants.{Four}
use Rattle.of_nodes.specs.declared.properties.Span.{Span}
use Rattle.of_prims.specs.Data.{thrown}
use Rattle.of_ihandles.specs.declared.instance_fault.InstanceFault.{InstanceFault}
use Rattle.of_ihandles.specs.declared.instance_fault.InstanceFault.TheVariants.{NoInstance}
use Rattle.of_ihandles.specs.declared.instances.Instance.{Instance}
use Rattle.of_ihandles.specs.declared.slots.Slot.{Slot}
use Rattle.of_ihandles.specs.Instances.{block_in, block_or, found, of_instance, slot_block, slot_stored, stored_in}
use Rattle.of_ihandles.specs.OwnSlots.{SlotsAreOwn}
use Rattle.of_ihandles.specs.Slots.{is_same}
use Rattle.of_ihandles.specs.Table.{InstanceTable}
use Rattle.of_board.specs.declared.board.Board.{Board}
use Rattle.of_own.specs.SlotLaw.{IsAway, SlotsHold}
use Rattle.of_own.specs.Slots.{in_instance}
use Rattle.of_own.specs.Stores.{slot_written, span_written}
use Rattle.std.specs.Prelude.{if◌then◌else◌}

unless_left : (f : Option MemFault) (w after : DataSpace) → thrown (unless f w) ≡ Ok after → w ≡ after
unless_left None w after e = cc
unless_left (Some fault) w after e = absurd cc

-- a store that isn't refused is one of of_ihandles
stores_as : (m after : DataSpace) (x : Cell) (r : Result Span InstanceFault)
    → span_written m x (in_instance r) ≡ Ok after → stored_in m x r ≡ Ok (tt, after)
stores_as m after x (Ok s) e = ap (λ y. Ok (tt, y)) (unless_left (write_fault m s.address.0 4 Four) _ after e)
stores_as m after x (Err fault) e = absurd cc

stored_so : (b : Board) (n : ℕ) (x : Cell) (m : DataSpace) → slot_written b n x ≡ Ok m
    → slot_stored b.memory b.instances b.active.my_self n x ≡ Ok (tt, m)
stored_so b n x m e = stores_as b.memory m x (slot_block b.instances b.active.my_self n) e

-- where a slot has no block
no_block : (b : Board) (n : ℕ) → slot_block b.instances b.active.my_self n ≡ Err NoInstance → IsAway b n
no_block b n e = record {
  cell = rw e refl;
  address = rw e refl;
  store = λ x. rw e refl;
}

other_package : (t : InstanceTable) (ih : Cell) (n : ℕ) (s : Slot) (i : Instance) → found t ih ≡ Some i
    → slice_get t.slots n ≡ Some s → is_same s.«package» i.«package» ≡ false → slot_block t ih n ≡ Err NoInstance
other_package t ih n s i at is other =
    ap (λ o. of_instance o (block_in (slice_get t.slots n))) at ∙ ap (λ o. block_in o i) is
    ∙ ap (λ b. if b then block_or (slice_get i.slots s.place) else Err NoInstance) other

no_instance_there : (t : InstanceTable) (ih : Cell) (n : ℕ) → found t ih ≡ None → slot_block t ih n ≡ Err NoInstance
no_instance_there t ih n at = ap (λ o. of_instance o (block_in (slice_get t.slots n))) at

pub slots_hold : SlotsAreOwn → SlotsHold
slots_hold law = record {
  stored = λ b n x m sound own small e.
      ap in_instance (law.stored b.instances b.memory m b.active.my_self n x sound own small (stored_so b n x m e));
  others = λ b me n k x m sound own has other e.
      ap in_instance
      (law.others b.instances b.memory m b.active.my_self me n k x sound own has other (stored_so b n x m e));
  home = λ b n s i has at is same.
      let there = law.there b.instances b.active.my_self i n s has at is same in
      (there.block, ap in_instance there.found);
  away = λ b n s i at is other. no_block b n (other_package b.instances b.active.my_self n s i at is other);
  none = λ b n at. no_block b n (no_instance_there b.instances b.active.my_self n at);
}
