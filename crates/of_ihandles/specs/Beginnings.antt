-- An instance begins with a copy of its arguments, and with each slot of its package as its template
-- (IEEE 1275-1994, annex A, `open-package`, `instance`).
use Rattle.std.specs.Prelude.{ℕ, ◌≡◌, ◌^◌, ◌<◌, true, List, Some, Ok}
use Rattle.std.specs.List.{slice_get}
use Rattle.of_cells.specs.declared.cells.Cell.{Cell}
use Rattle.of_memory.specs.Access.{read_bytes}
use Rattle.of_memory.specs.DataSpace.{DataSpace, IsSound}
use Rattle.of_nodes.specs.declared.phandles.Phandle.{Phandle}
use Rattle.of_nodes.specs.declared.properties.Span.{Span}
use Rattle.of_ihandles.specs.declared.slots.Slot.{Slot}
use Rattle.of_ihandles.specs.declared.slots.Template.TheVariants.{Value}
use Rattle.of_ihandles.specs.Instances.{argument_span, opened, slot_read}
use Rattle.of_ihandles.specs.OwnSlots.{HasSlots}
use Rattle.of_ihandles.specs.OwnedBlocks.{OwnBlocks}
use Rattle.of_ihandles.specs.Slots.{is_same}
use Rattle.of_ihandles.specs.Table.{InstanceTable}

-- what a new instance of a package holds
pub record Begins (t : InstanceTable) (m : DataSpace) (ph : Phandle) (arguments : List ℕ) (ih : Cell) : Type 0 where
  pub text : (a : Span) → argument_span t ih ≡ Ok a → read_bytes m a.address.0 a.length.0 ≡ Ok arguments
  pub values : (n : ℕ) (s : Slot) (x : Cell) → slice_get t.slots n ≡ Some s → is_same s.«package» ph ≡ true
      → s.template ≡ Value x → x.0 < 2 ^ 32 → slot_read m t ih n ≡ Ok x

abbrev pub InstancesBegin : Type 0
InstancesBegin =
    (t after : InstanceTable) (m left : DataSpace) (ph : Phandle) (parent ih : Cell) (arguments : List ℕ)
    → IsSound left → OwnBlocks t m → HasSlots t → opened t m ph parent arguments ≡ Ok (ih, (after, left))
    → Begins after left ph arguments ih
