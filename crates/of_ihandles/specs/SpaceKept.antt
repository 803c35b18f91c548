-- What the calls over instances keep of the data space.
use Rattle.std.specs.Prelude.{ℕ, ◌≡◌, List, Ok}
use Rattle.of_cells.specs.declared.cells.Cell.{Cell}
use Rattle.of_memory.specs.DataSpace.{DataSpace, IsSound}
use Rattle.of_memory.specs.ImageRegion.{KeepsImages}
use Rattle.of_memory.specs.PropertyRegion.{KeepsProperties}
use Rattle.of_memory.specs.SoundChanges.{AreBytes}
use Rattle.of_nodes.specs.declared.phandles.Phandle.{Phandle}
use Rattle.of_ihandles.specs.declared.slots.Template.{Template}
use Rattle.of_ihandles.specs.Instances.{arguments_set, closed, opened, released, slot_stored, slotted}
use Rattle.of_ihandles.specs.OwnedBlocks.{OwnBlocks}
use Rattle.of_ihandles.specs.Table.{InstanceTable}

-- what is left of a data space is sound, with the same images and properties
pub record Keeps (m left : DataSpace) : Type 0 where
  pub sound : IsSound left
  pub images : KeepsImages m left
  pub properties : KeepsProperties m left

-- What each call leaves of a sound data space. A store wants the slot's block to be one of the region.
pub record InstancesKeepTheSpace : Type 0 where
  pub by_open : (t after : InstanceTable) (m left : DataSpace) (ph : Phandle) (parent ih : Cell) (arguments : List ℕ)
      → IsSound m → AreBytes arguments → opened t m ph parent arguments ≡ Ok (ih, (after, left)) → Keeps m left
  pub by_close : (t after : InstanceTable) (m left : DataSpace) (ih : Cell)
      → IsSound m → closed t m ih ≡ Ok (tt, (after, left)) → Keeps m left
  pub by_release : (t after : InstanceTable) (m left : DataSpace) (ih : Cell)
      → IsSound m → released t m ih ≡ (after, left) → Keeps m left
  pub by_arguments : (t after : InstanceTable) (m left : DataSpace) (ih : Cell) (arguments : List ℕ) (unit : List Cell)
      → IsSound m → AreBytes arguments → arguments_set t m ih arguments unit ≡ Ok (tt, (after, left)) → Keeps m left
  pub by_slot : (t after : InstanceTable) (m left : DataSpace) (ph : Phandle) (template : Template) (n : ℕ)
      → IsSound m → slotted t m ph template ≡ Ok (n, (after, left)) → Keeps m left
  pub by_store : (t : InstanceTable) (m left : DataSpace) (ih : Cell) (n : ℕ) (x : Cell)
      → IsSound m → OwnBlocks t m → slot_stored m t ih n x ≡ Ok (tt, left) → Keeps m left
