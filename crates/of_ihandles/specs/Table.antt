-- The instances that were ever opened, the oldest first, and the slots of all packages.
use Rattle.std.specs.Prelude.{List, Option}
use Rattle.of_ihandles.specs.declared.instances.Instance.{Instance}
use Rattle.of_ihandles.specs.declared.slots.Slot.{Slot}

pub record InstanceTable : Type 0 where
  -- the instance of each number, or none once it was released
  pub made : List (Option Instance)
  -- every slot of every package, in the order of making
  pub slots : List Slot
