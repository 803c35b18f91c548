-- The instances of a load and of the `new-device`s opened in it are exactly those that are released at its end
-- (IEEE 1275-1994, annex A, `new-device`, `finish-device`).
use Rattle.std.specs.Prelude.{ℕ, ◌≡◌, ◌⊎◌, ◌+◌, nat_lt, false, List, [], ◌∷◌, ◌++◌, Option, Some, None, Ok}
use Rattle.of_cells.specs.declared.cells.Cell.{Cell}
use Rattle.of_nodes.specs.declared.phandles.Phandle.{Phandle}
use Rattle.of_ihandles.specs.Instances.{found, parent_of}
use Rattle.of_board.specs.Active.{all_finished, device_finished, device_opened, image_left}
use Rattle.of_board.specs.declared.active.NewDevice.{NewDevice}
use Rattle.of_board.specs.declared.board.Board.{Board}

-- it is the instance of one of these `new-device`s that was opened since so many had been
abbrev pub IsSince : ℕ → List NewDevice → Cell → Type 0
IsSince count [] ih = ⊥
IsSince count (d ∷ ds) ih = ((nat_lt d.number count ≡ false) × (ih.0 ≡ d.instance.0)) ⊎ IsSince count ds ih

-- it is that of a load, or of a `new-device` opened in it
abbrev pub IsOfLoad : Board → ℕ → Cell → Cell → Type 0
IsOfLoad b count instance ih = (ih.0 ≡ instance.0) ⊎ IsSince count b.active.new_devices.opened ih

-- an open `new-device` that found this package, with its instance
abbrev pub device_of : Board → Phandle → Cell → NewDevice
device_of b found instance = record {
  «package» = found;
  my_self = b.active.my_self;
  instance = instance;
  number = b.active.new_devices.ever;
}

-- what `new-device` leaves: the current instance is a new one, of the child, below the one before; it is that of the
-- latest open `new-device`, whose number counts those that ever were
pub record OpensDevice (b after : Board) (found_package : Phandle) : Type 0 where
  pub new : found b.instances after.active.my_self ≡ None
  pub above : parent_of after.instances after.active.my_self ≡ Ok b.active.my_self
  pub opened :
      after.active.new_devices.opened
      ≡ b.active.new_devices.opened ++ device_of b found_package after.active.my_self ∷ []
  pub ever : after.active.new_devices.ever ≡ b.active.new_devices.ever + 1
  pub others : (ih : Cell) → (ih.0 ≡ after.active.my_self.0 → ⊥) → found after.instances ih ≡ found b.instances ih

pub record InstancesNest : Type 0 where
  pub opens :
      (b after : Board) (found_package : Phandle) → device_opened b found_package ≡ Ok after →
      OpensDevice b after found_package
  -- At the end of a load its instance, and those of the `new-device`s that were opened in it, are live no more; any
  -- other is as it was.
  pub released :
      (b : Board) (count : ℕ) (before : Option Phandle) (instance ih : Cell) → IsOfLoad b count instance ih →
      found (image_left b count before instance).instances ih ≡ None
  pub others :
      (b : Board) (count : ℕ) (before : Option Phandle) (instance ih : Cell) → (IsOfLoad b count instance ih → ⊥) →
      found (image_left b count before instance).instances ih ≡ found b.instances ih
  -- `finish-device` releases the instance of a `new-device` that was open, and no other.
  pub finished :
      (b after : Board) → device_finished b ≡ Some after →
      (d : NewDevice) × (found after.instances d.instance ≡ None) ×
      ((ih : Cell) → (ih.0 ≡ d.instance.0 → ⊥) → found after.instances ih ≡ found b.instances ih)
  -- Where all are finished, those of all open `new-device`s are released, and no other.
  pub all_released :
      (b : Board) (ih : Cell) → IsSince 0 b.active.new_devices.opened ih →
      found (all_finished b).instances ih ≡ None
  pub all_others :
      (b : Board) (ih : Cell) → (IsSince 0 b.active.new_devices.opened ih → ⊥) →
      found (all_finished b).instances ih ≡ found b.instances ih
