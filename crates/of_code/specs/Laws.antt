-- What the calls of every store say of one another.
use Rattle.std.specs.Prelude.{◌≡◌, ◌≢◌, ◌≤◌, ◌<◌, length, Some, None}
use Rattle.of_cells.specs.declared.cells.Cell.{Cell}
use Rattle.of_code.specs.declared.item.Place.{Place}
use Rattle.of_code.specs.declared.item.Item.{Item}
use Rattle.of_code.specs.declared.item.Item.TheVariants.{Return}
use Rattle.of_code.specs.Items.{target_of, with_target}
use Rattle.of_code.specs.Code.{Code, abandoned, appended, end_of, fetched_in, finished, item_in, next_in, retargeted}
use Rattle.of_code.specs.Code.{start_in}

-- `item_at` gives what `append` got, and `item_and_next` also the next place
pub record AppendedItemsAreFound : Type 0 where
  pub found : (c : Code) (item : Item) → item_in (appended c item) (end_of c) ≡ Some item
  pub next :
      (c : Code) (item : Item) →
      fetched_in (appended c item) (end_of c) ≡ Some (item, end_of (appended c item))
  pub others :
      (c : Code) (item : Item) (place : Place) →
      place.cell < length c.cells → item_in (appended c item) place ≡ item_in c place

-- `set_target` changes that one target
pub record TargetsChangeAlone : Type 0 where
  pub changed :
      (c : Code) (at to : Place) (item : Item) →
      item_in c at ≡ Some item → item_in (retargeted c at to) at ≡ Some (with_target item to)
  -- an item that has a target has the new one
  pub set :
      (item : Item) (from to : Place) →
      target_of item ≡ Some from → target_of (with_target item to) ≡ Some to
  -- nothing else of it has changed: its old target makes it the old item
  pub restored :
      (item : Item) (from to : Place) →
      target_of item ≡ Some from → with_target (with_target item to) from ≡ item
  -- of two new targets the last counts
  pub twice :
      (item : Item) (first last : Place) →
      with_target (with_target item first) last ≡ with_target item last
  -- an item that has no target stays
  pub without : (item : Item) (to : Place) → target_of item ≡ None → with_target item to ≡ item
  pub others :
      (c : Code) (at to place : Place) →
      place.cell ≢ at.cell → item_in (retargeted c at to) place ≡ item_in c place
  pub places :
      (c : Code) (at to place : Place) → next_in (retargeted c at to) place ≡ next_in c place
  pub end : (c : Code) (at to : Place) → end_of (retargeted c at to) ≡ end_of c
  pub starts :
      (c : Code) (at to : Place) (xt : Cell) → start_in (retargeted c at to) xt ≡ start_in c xt

-- `finish` adds the return and binds the xt, whose first place `start_of` gives
pub record FinishedWordsAreBound : Type 0 where
  pub ended : (c : Code) (xt : Cell) → item_in (finished c xt) (end_of c) ≡ Some Return
  pub items :
      (c : Code) (xt : Cell) (place : Place) →
      place.cell < length c.cells → item_in (finished c xt) place ≡ item_in c place
  pub bound : (c : Code) (xt : Cell) → start_in (finished c xt) xt ≡ Some c.opened
  pub others :
      (c : Code) (xt other : Cell) →
      xt.0 ≢ other.0 → start_in (finished c xt) other ≡ start_in c other
  pub opened : (c : Code) (xt : Cell) → (finished c xt).opened ≡ end_of (finished c xt)
  pub kept : (c : Code) (xt : Cell) → abandoned (finished c xt) ≡ finished c xt

-- `abandon` forgets what isn't finished
pub record AbandonedItemsAreForgotten : Type 0 where
  pub gone :
      (c : Code) (place : Place) → c.opened.cell ≤ place.cell → item_in (abandoned c) place ≡ None
  pub finished_items :
      (c : Code) (place : Place) →
      place.cell < c.opened.cell → item_in (abandoned c) place ≡ item_in c place
  pub end :
      (c : Code) → c.opened.cell ≤ length c.cells → end_of (abandoned c) ≡ c.opened
  pub appended_items :
      (c : Code) (item : Item) →
      c.opened.cell ≤ length c.cells → abandoned (appended c item) ≡ abandoned c
  pub starts : (c : Code) (xt : Cell) → start_in (abandoned c) xt ≡ start_in c xt
