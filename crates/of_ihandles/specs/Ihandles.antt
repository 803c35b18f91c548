-- An ihandle is that of one instance, from its opening to its release (IEEE 1275-1994, annex A, `open-package`).
use Rattle.std.specs.Prelude.{ℕ, ◌≡◌, ◌⊎◌, suc, List, length, replicate, None, Ok}
use Rattle.of_cells.specs.declared.cells.Cell.{Cell}
use Rattle.of_memory.specs.DataSpace.{DataSpace}
use Rattle.of_nodes.specs.declared.phandles.Phandle.{Phandle}
use Rattle.of_ihandles.specs.declared.slots.Template.{Template}
use Rattle.of_ihandles.specs.Instances.{released}
use Rattle.of_ihandles.specs.Instances.{argument_span, arguments_set, closed, found, ihandle_of, opened, package_of}
use Rattle.of_ihandles.specs.Instances.{parent_of, slotted, unit_of, units, zero_cell}
use Rattle.of_ihandles.specs.Table.{InstanceTable}

-- any other ihandle is of the same instance, or of none, as before
abbrev pub OthersStay : InstanceTable → InstanceTable → Cell → Type 0
OthersStay t after ih = (other : Cell) → (other.0 ≡ ih.0 → ⊥) → found after other ≡ found t other

-- what an opening makes: the ihandle counts the openings so far, and was no instance's
pub record IsOpened (t after : InstanceTable) (ph : Phandle) (parent ih : Cell) : Type 0 where
  pub handle : ih ≡ ihandle_of (length t.made)
  pub count : length after.made ≡ suc (length t.made)
  pub before : found t ih ≡ None
  pub «package» : package_of after ih ≡ Ok ph
  pub above : parent_of after ih ≡ Ok parent
  pub unit : units after ih ≡ Ok (replicate 4 zero_cell)
  pub others : OthersStay t after ih

-- what a release leaves
pub record IsReleased (t after : InstanceTable) (ih : Cell) : Type 0 where
  pub count : length after.made ≡ length t.made
  pub was : found t ih ≡ None → ⊥
  pub gone : found after ih ≡ None
  pub others : OthersStay t after ih

-- the same instances, each of the same package and with the same parent, unit and arguments
pub record StaysOpen (t after : InstanceTable) : Type 0 where
  pub count : length after.made ≡ length t.made
  pub «package» : (ih : Cell) → package_of after ih ≡ package_of t ih
  pub above : (ih : Cell) → parent_of after ih ≡ parent_of t ih
  pub unit : (ih : Cell) → units after ih ≡ units t ih
  pub arguments : (ih : Cell) → argument_span after ih ≡ argument_span t ih

-- what other arguments leave
pub record HasArguments (t after : InstanceTable) (ih : Cell) (unit : List Cell) : Type 0 where
  pub count : length after.made ≡ length t.made
  pub «package» : package_of after ih ≡ package_of t ih
  pub above : parent_of after ih ≡ parent_of t ih
  pub new : units after ih ≡ Ok (unit_of unit)
  pub others : OthersStay t after ih

pub record IhandlesAreNew : Type 0 where
  pub by_open : (t after : InstanceTable) (m left : DataSpace) (ph : Phandle) (parent ih : Cell) (arguments : List ℕ)
      → opened t m ph parent arguments ≡ Ok (ih, (after, left)) → IsOpened t after ph parent ih
  pub by_close : (t after : InstanceTable) (m left : DataSpace) (ih : Cell)
      → closed t m ih ≡ Ok (tt, (after, left)) → IsReleased t after ih
  -- nothing changes where there is no live instance
  pub by_release : (t after : InstanceTable) (m left : DataSpace) (ih : Cell) → released t m ih ≡ (after, left)
      → IsReleased t after ih ⊎ ((found t ih ≡ None) × (after ≡ t) × (left ≡ m))
  pub by_slot : (t after : InstanceTable) (m left : DataSpace) (ph : Phandle) (template : Template) (n : ℕ)
      → slotted t m ph template ≡ Ok (n, (after, left)) → StaysOpen t after
  pub by_arguments : (t after : InstanceTable) (m left : DataSpace) (ih : Cell) (arguments : List ℕ) (unit : List Cell)
      → arguments_set t m ih arguments unit ≡ Ok (tt, (after, left)) → HasArguments t after ih unit
