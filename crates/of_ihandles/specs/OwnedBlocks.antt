-- The blocks of the instance region are those of the live instances (IEEE 1275-1994, annex A, `close-package`).
use Rattle.std.specs.Prelude.{ℕ, ◌≡◌, ◌≢◌, ◌+◌, ◌≤◌, ◌⊎◌, ◌==◌}
use Rattle.std.specs.Prelude.{◌&&◌, Bool, List, [], ◌∷◌, ◌++◌, count_by, Option}
use Rattle.std.specs.Prelude.{Some, None, Ok}
use Rattle.std.specs.List.{slice_get}
use Rattle.of_cells.specs.declared.cells.Cell.{Cell}
use Rattle.of_memory.specs.Blocks.{is_block, rounded}
use Rattle.of_memory.specs.DataSpace.{DataSpace, IsSound}
use Rattle.of_nodes.specs.declared.phandles.Phandle.{Phandle}
use Rattle.of_nodes.specs.declared.properties.Span.{Span}
use Rattle.of_ihandles.specs.declared.instances.Instance.{Instance}
use Rattle.of_ihandles.specs.declared.slots.Template.{Template}
use Rattle.of_ihandles.specs.Instances.{released}
use Rattle.of_ihandles.specs.Instances.{arguments_set, closed, no_instances, opened, slot_stored, slotted}
use Rattle.of_ihandles.specs.Table.{InstanceTable}

-- the blocks of an instance: that of its arguments, and those of its slots
abbrev pub blocks_of : Option Instance → List Span
blocks_of None = []
blocks_of (Some i) = i.arguments ∷ i.slots

-- those of all live instances
abbrev pub live_blocks : List (Option Instance) → List Span
live_blocks [] = []
live_blocks (e ∷ es) = blocks_of e ++ live_blocks es

-- it stands at this address, with this size
abbrev pub is_held : ℕ → ℕ → Span → Bool
is_held a size b = b.address.0 == a && rounded b.length.0 == size

-- each block is live in the region as often as it is a live instance's
abbrev pub OwnBlocks : InstanceTable → DataSpace → Type 0
OwnBlocks t m =
    (a size : ℕ) → count_by (is_held a size) (live_blocks t.made) ≡ count_by (is_block a size) m.instances

-- no byte is of both
abbrev pub AreApart : Span → Span → Type 0
AreApart b c =
    (b.address.0 + rounded b.length.0 ≤ c.address.0) ⊎ (c.address.0 + rounded c.length.0 ≤ b.address.0)

pub record BlocksAreOwned : Type 0 where
  -- so it is at first, and after each call
  pub at_first : (m : DataSpace) → m.instances ≡ [] → OwnBlocks no_instances m
  pub by_open : (t after : InstanceTable) (m left : DataSpace) (ph : Phandle) (parent ih : Cell) (arguments : List ℕ)
      → OwnBlocks t m → opened t m ph parent arguments ≡ Ok (ih, (after, left)) → OwnBlocks after left
  pub by_close : (t after : InstanceTable) (m left : DataSpace) (ih : Cell)
      → OwnBlocks t m → closed t m ih ≡ Ok (tt, (after, left)) → OwnBlocks after left
  pub by_release : (t after : InstanceTable) (m left : DataSpace) (ih : Cell)
      → OwnBlocks t m → released t m ih ≡ (after, left) → OwnBlocks after left
  pub by_slot : (t after : InstanceTable) (m left : DataSpace) (ph : Phandle) (template : Template) (n : ℕ)
      → OwnBlocks t m → slotted t m ph template ≡ Ok (n, (after, left)) → OwnBlocks after left
  pub by_store : (t : InstanceTable) (m left : DataSpace) (ih : Cell) (n : ℕ) (x : Cell)
      → OwnBlocks t m → slot_stored m t ih n x ≡ Ok (tt, left) → OwnBlocks t left
  pub by_arguments : (t after : InstanceTable) (m left : DataSpace) (ih : Cell) (arguments : List ℕ) (unit : List Cell)
      → OwnBlocks t m → arguments_set t m ih arguments unit ≡ Ok (tt, (after, left)) → OwnBlocks after left
  -- and then no two of them meet
  pub apart : (t : InstanceTable) (m : DataSpace) (i j : ℕ) (b c : Span) → IsSound m → OwnBlocks t m → i ≢ j
      → slice_get (live_blocks t.made) i ≡ Some b → slice_get (live_blocks t.made) j ≡ Some c → AreApart b c
