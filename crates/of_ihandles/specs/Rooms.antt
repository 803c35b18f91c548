-- Room for one more block in each live instance of a package, and blocks in these rooms.
use Rattle.std.specs.Prelude.{ℕ, ◌-◌, List, [], ◌∷◌, ◌++◌, length, map, set, take, drop, Option, Some, None}
use Rattle.std.specs.Prelude.{if◌then◌else◌}
use Rattle.of_memory.specs.Regions.{instance_start}
use Rattle.of_nodes.specs.declared.phandles.Phandle.{Phandle}
use Rattle.of_nodes.specs.declared.properties.Span.{Span}
use Rattle.of_ihandles.specs.declared.instances.Instance.{Instance}
use Rattle.of_ihandles.specs.Blocks.{span}
use Rattle.of_ihandles.specs.Instances.{is_open, with_block}

-- what stands in a room until a block is put there
abbrev pub nowhere : Span
nowhere = span (record { 0 = instance_start }) (record { 0 = 0 })

-- with room, if it is a live instance of the package
abbrev pub roomy : Phandle → Option Instance → Option Instance
roomy ph e = if is_open ph e then with_block e nowhere else e

-- without the last of its blocks
abbrev pub without_last : Option Instance → Option Instance
without_last None = None
without_last (Some i) = Some (record i { slots = take (length i.slots - 1) i.slots })

abbrev pub roomless : Phandle → Option Instance → Option Instance
roomless ph e = if is_open ph e then without_last e else e

-- the first i with a change
unfoldable pub changed : (Option Instance → Option Instance) → List (Option Instance) → ℕ → List (Option Instance)
changed f es i = map f (take i es) ++ drop i es

-- with another last block
abbrev pub filled : Option Instance → Span → Option Instance
filled None b = None
filled (Some i) b = Some (record i { slots = set i.slots (length i.slots - 1) b })

-- the live instances of the package with other last blocks, in their order
abbrev pub fills : Phandle → List (Option Instance) → List Span → List (Option Instance)
fills ph [] bs = []
fills ph (e ∷ es) [] = e ∷ es
fills ph (e ∷ es) (b ∷ bs) = if is_open ph e then filled e b ∷ fills ph es bs else e ∷ fills ph es (b ∷ bs)
