-- What making and setting properties keeps of the data space (IEEE 1275-1994, 3.2.2.1).
use Rattle.std.specs.Prelude.{ℕ, ◌≡◌, List, Ok}
use Rattle.of_memory.specs.DataSpace.{DataSpace, IsSound}
use Rattle.of_memory.specs.ImageRegion.{KeepsImages}
use Rattle.of_memory.specs.SoundChanges.{AreBytes}
use Rattle.of_nodes.specs.declared.tree.Node.{Node}
use Rattle.of_nodes.specs.declared.phandles.Phandle.{Phandle}
use Rattle.of_nodes.specs.Nodes.{first_tree, tree_property_set}

-- what is left of a data space is sound, with the same images
pub record Keeps (m after : DataSpace) : Type 0 where
  pub sound : IsSound after
  pub images : KeepsImages m after

-- What the first tree and a property that is set leave of a sound data space.
pub record PropertiesKeepTheSpace : Type 0 where
  pub first : (m after : DataSpace) (ns : List Node) → IsSound m → first_tree m ≡ Ok (ns, after) → Keeps m after
  pub by_set : (m after : DataSpace) (ns nodes : List Node) (ph : Phandle) (name value : List ℕ) → IsSound m
      → AreBytes name → AreBytes value → tree_property_set m ns ph name value ≡ Ok (nodes, after) → Keeps m after
