-- A node is found by its path (IEEE 1275-1994, 4.3.1).
use Rattle.std.specs.Prelude.{ℕ, ◌≡◌, ◌≤◌, ◌<◌, true, false, List, length, Some}
use Rattle.of_memory.specs.DataSpace.{DataSpace}
use Rattle.of_nodes.specs.declared.tree.Node.{Node}
use Rattle.of_nodes.specs.Asked.{asked, fits}
use Rattle.of_nodes.specs.Components.{address_cells, node_name}
use Rattle.of_nodes.specs.Lookup.{node_of}
use Rattle.of_nodes.specs.Names.{is_name}
use Rattle.of_nodes.specs.Nodes.{AreNodes, node_at, parent_in}
use Rattle.of_nodes.specs.Paths.{component_in, path_in}

-- node i has a good name, its component fits it, and fits no older child of its parent
pub record IsFirst (m : DataSpace) (ns : List Node) (i : ℕ) : Type 0 where
  pub below : 1 ≤ i
  pub within : i < length ns
  pub name : is_name (node_name m (node_at ns i)) ≡ true
  pub no_older : (j : ℕ) → 1 ≤ j → j < i → parent_in ns j ≡ parent_in ns i
      → fits m (address_cells m (node_at ns (parent_in ns i))) (node_at ns j) (asked (component_in m ns i)) ≡ false

-- The root is found by its path. So is a node with a good name whose parent is, unless its component fits an older
-- sibling.
pub record PathsFind : Type 0 where
  pub root : (m : DataSpace) (ns : List Node) → node_of m ns (path_in m ns 0) ≡ Some 0
  pub child : (m : DataSpace) (ns : List Node) (i : ℕ) → AreNodes ns → IsFirst m ns i
      → node_of m ns (path_in m ns (parent_in ns i)) ≡ Some (parent_in ns i)
      → node_of m ns (path_in m ns i) ≡ Some i
