-- The nodes that a tree has at first are found by their paths (IEEE 1275-1994, 4.3.1).
use Rattle.std.specs.Prelude.{◌≡◌, List, Ok, Some, codes}
use Rattle.of_memory.specs.DataSpace.{DataSpace, IsSound, fresh}
use Rattle.of_nodes.specs.declared.tree.Node.{Node}
use Rattle.of_nodes.specs.Lookup.{found}
use Rattle.of_nodes.specs.Nodes.{first_tree, phandle_of}

-- In the tree that is made first, `/packages` is the path of the second node and `/slot` that of the third, whatever
-- sound data space the names were put into; the data space at first is one.
pub record FirstPathsFind : Type 0 where
  pub fresh_too : IsSound fresh
  pub packages : (m after : DataSpace) (ns : List Node) → IsSound m → first_tree m ≡ Ok (ns, after)
      → found after ns (codes "/packages") ≡ Some (phandle_of 1)
  pub slot : (m after : DataSpace) (ns : List Node) → IsSound m → first_tree m ≡ Ok (ns, after)
      → found after ns (codes "/slot") ≡ Some (phandle_of 2)
