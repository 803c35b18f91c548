-- Paths in the device tree as what it is (IEEE 1275-1994, 3.2.1.1 and 4.3.1).
use Rattle.std.specs.Prelude.{ℕ, ◌≡◌, ◌==◌, List, [], ◌∷◌, ◌++◌, Option, Some, None, if◌then◌else◌}
use Rattle.std.specs.Option.{ok_or, option_or}
use Rattle.of_memory.specs.DataSpace.{DataSpace}
use Rattle.of_nodes.specs.declared.tree.Node.{Node}
use Rattle.of_nodes.specs.declared.properties.Property.{Property}
use Rattle.of_nodes.specs.declared.fault.NodeFault.TheVariants.{NoNode}
use Rattle.of_nodes.specs.declared.lookup.Age.{Age}
use Rattle.of_nodes.specs.declared.lookup.Age.TheVariants.{Newest, Oldest}
use Rattle.of_nodes.specs.Asked.{Asked, asked, fits}
use Rattle.of_nodes.specs.Components.{address_cells, component}
use Rattle.of_nodes.specs.Lookup.{found, package_found}
use Rattle.of_nodes.specs.Nodes.{AreNodes, new_node, phandle_in, phandle_of}
use Rattle.of_nodes.specs.Paths.{path_found}
use Rattle.of_nodes.specs.Texts.{components}
use Rattle.of_nodes.specs.Tree.{Nobody, Sibling, Siblings, oldest, tree_of}

-- a node as it is named: by its properties
abbrev pub node_with : List (List ℕ × Property) → Node
node_with properties = record (new_node 0) { properties = properties }

-- a path that goes on by a `/` and the component of a node, which stands below one with the properties `above`
abbrev pub path_on : DataSpace → List ℕ → List (List ℕ × Property) → List (List ℕ × Property) → List ℕ
path_on m path above properties = path ++ 47 ∷ component m (node_with above) (node_with properties)

-- The path of node i, if it is one of some siblings or below one. The path goes on from that of the node round them,
-- which has the properties `above`.
abbrev pub path_below : DataSpace → ℕ → List ℕ → List (List ℕ × Property) → Siblings → Option (List ℕ)
path_below m i path above Nobody = None
path_below m i path above (Sibling j properties methods children younger) =
    if i == j then Some (path_on m path above properties)
    else option_or (path_below m i (path_on m path above properties) properties children)
    (path_below m i path above younger)

-- the path of node i in the tree: `/` if it is the root, else the components from the root's child down to its own,
-- each behind a `/`
abbrev pub path_to : DataSpace → ℕ → Siblings → Option (List ℕ)
path_to m i Nobody = None
path_to m i (Sibling j properties methods children younger) =
    if i == j then Some (47 ∷ []) else path_below m i [] properties children

-- some siblings from the oldest on that a component fits, where unit addresses have so many cells
abbrev pub from_oldest : DataSpace → ℕ → Asked → Siblings → Siblings
from_oldest m count wanted Nobody = Nobody
from_oldest m count wanted (Sibling i properties methods children younger) =
    if fits m count (node_with properties) wanted then Sibling i properties methods children younger
    else from_oldest m count wanted younger

-- the same from the newest on, or those that there are without it
abbrev pub from_newest : DataSpace → ℕ → Asked → Siblings → Siblings → Siblings
from_newest m count wanted others Nobody = others
from_newest m count wanted others (Sibling i properties methods children younger) =
    if fits m count (node_with properties) wanted
    then from_newest m count wanted (Sibling i properties methods children younger) younger
    else from_newest m count wanted others younger

-- some siblings from that on which is taken for a component
abbrev pub from_taken : DataSpace → Age → ℕ → Asked → Siblings → Siblings
from_taken m Oldest count wanted siblings = from_oldest m count wanted siblings
from_taken m Newest count wanted siblings = from_newest m count wanted Nobody siblings

-- Where components lead to from the first of some siblings on: each takes one of its children, and the rest lead on
-- from there.
abbrev pub led : DataSpace → Age → Siblings → List (List ℕ) → Siblings
led m age siblings [] = siblings
led m age Nobody (c ∷ cs) = Nobody
led m age (Sibling i properties methods children younger) (c ∷ cs) =
    led m age (from_taken m age (address_cells m (node_with properties)) (asked c) children) cs

-- the number of the node of a path in the tree
abbrev pub node_for : DataSpace → Siblings → List ℕ → Option ℕ
node_for m tree [] = None
node_for m tree (b ∷ text) = if b == 47 then oldest (led m Oldest tree (components text)) else None

-- the children of the first of some siblings
abbrev pub children_of : Siblings → Siblings
children_of Nobody = Nobody
children_of (Sibling i properties methods children younger) = children

-- the number of the node of a path below `/packages`, the root's oldest child
abbrev pub package_for : DataSpace → Siblings → List ℕ → Option ℕ
package_for m tree text = oldest (led m Newest (children_of tree) (components text))

-- `find` and `find_package` find what the path leads to in the tree, and `path_of` gives the node's path there.
pub record TreeFinds : Type 0 where
  pub find : (m : DataSpace) (ns : List Node) (path : List ℕ) → AreNodes ns
      → found m ns path ≡ phandle_in (node_for m (tree_of ns) path)
  pub find_package : (m : DataSpace) (ns : List Node) (text : List ℕ) → AreNodes ns
      → package_found m ns text ≡ phandle_in (package_for m (tree_of ns) text)
  pub path_of : (m : DataSpace) (ns : List Node) (i : ℕ) → AreNodes ns
      → path_found m ns (phandle_of i) ≡ ok_or (path_to m i (tree_of ns)) NoNode
