-- The path of a node (IEEE 1275-1994, 3.2.1.1).
use Rattle.std.specs.Prelude.{ℕ, zero, suc, ◌==◌, List, [], ◌∷◌, ◌++◌, Result, Ok}
use Rattle.std.specs.Prelude.{if◌then◌else◌}
use Rattle.of_memory.specs.DataSpace.{DataSpace}
use Rattle.of_nodes.specs.declared.tree.Node.{Node}
use Rattle.of_nodes.specs.declared.phandles.Phandle.{Phandle}
use Rattle.of_nodes.specs.declared.fault.NodeFault.{NodeFault}
use Rattle.of_nodes.specs.Components.{address_cells, component}
use Rattle.of_nodes.specs.Nodes.{by_phandle, node_at, parent_in}

-- how node i stands in a path
abbrev pub component_in : DataSpace → List Node → ℕ → List ℕ
component_in m ns i = component m (node_at ns (parent_in ns i)) (node_at ns i)

-- the components from the root down to node i, which is at most k levels below it, each behind a `/`
abbrev pub components_to : DataSpace → List Node → ℕ → ℕ → List ℕ
components_to m ns zero i = []
components_to m ns (suc k) i =
    if i == 0 then [] else components_to m ns k (parent_in ns i) ++ 47 ∷ component_in m ns i

-- the path of node i: it has fewer than i nodes above it but the root, since a parent is older than its children
abbrev pub path_in : DataSpace → List Node → ℕ → List ℕ
path_in m ns i = if i == 0 then 47 ∷ [] else components_to m ns i i

-- how the node with a phandle stands in a path; the root stands in none
abbrev pub component_found : DataSpace → List Node → Phandle → Result (List ℕ) NodeFault
component_found m ns ph = by_phandle ns ph (λ i. Ok (if i == 0 then [] else component_in m ns i))

-- the path of the node with a phandle
abbrev pub path_found : DataSpace → List Node → Phandle → Result (List ℕ) NodeFault
path_found m ns ph = by_phandle ns ph (λ i. Ok (path_in m ns i))

-- how many cells the addresses below the node with a phandle have
abbrev pub cells_found : DataSpace → List Node → Phandle → Result ℕ NodeFault
cells_found m ns ph = by_phandle ns ph (λ i. Ok (address_cells m (node_at ns i)))
