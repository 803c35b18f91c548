-- What the console prints of the device tree (IEEE 1275-1994, 7.4.11).
use Rattle.std.specs.Prelude.{ℕ, List, [], ◌∷◌, ◌++◌, Result, Ok}
use Rattle.of_memory.specs.DataSpace.{DataSpace}
use Rattle.of_nodes.specs.declared.fault.NodeFault.{NodeFault}
use Rattle.of_nodes.specs.declared.phandles.Phandle.{Phandle}
use Rattle.of_nodes.specs.declared.properties.Property.{Property}
use Rattle.of_nodes.specs.declared.tree.Node.{Node}
use Rattle.of_nodes.specs.Nodes.{by_phandle, properties_in}
use Rattle.of_nodes.specs.Paths.{path_in}
use Rattle.of_nodes.specs.Preorder.{numbers_of}
use Rattle.of_nodes.specs.Properties.{bytes_at}
use Rattle.of_nodes.specs.Tree.{tree_of}
use Rattle.of_console.specs.Values.{behind_name}
use Rattle.of_console.specs.declared.tree.Detail.{Detail}
use Rattle.of_console.specs.declared.tree.Detail.TheVariants.{Path, Properties}

-- a property as a line: its name and its value
abbrev pub property_line : DataSpace → Property → List ℕ
property_line m p = bytes_at m p.name ++ behind_name (bytes_at m p.value) ++ 10 ∷ []

-- a line for each property, in their order
abbrev pub properties_shown : DataSpace → List (List ℕ × Property) → List ℕ
properties_shown m [] = []
properties_shown m (e ∷ es) = property_line m e.1 ++ properties_shown m es

-- the properties of the node with a phandle
abbrev pub properties_text : DataSpace → List Node → Phandle → Result (List ℕ) NodeFault
properties_text m ns ph = by_phandle ns ph (λ i. Ok (properties_shown m (properties_in ns i)))

-- the path of the node with a phandle, as a line
abbrev pub pwd_text : DataSpace → List Node → Phandle → Result (List ℕ) NodeFault
pwd_text m ns ph = by_phandle ns ph (λ i. Ok (path_in m ns i ++ 10 ∷ []))

-- what is shown of node i behind its path
abbrev pub detail_shown : Detail → DataSpace → List Node → ℕ → List ℕ
detail_shown Path m ns i = []
detail_shown Properties m ns i = properties_shown m (properties_in ns i)

-- node i: its path as a line, and the detail behind it
abbrev pub node_shown : Detail → DataSpace → List Node → ℕ → List ℕ
node_shown d m ns i = path_in m ns i ++ 10 ∷ detail_shown d m ns i

-- the node with a phandle
abbrev pub node_text : Detail → DataSpace → List Node → Phandle → Result (List ℕ) NodeFault
node_text d m ns ph = by_phandle ns ph (λ i. Ok (node_shown d m ns i))

abbrev pub nodes_shown : Detail → DataSpace → List Node → List ℕ → List ℕ
nodes_shown d m ns [] = []
nodes_shown d m ns (i ∷ is) = node_shown d m ns i ++ nodes_shown d m ns is

-- each node of the tree, in preorder
abbrev pub walk_text : Detail → DataSpace → List Node → List ℕ
walk_text d m ns = nodes_shown d m ns (numbers_of (tree_of ns))

-- with its properties
abbrev pub tree_text : DataSpace → List Node → List ℕ
tree_text m ns = walk_text Properties m ns

-- by its path alone
abbrev pub devs_text : DataSpace → List Node → List ℕ
devs_text m ns = walk_text Path m ns
