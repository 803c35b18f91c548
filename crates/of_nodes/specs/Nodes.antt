-- Nodes by number, the root first (IEEE 1275-1994, 3.2.1).
use Rattle.std.specs.Prelude.{ℕ, ◌<◌, ◌≤◌, ◌+◌, ◌*◌, ◌-◌, ◌/◌, ◌%◌, ◌&&◌, ◌==◌, nat_le, nat_lt, zero, suc, max}
use Rattle.std.specs.Prelude.{List, [], ◌∷◌, ◌++◌, length, drop, Option, Some, None, Result, Ok, Err, if◌then◌else◌}
use Rattle.std.specs.Prelude.{codes, get_or, set, slice_get}
use Rattle.std.specs.Option.{option_or}
use Rattle.of_memory.specs.DataSpace.{DataSpace}
use Rattle.of_cells.specs.declared.cells.Cell.{Cell}
use Rattle.of_nodes.specs.declared.tree.Node.{Node}
use Rattle.of_nodes.specs.declared.properties.Property.{Property}
use Rattle.of_nodes.specs.declared.phandles.Phandle.{Phandle}
use Rattle.of_nodes.specs.declared.fault.NodeFault.{NodeFault}
use Rattle.of_nodes.specs.declared.fault.NodeFault.TheVariants.{BadName, NoNode, TooManyNodes}
use Rattle.of_nodes.specs.Methods.{is_method_name, method_in, with_former, with_method}
use Rattle.of_nodes.specs.Names.{may_hold}
use Rattle.of_nodes.specs.Properties.{property_set, value_at, value_in, value_next, without}

-- the most nodes that are ever made
abbrev pub most_nodes : ℕ
most_nodes = 1024

-- the phandle of the first node
abbrev pub first_phandle : ℕ
first_phandle = 0xD000_0000

-- the phandle of node k
abbrev pub phandle_of : ℕ → Phandle
phandle_of k = record { 0 = record { 0 = first_phandle + 4 * k } }

-- the number of the node at a distance from the first phandle, of so many nodes
abbrev pub number_at : ℕ → ℕ → Option ℕ
number_at count d = if d % 4 == 0 && nat_lt (d / 4) count then Some (d / 4) else None

-- the number of the node with a phandle, of so many nodes
abbrev pub number_of : ℕ → Phandle → Option ℕ
number_of count ph = if nat_lt ph.0.0 first_phandle then None else number_at count (ph.0.0 - first_phandle)

-- each parent stands before its children, and the first node is the root
abbrev pub AreRooted : ℕ → List Node → Type 0
AreRooted i [] = Unit {0}
AreRooted i (n ∷ ns) = (n.parent < max 1 i) × AreRooted (suc i) ns

-- the nodes of a tree, which are at least the first three
pub record AreNodes (ns : List Node) : Type 0 where
  pub rooted : AreRooted 0 ns
  pub three : 3 ≤ length ns
  pub few : length ns ≤ most_nodes

-- a node without properties and methods
abbrev pub new_node : ℕ → Node
new_node parent = record { parent = parent; properties = []; methods = [] }

-- node i; such a node stands where there is none
abbrev pub node_at : List Node → ℕ → Node
node_at ns i = get_or ns i (new_node 0)

-- the number of the node above it, its properties and its methods
abbrev pub parent_in : List Node → ℕ → ℕ
parent_in ns i = (node_at ns i).parent

abbrev pub properties_in : List Node → ℕ → List (List ℕ × Property)
properties_in ns i = (node_at ns i).properties

abbrev pub methods_in : List Node → ℕ → List (List ℕ × Cell)
methods_in ns i = (node_at ns i).methods

-- the nodes with a change of node i
abbrev pub with_node_at : List Node → ℕ → (Node → Node) → List Node
with_node_at ns i change = set ns i (change (node_at ns i))

abbrev pub with_properties : List Node → ℕ → List (List ℕ × Property) → List Node
with_properties ns i ps = with_node_at ns i (λ n. record n { properties = ps })

abbrev pub with_methods : List Node → ℕ → List (List ℕ × Cell) → List Node
with_methods ns i ms = with_node_at ns i (λ n. record n { methods = ms })

-- what there is for a number, or NoNode
abbrev pub numbered : {A : Type 0} → Option ℕ → (ℕ → Result A NodeFault) → Result A NodeFault
numbered None f = Err NoNode
numbered (Some i) f = f i

-- what there is for the number of the node with a phandle, or NoNode
abbrev pub by_phandle : {A : Type 0} → List Node → Phandle → (ℕ → Result A NodeFault) → Result A NodeFault
by_phandle ns ph f = numbered (number_of (length ns) ph) f

-- the phandle of a node made as the last child of that with a phandle, and the nodes then
abbrev pub node_added : List Node → Phandle → Result (Phandle × List Node) NodeFault
node_added ns above =
    by_phandle ns above (λ i. if nat_le most_nodes (length ns) then Err TooManyNodes
    else Ok (phandle_of (length ns), ns ++ new_node i ∷ []))

-- the property of the name of the node with a phandle
abbrev pub property_found : List Node → Phandle → List ℕ → Result (Option Property) NodeFault
property_found ns ph name = by_phandle ns ph (λ i. Ok (value_in (properties_in ns i) name))

-- the property behind that of the name, or the first where the name is empty
abbrev pub next_found : List Node → Phandle → List ℕ → Result (Option Property) NodeFault
next_found ns ph name = by_phandle ns ph (λ i. Ok (value_next (properties_in ns i) name))

-- the property at a place in the order
abbrev pub property_placed : List Node → Phandle → ℕ → Result (Option Property) NodeFault
property_placed ns ph place = by_phandle ns ph (λ i. Ok (value_at (properties_in ns i) place))

-- how many there are
abbrev pub properties_counted : List Node → Phandle → Result ℕ NodeFault
properties_counted ns ph = by_phandle ns ph (λ i. Ok (length (properties_in ns i)))

-- the nodes with what was set at node i
abbrev pub set_in :
    List Node → ℕ → Result (List (List ℕ × Property) × DataSpace) NodeFault → Result (List Node × DataSpace) NodeFault
set_in ns i (Ok x) = Ok (with_properties ns i x.0, x.1)
set_in ns i (Err fault) = Err fault

-- what setting a property of node i leaves
abbrev pub set_at : DataSpace → List Node → List ℕ → List ℕ → ℕ → Result (List Node × DataSpace) NodeFault
set_at m ns name value i =
    if may_hold name value then set_in ns i (property_set m (properties_in ns i) name value) else Err BadName

-- what setting a property of the node with a phandle leaves
abbrev pub tree_property_set :
    DataSpace → List Node → Phandle → List ℕ → List ℕ → Result (List Node × DataSpace) NodeFault
tree_property_set m ns ph name value = by_phandle ns ph (set_at m ns name value)

-- what deleting one leaves
abbrev pub property_deleted : List Node → Phandle → List ℕ → Result (Unit {0} × List Node) NodeFault
property_deleted ns ph name =
    by_phandle ns ph (λ i. Ok (tt, with_properties ns i (without (properties_in ns i) name)))

-- the method of the name of the node with a phandle
abbrev pub method_found : List Node → Phandle → List ℕ → Result (Option Cell) NodeFault
method_found ns ph name = by_phandle ns ph (λ i. Ok (method_in (methods_in ns i) name))

-- the name and the word of the method at a place in the order
abbrev pub method_placed : List Node → Phandle → ℕ → Result (Option (List ℕ × Cell)) NodeFault
method_placed ns ph place = by_phandle ns ph (λ i. Ok (slice_get (methods_in ns i) place))

-- what making a word a method of node i leaves
abbrev pub added_at : List Node → List ℕ → Cell → ℕ → Result (List Node) NodeFault
added_at ns name xt i =
    if is_method_name name then Ok (with_methods ns i (with_method (methods_in ns i) name xt)) else Err BadName

-- what making a word a method of the node with a phandle leaves
abbrev pub method_added : List Node → Phandle → List ℕ → Cell → Result (List Node) NodeFault
method_added ns ph name xt = by_phandle ns ph (added_at ns name xt)

-- the nodes with what the node of a number had as the method of a name before that was added
abbrev pub former_at : List Node → List ℕ → Option Cell → Option ℕ → List Node
former_at ns name before None = ns
former_at ns name before (Some i) =
    if is_method_name name then with_methods ns i (with_former (methods_in ns i) name before) else ns

abbrev pub method_taken_back : List Node → Phandle → List ℕ → Option Cell → List Node
method_taken_back ns ph name before = former_at ns name before (number_of (length ns) ph)

-- the nodes with one more, which has these properties, and what making these left
abbrev pub with_node :
    List Node → ℕ → Result (List (List ℕ × Property) × DataSpace) NodeFault → Result (List Node × DataSpace) NodeFault
with_node ns parent (Ok x) = Ok (ns ++ record (new_node parent) { properties = x.0 } ∷ [], x.1)
with_node ns parent (Err fault) = Err fault

-- the nodes with one more, whose property `name` is the value
abbrev pub named_child : List Node → DataSpace → ℕ → List ℕ → Result (List Node × DataSpace) NodeFault
named_child ns m parent value = with_node ns parent (property_set m [] (codes "name") value)

abbrev pub then_child :
    Result (List Node × DataSpace) NodeFault → List ℕ → Result (List Node × DataSpace) NodeFault
then_child (Ok x) value = named_child x.0 x.1 0 value
then_child (Err fault) value = Err fault

-- the root, which has the name `board`, and its children `packages` and `slot`
abbrev pub first_tree : DataSpace → Result (List Node × DataSpace) NodeFault
first_tree m =
    then_child (then_child (named_child [] m 0 (codes "board" ++ 0 ∷ [])) (codes "packages" ++ 0 ∷ []))
    (codes "slot" ++ 0 ∷ [])

-- the number of the first of these nodes, numbered from i on, that has the parent p
abbrev pub child_from : ℕ → List Node → ℕ → Option ℕ
child_from i [] p = None
child_from i (n ∷ ns) p = if n.parent == p then Some i else child_from (suc i) ns p

-- the phandle of the node of a number, if there is one
abbrev pub phandle_in : Option ℕ → Option Phandle
phandle_in None = None
phandle_in (Some i) = Some (phandle_of i)

-- the node above that with a phandle; the root has none
abbrev pub parent_found : List Node → Phandle → Result (Option Phandle) NodeFault
parent_found ns ph = by_phandle ns ph (λ i. Ok (if i == 0 then None else Some (phandle_of (parent_in ns i))))

-- its first child
abbrev pub child_found : List Node → Phandle → Result (Option Phandle) NodeFault
child_found ns ph = by_phandle ns ph (λ i. Ok (phandle_in (child_from 1 (drop 1 ns) i)))

-- the next child of its parent
abbrev pub peer_found : List Node → Phandle → Result (Option Phandle) NodeFault
peer_found ns ph =
    by_phandle ns ph (λ i. Ok (if i == 0 then None
    else phandle_in (child_from (i + 1) (drop (i + 1) ns) (parent_in ns i))))

-- The node behind all that is below node i, which is at most k levels below the root: its peer, or else the one
-- behind all that is below the node above it.
abbrev pub behind_in : List Node → ℕ → ℕ → Option ℕ
behind_in ns zero i = None
behind_in ns (suc k) i =
    if i == 0 then None
    else option_or (child_from (i + 1) (drop (i + 1) ns) (parent_in ns i)) (behind_in ns k (parent_in ns i))

-- the next node in preorder: the first child, or else the node behind all that is below it
abbrev pub after_found : List Node → Phandle → Result (Option Phandle) NodeFault
after_found ns ph =
    by_phandle ns ph (λ i. Ok (phandle_in (option_or (child_from 1 (drop 1 ns) i) (behind_in ns i i))))
