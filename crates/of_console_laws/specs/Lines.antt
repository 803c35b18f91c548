-- What is printed of a node's properties and of its children is a line for each (IEEE 1275-1994, 7.4.11).
use Rattle.std.specs.Prelude.{ℕ, ◌≡◌, ◌<◌, ◌⊎◌, true, List, [], ◌∷◌, ◌++◌, length, map, Option, Some}
use Rattle.std.specs.Prelude.{Ok}
use Rattle.std.specs.List.{AllByRecursion, AllPairs, IsDistinct}
use Rattle.std.specs.Int.{bytes_high_first}
use Rattle.hex.specs.Hex.{encode_lower}
use Rattle.of_memory.specs.DataSpace.{DataSpace, IsSound}
use Rattle.of_nodes.specs.declared.phandles.Phandle.{Phandle}
use Rattle.of_nodes.specs.declared.properties.Property.{Property}
use Rattle.of_nodes.specs.declared.tree.Node.{Node}
use Rattle.of_nodes.specs.Components.{component, node_name}
use Rattle.of_nodes.specs.Names.{is_name}
use Rattle.of_cells.specs.declared.cells.Cell.{Cell}
use Rattle.of_nodes.specs.Nodes.{first_tree, method_added, method_taken_back, node_added, number_of, phandle_of}
use Rattle.of_nodes.specs.Nodes.{properties_in, property_deleted, tree_property_set}
use Rattle.of_nodes.specs.Paths.{component_in}
use Rattle.of_nodes.specs.Properties.{bytes_at, same_name}
use Rattle.of_nodes.specs.Stored.{AreStored}
use Rattle.of_console.specs.Children.{children_in, ls_text}
use Rattle.of_console.specs.Texts.{properties_text}
use Rattle.of_console.specs.Values.{all_shown, behind_name}

-- bytes that stand on one line: each is 0x20 to 0x7E
abbrev pub IsLine : List ℕ → Type 0
IsLine line = all_shown line ≡ true

-- lines one behind the other, each with a newline behind it
abbrev pub text_of : List (List ℕ) → List ℕ
text_of [] = []
text_of (line ∷ lines) = line ++ 10 ∷ text_of lines

-- a text has just these lines
pub record AreLines (text : List ℕ) (lines : List (List ℕ)) : Type 0 where
  pub text_is : text ≡ text_of lines
  pub each : AllByRecursion IsLine lines

-- the line of a property: its name, and its value behind it
abbrev pub property_line : DataSpace → List ℕ × Property → List ℕ
property_line m e = e.0 ++ behind_name (bytes_at m e.1.value)

-- the line of a child: its phandle in 8 digits, a space, and how it stands in a path
abbrev pub child_line : DataSpace → List Node → ℕ → List ℕ
child_line m ns k = encode_lower (bytes_high_first 4 (phandle_of k).0.0) ++ 32 ∷ component_in m ns k

-- a node's properties have names that a property may have, and so for each node
abbrev pub AreNames : List (List ℕ × Property) → Type 0
AreNames ps = AllByRecursion (λ e. is_name e.0 ≡ true) ps

abbrev pub AreNamed : List Node → Type 0
AreNamed ns = (i : ℕ) → AreNames (properties_in ns i)

-- Those of the first tree have, and so they have whatever is done with the tree.
pub record NamesStay : Type 0 where
  pub first : (m after : DataSpace) (ns : List Node) → first_tree m ≡ Ok (ns, after) → AreNamed ns
  pub by_node : (ns nodes : List Node) (above ph : Phandle) → AreNamed ns → node_added ns above ≡ Ok (ph, nodes)
      → AreNamed nodes
  pub by_set : (m after : DataSpace) (ns nodes : List Node) (ph : Phandle) (name value : List ℕ) → AreNamed ns
      → tree_property_set m ns ph name value ≡ Ok (nodes, after) → AreNamed nodes
  pub by_delete : (ns nodes : List Node) (ph : Phandle) (name : List ℕ) → AreNamed ns
      → property_deleted ns ph name ≡ Ok (tt, nodes) → AreNamed nodes
  pub by_method : (ns nodes : List Node) (ph : Phandle) (name : List ℕ) (xt : Cell) → AreNamed ns
      → method_added ns ph name xt ≡ Ok nodes → AreNamed nodes
  pub by_taking_back : (ns : List Node) (ph : Phandle) (name : List ℕ) (before : Option Cell) → AreNamed ns
      → AreNamed (method_taken_back ns ph name before)

-- What is printed of a node has a line for each entry, in order; of properties no two of one name, of children no two.
pub record ListingsAreLines : Type 0 where
  -- `.properties`, where the names are those that a property may have
  pub properties : (m : DataSpace) (ns : List Node) (ph : Phandle) (i : ℕ) (text : List ℕ) → IsSound m → AreStored m ns
      → number_of (length ns) ph ≡ Some i → AreNames (properties_in ns i)
      → properties_text m ns ph ≡ Ok text
      → AreLines text (map (property_line m) (properties_in ns i))
      × IsDistinct same_name (map (λ e. e.0) (properties_in ns i))
  -- `ls`, where the components are printable
  pub children : (m : DataSpace) (ns : List Node) (ph : Phandle) (i : ℕ) (text : List ℕ)
      → number_of (length ns) ph ≡ Some i → AllByRecursion (λ k. IsLine (component_in m ns k)) (children_in ns i)
      → ls_text m ns ph ≡ Ok text
      → AreLines text (map (child_line m ns) (children_in ns i)) × AllPairs (λ j k. j < k) (children_in ns i)
  -- which a component is that has a name that a node may have, or none
  pub component : (m : DataSpace) (above n : Node) → (is_name (node_name m n) ≡ true) ⊎ (node_name m n ≡ [])
      → IsLine (component m above n)
