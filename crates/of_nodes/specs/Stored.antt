-- What the properties of a tree have in the data space (IEEE 1275-1994, 3.2.2.1).
use Rattle.std.specs.Prelude.{ℕ, ◌+◌, ◌≤◌, ◌≡◌, List, map, Option, Some, Ok}
use Rattle.std.specs.List.{IsDistinct}
use Rattle.of_cells.specs.declared.cells.Cell.{Cell}
use Rattle.of_memory.specs.DataSpace.{DataSpace, IsSound}
use Rattle.of_memory.specs.PropertyRegion.{KeepsProperties}
use Rattle.of_memory.specs.Regions.{first_property}
use Rattle.of_nodes.specs.declared.tree.Node.{Node}
use Rattle.of_nodes.specs.declared.phandles.Phandle.{Phandle}
use Rattle.of_nodes.specs.declared.properties.Property.{Property}
use Rattle.of_nodes.specs.declared.properties.Span.{Span}
use Rattle.of_nodes.specs.Nodes.{first_tree, method_added, method_taken_back, node_added, properties_in}
use Rattle.of_nodes.specs.Nodes.{property_deleted, property_found, tree_property_set}
use Rattle.of_nodes.specs.Properties.{same_name, value_in}
use Rattle.of_nodes.specs.PropertyLaw.{Holds}

-- a span lies in the property region, below the end of the latest property
pub record LiesIn (m : DataSpace) (s : Span) : Type 0 where
  pub from : first_property ≤ s.address.0
  pub to : s.address.0 + s.length.0 ≤ m.properties_end

-- a property of a name has the bytes of the name and some bytes as its value
pub record IsHeld (m : DataSpace) (name : List ℕ) (p : Property) : Type 0 where
  pub name_bytes : Holds m p.name name
  pub value : List ℕ
  pub value_bytes : Holds m p.value value
  pub name_lies : LiesIn m p.name
  pub value_lies : LiesIn m p.value

-- so for each of a node's properties, no two of which have one name
pub record AreHeld (m : DataSpace) (ps : List (List ℕ × Property)) : Type 0 where
  pub held : (name : List ℕ) (p : Property) → value_in ps name ≡ Some p → IsHeld m name p
  pub distinct : IsDistinct same_name (map (λ e. e.0) ps)

-- and for each node
abbrev pub AreStored : DataSpace → List Node → Type 0
AreStored m ns = (i : ℕ) → AreHeld m (properties_in ns i)

-- The properties of the first tree are stored, and stay so whatever is done with tree and data space.
pub record StoredStays : Type 0 where
  pub first : (m after : DataSpace) (ns : List Node) → IsSound m → first_tree m ≡ Ok (ns, after) → AreStored after ns
  -- each call that changes the tree
  pub by_node : (m : DataSpace) (ns nodes : List Node) (parent ph : Phandle) → AreStored m ns
      → node_added ns parent ≡ Ok (ph, nodes) → AreStored m nodes
  pub by_set : (m after : DataSpace) (ns nodes : List Node) (ph : Phandle) (name value : List ℕ) → IsSound m
      → AreStored m ns → tree_property_set m ns ph name value ≡ Ok (nodes, after) → AreStored after nodes
  pub by_delete : (m : DataSpace) (ns nodes : List Node) (ph : Phandle) (name : List ℕ) → AreStored m ns
      → property_deleted ns ph name ≡ Ok (tt, nodes) → AreStored m nodes
  pub by_method : (m : DataSpace) (ns nodes : List Node) (ph : Phandle) (name : List ℕ) (xt : Cell) → AreStored m ns
      → method_added ns ph name xt ≡ Ok nodes → AreStored m nodes
  pub by_taking_back : (m : DataSpace) (ns : List Node) (ph : Phandle) (name : List ℕ) (before : Option Cell)
      → AreStored m ns → AreStored m (method_taken_back ns ph name before)
  -- each call of the data space, which keeps the property region
  pub by_others : (m after : DataSpace) (ns : List Node) → IsSound m → KeepsProperties m after → AreStored m ns
      → AreStored after ns
  -- what a name finds is held
  pub found : (m : DataSpace) (ns : List Node) (ph : Phandle) (name : List ℕ) (p : Property) → AreStored m ns
      → property_found ns ph name ≡ Ok (Some p) → IsHeld m name p
