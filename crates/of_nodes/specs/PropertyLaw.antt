-- What is found once a property was set, and once it was deleted (IEEE 1275-1994, annex A, `property`,
-- `delete-property`, `get-package-property` and `next-property`).
use Rattle.std.specs.Prelude.{ℕ, ◌+◌, ◌<◌, ◌≤◌, ◌≡◌, ◌≢◌, not, List, [], ◌∷◌, ◌++◌, length, map, filter, Some}
use Rattle.std.specs.Prelude.{None, Result, Ok}
use Rattle.std.specs.List.{IsDistinct}
use Rattle.of_memory.specs.Access.{read_bytes}
use Rattle.of_memory.specs.DataSpace.{DataSpace, IsSound}
use Rattle.of_memory.specs.Regions.{first_property}
use Rattle.of_nodes.specs.declared.tree.Node.{Node}
use Rattle.of_nodes.specs.declared.phandles.Phandle.{Phandle}
use Rattle.of_nodes.specs.declared.properties.Property.{Property}
use Rattle.of_nodes.specs.declared.properties.Span.{Span}
use Rattle.of_nodes.specs.declared.fault.NodeFault.{NodeFault}
use Rattle.of_nodes.specs.Nodes.{by_phandle, next_found, properties_in, property_deleted, property_found}
use Rattle.of_nodes.specs.Nodes.{tree_property_set}
use Rattle.of_nodes.specs.Properties.{same_name}

-- the names of the properties of the node with a phandle, in order
abbrev pub names_found : List Node → Phandle → Result (List (List ℕ)) NodeFault
names_found ns ph = by_phandle ns ph (λ i. Ok (map (λ e. e.0) (properties_in ns i)))

-- the data space has these bytes at a span
abbrev pub Holds : DataSpace → Span → List ℕ → Type 0
Holds m s xs = read_bytes m s.address.0 s.length.0 ≡ Ok xs

-- what setting a property to a value left
pub record IsSetTo (m after : DataSpace) (ns nodes : List Node) (ph : Phandle) (name value : List ℕ) : Type 0 where
  -- the name finds a property with the bytes of the value, and of the name where that is new
  pub property : Property
  pub found : property_found nodes ph name ≡ Ok (Some property)
  pub value_bytes : Holds after property.value value
  pub name_bytes : property_found ns ph name ≡ Ok None → Holds after property.name name
  pub name_place : (p : Property) → property_found ns ph name ≡ Ok (Some p) → property.name ≡ p.name
  -- each other name, and each name of another node, finds the property that it found
  pub others : (other : List ℕ) → other ≢ name → property_found nodes ph other ≡ property_found ns ph other
  pub elsewhere : (at : Phandle) (other : List ℕ) → at ≢ ph
      → property_found nodes at other ≡ property_found ns at other
  -- the names and values that were put before have their bytes
  pub stays : (a n : ℕ) → first_property ≤ a → a + n ≤ m.properties_end → read_bytes after a n ≡ read_bytes m a n
  -- a name that is there keeps its place, and a new one goes last
  pub keeps_place : (p : Property) → property_found ns ph name ≡ Ok (Some p) → names_found nodes ph ≡ names_found ns ph
  pub goes_last : (names : List (List ℕ)) → property_found ns ph name ≡ Ok None → names_found ns ph ≡ Ok names
      → names_found nodes ph ≡ Ok (names ++ name ∷ [])

-- what deleting the property of a name left of a node with these names
pub record IsWithout (ns nodes : List Node) (ph : Phandle) (name : List ℕ) (names : List (List ℕ)) : Type 0 where
  pub gone : property_found nodes ph name ≡ Ok None
  pub others : (other : List ℕ) → other ≢ name → property_found nodes ph other ≡ property_found ns ph other
  pub elsewhere : (at : Phandle) (other : List ℕ) → at ≢ ph
      → property_found nodes at other ≡ property_found ns at other
  pub order : names_found nodes ph ≡ Ok (filter (λ other. not (same_name name other)) names)

-- The empty name finds the first property, and each name the one behind its own.
pub record AreInOrder (ns : List Node) (ph : Phandle) : Type 0 where
  pub first : (name : List ℕ) (names : List (List ℕ)) → names_found ns ph ≡ Ok (name ∷ names)
      → next_found ns ph [] ≡ property_found ns ph name
  pub next : (before behind : List (List ℕ)) (name other : List ℕ)
      → names_found ns ph ≡ Ok (before ++ name ∷ other ∷ behind)
      → IsDistinct same_name (before ++ name ∷ other ∷ behind)
      → 0 < length name → next_found ns ph name ≡ property_found ns ph other
  pub last : (before : List (List ℕ)) (name : List ℕ)
      → names_found ns ph ≡ Ok (before ++ name ∷ []) → IsDistinct same_name (before ++ name ∷ [])
      → 0 < length name → next_found ns ph name ≡ Ok None

pub record PropertiesAreFound : Type 0 where
  pub set : (m after : DataSpace) (ns nodes : List Node) (ph : Phandle) (name value : List ℕ) → IsSound m
      → tree_property_set m ns ph name value ≡ Ok (nodes, after) → IsSetTo m after ns nodes ph name value
  pub deleted : (ns nodes : List Node) (ph : Phandle) (name : List ℕ) (names : List (List ℕ))
      → names_found ns ph ≡ Ok names → IsDistinct same_name names
      → property_deleted ns ph name ≡ Ok (tt, nodes) → IsWithout ns nodes ph name names
  pub in_order : (ns : List Node) (ph : Phandle) → AreInOrder ns ph
