-- What the services say of properties: a value that was set is got back whole or in part, and `nextprop` goes from each
-- name of a node to the next, from the first to the last (IEEE 1275-1994, 6.3.2.2).
use Rattle.std.specs.Prelude.{ℕ, ◌≡◌, ◌<◌, List, [], ◌∷◌, ◌++◌, length, take, Ok}
use Rattle.of_cells.specs.Numbers.{cell}
use Rattle.of_memory.specs.DataSpace.{DataSpace, IsSound}
use Rattle.of_nodes.specs.declared.phandles.Phandle.{Phandle}
use Rattle.of_nodes.specs.declared.tree.Node.{Node}
use Rattle.of_nodes.specs.Nodes.{property_found, tree_property_set}
use Rattle.of_nodes.specs.PropertyLaw.{names_found}
use Rattle.of_nodes.specs.Stored.{AreStored}
use Rattle.of_client.specs.Services.{next_name, number, value_bytes, value_length}

-- what was set is got: its length, and its first bytes
pub record ValuesAreGot : Type 0 where
  pub whole : (m after : DataSpace) (ns nodes : List Node) (ph : Phandle) (name value : List ℕ) → IsSound m
      → IsSound after → tree_property_set m ns ph name value ≡ Ok (nodes, after)
      → value_length (property_found nodes ph name) ≡ number (length value)
  pub part : (m after : DataSpace) (ns nodes : List Node) (ph : Phandle) (name value : List ℕ) (room : ℕ) → IsSound m
      → IsSound after → tree_property_set m ns ph name value ≡ Ok (nodes, after)
      → value_bytes after room (property_found nodes ph name) ≡ (cell (length value), take room value)

-- from the empty name to the first, from each name to the next, and from the last to none
pub record NamesAreMet : Type 0 where
  pub none : (m : DataSpace) (ns : List Node) (ph : Phandle) → names_found ns ph ≡ Ok []
      → next_name m ns ph [] ≡ number 0
  pub first : (m : DataSpace) (ns : List Node) (ph : Phandle) (name : List ℕ) (names : List (List ℕ)) → AreStored m ns
      → names_found ns ph ≡ Ok (name ∷ names) → next_name m ns ph [] ≡ (cell 1, name)
  pub next : (m : DataSpace) (ns : List Node) (ph : Phandle) (before behind : List (List ℕ)) (name other : List ℕ)
      → 0 < length name → AreStored m ns → names_found ns ph ≡ Ok (before ++ name ∷ other ∷ behind)
      → next_name m ns ph name ≡ (cell 1, other)
  pub last : (m : DataSpace) (ns : List Node) (ph : Phandle) (before : List (List ℕ)) (name : List ℕ)
      → 0 < length name → AreStored m ns → names_found ns ph ≡ Ok (before ++ name ∷ [])
      → next_name m ns ph name ≡ number 0
