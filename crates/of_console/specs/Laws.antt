-- What the texts say of values, of properties and of children (IEEE 1275-1994, 7.4.11).
use Rattle.std.specs.Prelude.{ℕ, ◌≡◌, ◌<◌, Bool, true, false, nat_eq, not, List, [], ◌∷◌, ◌++◌, length, Some}
use Rattle.std.specs.Prelude.{Ok, codes}
use Rattle.std.specs.List.{AllPairs, Contains, filter}
use Rattle.hex.specs.Hex.{IsBytes, decode_of}
use Rattle.of_memory.specs.DataSpace.{DataSpace}
use Rattle.of_nodes.specs.declared.phandles.Phandle.{Phandle}
use Rattle.of_nodes.specs.declared.properties.Property.{Property}
use Rattle.of_nodes.specs.declared.tree.Node.{Node}
use Rattle.of_nodes.specs.Nodes.{number_of, parent_in, properties_in}
use Rattle.of_nodes.specs.Properties.{bytes_at}
use Rattle.of_nodes.specs.Stored.{AreStored}
use Rattle.of_console.specs.Children.{children_in}
use Rattle.of_console.specs.Texts.{properties_text}
use Rattle.of_console.specs.Values.{all_shown, behind_name, is_text, value_shown}

-- whether a byte is no space
abbrev pub is_solid : ℕ → Bool
is_solid b = not (nat_eq b 32)

-- A text stands between quotes as it is. What is no text stands in digits that say its bytes, once spaces are left out.
pub record ValuesAreShown : Type 0 where
  pub text : (t : List ℕ) → 0 < length t → all_shown t ≡ true → value_shown (t ++ 0 ∷ []) ≡ 34 ∷ t ++ 34 ∷ []
  pub digits : (v : List ℕ) → IsBytes v → is_text v ≡ false → decode_of (filter is_solid (value_shown v)) ≡ Ok v
  pub zero : value_shown (0 ∷ []) ≡ codes "00"

-- a line for each entry: its name, and its value
abbrev pub entries_shown : DataSpace → List (List ℕ × Property) → List ℕ
entries_shown m [] = []
entries_shown m (e ∷ es) = e.0 ++ behind_name (bytes_at m e.1.value) ++ 10 ∷ entries_shown m es

-- The properties of a node stand in their order, each once and under its name.
pub record PropertiesAreListed : Type 0 where
  pub listed : (m : DataSpace) (ns : List Node) (ph : Phandle) (i : ℕ) → AreStored m ns
      → number_of (length ns) ph ≡ Some i → properties_text m ns ph ≡ Ok (entries_shown m (properties_in ns i))

-- The children of a node are the nodes but the root that have it as the node above them, each once, the oldest first.
pub record ChildrenAreListed : Type 0 where
  pub each : (ns : List Node) (i k : ℕ) → 0 < k → k < length ns → parent_in ns k ≡ i → Contains (children_in ns i) k
  pub only : (ns : List Node) (i k : ℕ) → Contains (children_in ns i) k
      → (0 < k) × (k < length ns) × (parent_in ns k ≡ i)
  pub order : (ns : List Node) (i : ℕ) → AllPairs (λ j k. j < k) (children_in ns i)
