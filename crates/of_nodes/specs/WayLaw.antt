-- Paths that lead up and down from a node.
use Rattle.std.specs.Prelude.{ℕ, ◌<◌, ◌≡◌, false, List, [], ◌∷◌, ◌++◌, length, Some, Ok, codes}
use Rattle.std.specs.List.{AllByRecursion}
use Rattle.of_memory.specs.DataSpace.{DataSpace}
use Rattle.of_nodes.specs.declared.tree.Node.{Node}
use Rattle.of_nodes.specs.declared.phandles.Phandle.{Phandle}
use Rattle.of_nodes.specs.Lookup.{found, way_found}
use Rattle.of_nodes.specs.Nodes.{AreNodes, parent_found, phandle_of}
use Rattle.of_nodes.specs.Properties.{same_name}
use Rattle.of_nodes.specs.Texts.{components}

-- What `find_from` finds.
pub record WaysLead : Type 0 where
  -- the empty path leads to the node itself, and `..` to the node above it
  pub here : (m : DataSpace) (ns : List Node) (i : ℕ) → AreNodes ns → i < length ns
      → way_found m ns (phandle_of i) [] ≡ Ok (Some (phandle_of i))
  pub up : (m : DataSpace) (ns : List Node) (ph : Phandle) → way_found m ns ph (codes "..") ≡ parent_found ns ph
  -- a path leads on from where its first part leads to
  pub on : (m : DataSpace) (ns : List Node) (ph : Phandle) (i b c : ℕ) (xs ys : List ℕ) → AreNodes ns → i < length ns
      → way_found m ns ph (b ∷ xs) ≡ Ok (Some (phandle_of i))
      → way_found m ns ph ((b ∷ xs) ++ 47 ∷ c ∷ ys) ≡ way_found m ns (phandle_of i) (c ∷ ys)
  -- from the root on a path without `..` leads to what it finds behind a slash
  pub down : (m : DataSpace) (ns : List Node) (text : List ℕ) → AreNodes ns
      → AllByRecursion (λ c. same_name c (codes "..") ≡ false) (components text)
      → way_found m ns (phandle_of 0) text ≡ Ok (found m ns (47 ∷ text))
