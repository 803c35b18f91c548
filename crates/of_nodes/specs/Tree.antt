-- The device tree as what it is: nodes with properties, methods and children (IEEE 1275-1994, 3.2.1).
use Rattle.std.specs.Prelude.{ℕ, suc, ◌≡◌, ◌<◌, ◌==◌, ◌⊎◌, List, [], ◌∷◌, length, Option, Some, None, Ok}
use Rattle.std.specs.Prelude.{if◌then◌else◌}
use Rattle.of_cells.specs.declared.cells.Cell.{Cell}
use Rattle.of_nodes.specs.declared.properties.Property.{Property}
use Rattle.of_nodes.specs.declared.tree.Node.{Node}
use Rattle.of_nodes.specs.Nodes.{AreNodes, child_found, methods_in, parent_found, peer_found, phandle_in, phandle_of}
use Rattle.of_nodes.specs.Nodes.{properties_in}

-- Siblings in the order of making, each with its number, its properties, its methods and its children, and the
-- younger ones behind it.
pub data Siblings : Type 0 where
  Nobody : Siblings
  Sibling : ℕ → List (List ℕ × Property) → List (List ℕ × Cell) → Siblings → Siblings → Siblings

-- those of some nodes, numbered from i on, that have the parent p; a node's children are younger than it
abbrev pub below : ℕ → ℕ → List Node → Siblings
below p i [] = Nobody
below p i (n ∷ ns) =
    if n.parent == p then Sibling i n.properties n.methods (below i (suc i) ns) (below p (suc i) ns)
    else below p (suc i) ns

-- the root, which has no siblings
abbrev pub tree_of : List Node → Siblings
tree_of [] = Nobody
tree_of (n ∷ ns) = Sibling 0 n.properties n.methods (below 0 1 ns) Nobody

-- the oldest of them
abbrev pub oldest : Siblings → Option ℕ
oldest Nobody = None
oldest (Sibling i properties methods children younger) = Some i

-- what the calls say of node i is what the tree says
pub record IsShown (ns : List Node) (above : Option ℕ) (i : ℕ) (properties : List (List ℕ × Property))
    (methods : List (List ℕ × Cell)) (children younger : Siblings) : Type 0 where
  pub parent : parent_found ns (phandle_of i) ≡ Ok (phandle_in above)
  pub child : child_found ns (phandle_of i) ≡ Ok (phandle_in (oldest children))
  pub peer : peer_found ns (phandle_of i) ≡ Ok (phandle_in (oldest younger))
  pub same_properties : properties ≡ properties_in ns i
  pub same_methods : methods ≡ methods_in ns i

-- so for each of some siblings and all that is below them
abbrev pub AreShown : List Node → Option ℕ → Siblings → Type 0
AreShown ns above Nobody = Unit {0}
AreShown ns above (Sibling i properties methods children younger) =
    IsShown ns above i properties methods children younger × AreShown ns (Some i) children × AreShown ns above younger

-- node i is one of some siblings, or below one
abbrev pub Stands : ℕ → Siblings → Type 0
Stands i Nobody = ⊥
Stands i (Sibling j properties methods children younger) = (i ≡ j) ⊎ Stands i children ⊎ Stands i younger

-- Each node stands in the tree, and `parent`, `child` and `peer` give the node round it, the first of its children
-- and the sibling behind it.
pub record TreeIsShown : Type 0 where
  pub whole : (ns : List Node) (i : ℕ) → AreNodes ns → i < length ns → Stands i (tree_of ns)
  pub shown : (ns : List Node) → AreNodes ns → AreShown ns None (tree_of ns)
