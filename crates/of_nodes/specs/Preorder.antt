-- The tree in preorder.
use Rattle.std.specs.Prelude.{ℕ, ◌≡◌, List, [], ◌∷◌, ◌++◌, Some, None, Ok}
use Rattle.of_nodes.specs.declared.tree.Node.{Node}
use Rattle.of_nodes.specs.Nodes.{AreNodes, after_found, phandle_of}
use Rattle.of_nodes.specs.Tree.{Nobody, Sibling, Siblings, tree_of}

-- the numbers of some siblings, each before those of its children, and these before the younger siblings
abbrev pub numbers_of : Siblings → List ℕ
numbers_of Nobody = []
numbers_of (Sibling i properties methods children younger) = i ∷ (numbers_of children ++ numbers_of younger)

-- `after` goes from the root through the tree, from each node to the next, to the last.
pub record AfterRuns : Type 0 where
  pub first : (ns : List Node) → AreNodes ns → (xs : List ℕ) × (numbers_of (tree_of ns) ≡ 0 ∷ xs)
  pub next : (ns : List Node) (xs ys : List ℕ) (i j : ℕ) → AreNodes ns
      → numbers_of (tree_of ns) ≡ xs ++ i ∷ j ∷ ys → after_found ns (phandle_of i) ≡ Ok (Some (phandle_of j))
  pub last : (ns : List Node) (xs : List ℕ) (i : ℕ) → AreNodes ns
      → numbers_of (tree_of ns) ≡ xs ++ i ∷ [] → after_found ns (phandle_of i) ≡ Ok None
