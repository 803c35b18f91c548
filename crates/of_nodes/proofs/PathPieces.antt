-- The pieces of a node's path.
use Rattle.std.proofs.Common.{◌≡◌, ℕ, ◌<◌, ◌-◌, suc, zero, List, [], ◌∷◌, ◌++◌, arith, refl, ◌∙◌}
use Rattle.std.proofs.Common.{append_assoc, ◌==◌, false}
use Rattle.std.proofs.lemmas.Bool.Decides.{nat_tests}
use Rattle.of_memory.specs.DataSpace.{DataSpace}
use Rattle.of_nodes.specs.declared.tree.Node.{Node}
use Rattle.of_nodes.specs.Nodes.{parent_in}
use Rattle.of_nodes.specs.Paths.{component_in, components_to}

pub nonzero : (i : ℕ) → 0 < i → (i == 0) ≡ false
nonzero i h = grind (arith, nat_tests)

-- a path that ends is that of the node above and one more component
pub path_on :
    (m : DataSpace) (ns : List Node) (k i : ℕ) (xs : List ℕ) → 0 < k → 0 < i
    → ((xs ++ components_to m ns (k - 1) (parent_in ns i)) ++ 47 ∷ []) ++ component_in m ns i
    ≡ xs ++ components_to m ns k i
path_on m ns zero i xs a b = absurd (omega (arith, a))
path_on m ns (suc k) i xs a b =
    let c = components_to m ns k (parent_in ns i) in
    let less : suc k - 1 ≡ k = omega arith in
    rw (less, nonzero i b)
    (append_assoc (xs ++ c) (47 ∷ []) (component_in m ns i) ∙ append_assoc xs c (47 ∷ component_in m ns i))

pub path_here : (m : DataSpace) (ns : List Node) (k : ℕ) → components_to m ns k 0 ≡ []
path_here m ns zero = refl
path_here m ns (suc k) = refl

pub ruleset paths = (path_on, path_here)
