-- A node by its phandle, and one that was read and written.
use Rattle.std.proofs.Common.{◌≡◌, ℕ, ◌<◌, List, length, get_or, set, Option, Some, None, Result, Ok, Err, refl, ap}
use Rattle.std.proofs.Common.{◌∙◌}
use Rattle.of_nodes.specs.declared.tree.Node.{Node}
use Rattle.of_nodes.specs.declared.phandles.Phandle.{Phandle}
use Rattle.of_nodes.specs.declared.fault.NodeFault.{NodeFault}
use Rattle.of_nodes.specs.declared.fault.NodeFault.TheVariants.{NoNode}
use Rattle.of_nodes.specs.Nodes.{AreNodes, by_phandle, number_of, numbered}
use Rattle.of_nodes.proofs.NodeLists.{changed, node_read}

-- what there is by the phandle of node i
pub by_number : {A : Type 0} (ns : List Node) (ph : Phandle) (i : ℕ) (f : ℕ → Result A NodeFault)
    → number_of (length ns) ph ≡ Some i → by_phandle ns ph f ≡ f i
by_number ns ph i f e = ap (λ (o : Option ℕ). numbered o f) e

pub never : {A : Type 0} (fault : NodeFault) (x : A) → ◌≡◌ {A = Result A NodeFault} (Err fault) (Ok x) → ⊥
never fault x e = cc

pub ok_is : {A : Type 0} (x y : A) → ◌≡◌ {A = Result A NodeFault} (Ok x) (Ok y) → x ≡ y
ok_is x y e = cc

-- only a node has something
pub numbered_is : {A : Type 0} (o : Option ℕ) (f : ℕ → Result A NodeFault) (x : A) → numbered o f ≡ Ok x
    → (i : ℕ) × (o ≡ Some i) × (f i ≡ Ok x)
numbered_is None f x e = absurd (never NoNode x e)
numbered_is (Some i) f x e = (i, refl, e)

-- what was written there
pub written_at : (ns : List Node) (i : ℕ) (m n : Node) → AreNodes ns → i < length ns → m ≡ get_or ns i m
    → n.parent ≡ m.parent → AreNodes (set ns i n)
written_at ns i m n h l read e = changed ns i n h (e ∙ ap (λ (x : Node). x.parent) (node_read ns i m l read))
