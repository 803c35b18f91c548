use Rattle.std.proofs.Common.{refl, arith}
use Rattle.std.proofs.lemmas.Grind.{common_steps}
use Rattle.of_nodes.proofs.NodesByPhandle.{written_at}
use Rattle.of_nodes.proofs.tree.Tree.add_method.Goals as goal

pub invariant_of-self : goal.invariant_of-self
invariant_of-self c =
    written_at c.self.inside.nodes.items c.in_ok-number.number c.index_mut-node.result.now _ c.self.invariant
    (rw c.self.view_is c.in_ok-number.ensures.within) c.index_mut-node.ensures.value refl

pub returns : goal.returns
returns c = grind (arith, common_steps)
