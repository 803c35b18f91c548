use Rattle.std.proofs.Common.{refl, ◌∙◌, arith}
use Rattle.std.proofs.lemmas.Grind.{common_steps}
use Rattle.of_nodes.proofs.NodesByPhandle.{written_at}
use Rattle.of_nodes.proofs.MethodsTakenBack.{undone}
use Rattle.of_nodes.proofs.tree.Tree.take_back_method.Goals as goal

pub invariant_of-self : goal.invariant_of-self
invariant_of-self c =
    written_at c.self.inside.nodes.items c.in-Ok.number c.index_mut-node.result.now _ c.self.invariant
    (rw c.self.view_is c.in-Ok.ensures.within) c.index_mut-node.ensures.value refl

pub returns-then-is_method_name-clause-value : goal.returns-then-is_method_name-clause-value
returns-then-is_method_name-clause-value c = grind (arith, common_steps)

pub returns-then-is_method_name-clause-undone : goal.returns-then-is_method_name-clause-undone
returns-then-is_method_name-clause-undone c = λ t xt found added.
    returns-then-is_method_name-clause-value c
    ∙ undone t c.args.self.now c.args.node c.args.name.now xt c.args.before found added
