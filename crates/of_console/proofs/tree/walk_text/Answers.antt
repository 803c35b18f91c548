use Rattle.std.proofs.Common.{rules, ◌≡◌, Some, subst, sym}
use Rattle.of_nodes.specs.declared.fault.NodeFault.{NodeFault}
use Rattle.of_nodes.specs.declared.fault.NodeFault.TheVariants.{NoMemory}
use Rattle.of_console.proofs.NodeTexts.{GoesOn, IsAt, begins, followed, goes_on, has_phandle, moves}
use Rattle.of_console.proofs.NodeTexts.{only_memory, smaller, stands}
use Rattle.of_console.proofs.tree.walk_text.Goals as goal

pub loop-left-init : goal.loop-left-init
loop-left-init c =
    subst (IsAt c.args.detail c.args.memory.now c.args.tree.now (Some 0)) (sym c.new-out.ensures.items)
    (begins c.args.detail c.args.memory.now c.args.tree.now c.after_runs.ensures c.node_count.ensures.nodes)

pub of-requires : goal.of-requires
of-requires c =
    let m = c.args.memory.now in
    let ns = c.args.tree.now in
    let nodes = c.node_count.ensures.nodes in
    has_phandle ns c.in-Some.number nodes
    (stands c.args.detail m ns c.in-Some.number c.loop-left.out.items c.after_runs.ensures nodes (search rules))

pub returns-in_err-push_node-clause-err : goal.returns-in_err-push_node-clause-err
returns-in_err-push_node-clause-err c =
    let m = c.args.memory.now in
    let ns = c.args.tree.now in
    let i = c.in-Some.number in
    let text = c.loop-left.out.items in
    let nodes = c.node_count.ensures.nodes in
    let goes : GoesOn c.args.detail m ns i text =
    goes_on c.args.detail m ns i text c.after_runs.ensures nodes (search rules) in
    let e : NodeFault = c.in_err-push_node.field-0.0 in
    let only : e ≡ NoMemory = only_memory c.args.detail m ns i text e goes (search rules) in
    search rules

pub index-left-requires : goal.index-left-requires
index-left-requires c =
    let m = c.args.memory.now in
    let ns = c.args.tree.now in
    let i = c.in-Some.number in
    let nodes = c.node_count.ensures.nodes in
    let here = stands c.args.detail m ns i c.loop-left.out.items c.after_runs.ensures nodes (search rules) in
    search rules

pub loop-left-smaller : goal.loop-left-smaller
loop-left-smaller c =
    let m = c.args.memory.now in
    let ns = c.args.tree.now in
    let i = c.in-Some.number in
    let text = c.loop-left.out.items in
    let nodes = c.node_count.ensures.nodes in
    let goes : GoesOn c.args.detail m ns i text =
    goes_on c.args.detail m ns i text c.after_runs.ensures nodes (search rules) in
    smaller c.args.detail m ns i text c.push_node.new.out.items goes (search rules)

pub loop-left-preserved : goal.loop-left-preserved
loop-left-preserved c =
    let m = c.args.memory.now in
    let ns = c.args.tree.now in
    let i = c.in-Some.number in
    let text = c.loop-left.out.items in
    let nodes = c.node_count.ensures.nodes in
    let goes : GoesOn c.args.detail m ns i text =
    goes_on c.args.detail m ns i text c.after_runs.ensures nodes (search rules) in
    moves c.args.detail m ns i c.index-left.result.now text c.push_node.new.out.items goes (search rules)
    (followed ns c.in_ok-next.next.items i c.index-left.result.now goes.here (search rules) (search rules))
