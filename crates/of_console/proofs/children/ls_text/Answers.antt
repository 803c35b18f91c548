use Rattle.std.proofs.Common.{rules, ◌≡◌}
use Rattle.of_nodes.specs.declared.fault.NodeFault.{NodeFault}
use Rattle.of_nodes.specs.declared.fault.NodeFault.TheVariants.{NoMemory}
use Rattle.of_console.proofs.ChildLists.{GoesOn, all_are, goes_on, moves, only_memory, smaller}
use Rattle.of_console.proofs.children.ls_text.Goals as goal

pub returns-in_err-push_child-clause-err : goal.returns-in_err-push_child-clause-err
returns-in_err-push_child-clause-err c =
    let m = c.args.memory.now in
    let ns = c.args.tree.now in
    let child = c.in-Some.child in
    let text = c.loop-left.out.items in
    let goes : GoesOn m ns c.args.node child text = goes_on m ns c.args.node child text (search rules) in
    let e : NodeFault = c.in_err-push_child.field-0.0 in
    let only : e ≡ NoMemory = only_memory m ns c.args.node child text e goes c.in_err-push_child.ensures.err in
    search rules

pub loop-left-smaller : goal.loop-left-smaller
loop-left-smaller c =
    let m = c.args.memory.now in
    let ns = c.args.tree.now in
    let child = c.in-Some.child in
    let text = c.loop-left.out.items in
    let goes : GoesOn m ns c.args.node child text = goes_on m ns c.args.node child text (search rules) in
    smaller m ns c.args.node child text c.push_child.new.out.items goes c.in_ok-push_child.ensures.ok

pub loop-left-preserved : goal.loop-left-preserved
loop-left-preserved c =
    let m = c.args.memory.now in
    let ns = c.args.tree.now in
    let child = c.in-Some.child in
    let text = c.loop-left.out.items in
    let goes : GoesOn m ns c.args.node child text = goes_on m ns c.args.node child text (search rules) in
    moves m ns c.args.node child c.in_ok-left-2.left text c.push_child.new.out.items goes
    c.in_ok-push_child.ensures.ok (search rules)

pub returns-clause-ok : goal.returns-clause-ok
returns-clause-ok c = all_are c.args.memory.now c.args.tree.now c.args.node c.loop-left.out.items (search rules)
