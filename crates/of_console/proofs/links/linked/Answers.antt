use Rattle.std.proofs.Common.{rules, arith, ◌<◌, ◌≤◌, length}
use Rattle.of_console.proofs.LinkLemmas.{turned}
use Rattle.of_console.proofs.links.linked.Goals as goal

pub loop-number-preserved-in-Some : goal.loop-number-preserved-in-Some
loop-number-preserved-in-Some c =
    let l = c.loop-number in
    let more : 1 < l.number = search rules in
    let most : l.number ≤ length c.args.tree.now = l.invariant.2 in (
      turned c.args.tree.now l.number c.in-Some.parent l.oldest.items l.younger.items c.index.result.now
          c.node_count-count.ensures.nodes l.invariant.0 more l.invariant.2 c.in-Some.ensures c.index.ensures,
      omega (arith, more),
      omega (arith, most),
    )
