use Rattle.std.proofs.Common.{rules, arith, ◌≡◌, ◌+◌, ◌<◌, length, sym, subst}
use Rattle.std.proofs.Common.{◌++◌, ◌∷◌, []}
use Rattle.of_console.specs.Links.{AreLinked, behind_of}
use Rattle.of_console.proofs.LinkLemmas.{AreDone, done_more}
use Rattle.of_console.proofs.links.next_nodes.Goals as goal

pub loop-number-preserved : goal.loop-number-preserved
loop-number-preserved c =
    let l = c.loop-number in
    let ns = c.args.tree.now in
    let here : l.number < length ns = search rules in
    let linked : AreLinked ns 1 c.in_ok-links.links.oldest.items c.in_ok-links.links.younger.items = search rules in
    let after : c.behind_all-after.result ≡ behind_of c.index.result.now c.above.result l.behind.items = search rules in
    let done = done_more ns l.number c.in_ok-links.links.oldest.items c.in_ok-links.links.younger.items l.behind.items
    l.next.items c.index.result.now c.above.result c.index-in-loop-number.result.now c.behind_all-after.result
    c.or.result c.node_count-number-end.ensures.nodes linked l.invariant.0 here c.above.ensures c.index.ensures after
    c.index-in-loop-number.ensures c.or.ensures in (
      subst (λ xs. AreDone ns (l.number + 1) xs c.push-in-loop-number.new.self.items) (sym c.in_ok-push.ensures.items)
          (subst (λ xs. AreDone ns (l.number + 1) (l.behind.items ++ c.behind_all-after.result ∷ []) xs)
          (sym c.in_ok-push-2.ensures.items) done),
      omega (arith, here),
    )
