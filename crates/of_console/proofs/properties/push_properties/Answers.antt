use Rattle.std.proofs.Common.{rules, ℕ, ◌+◌, refl, ap, subst, sym}
use Rattle.std.specs.Global.{Vec}
use Rattle.of_console.proofs.Listed.{AreShown, no_more, one_more}
use Rattle.of_console.proofs.properties.push_properties.Goals as goal
use Rattle.of_console.proofs.properties.push_properties.Goals.{in-None, in-Some+in_ok-push_property-in-Some}

pub loop-place-preserved : goal.loop-place-preserved
loop-place-preserved c =
    let m = c.args.memory.now in
    let ns = c.args.tree.now in
    let place = c.loop-place.place in
    let count = c.in_ok-place-end.place-end in
    let before = c.args.out.now.items in
    let text = c.loop-place.out.items in
    let new = c.match-branch-3.out.items in
    elim c.match-branch-3.branch [
      | in-Some+in_ok-push_property-in-Some w ↦
          one_more m ns c.args.node place (place + 1) count before text new w.in-Some.property refl
          c.loop-place.invariant (search rules) (search rules)
      | in-None w ↦
          subst (λ t. AreShown m ns c.args.node (place + 1) count before t) (sym (ap (λ (o : Vec ℕ). o.items) w.out-is))
          (no_more m ns c.args.node place (place + 1) count before text refl c.loop-place.invariant (search rules))
    ]
