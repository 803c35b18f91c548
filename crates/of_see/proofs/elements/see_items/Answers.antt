use Rattle.std.proofs.Common.{◌≡◌, ◌+◌, ◌<◌, ◌∙◌, ap, length, drop, get_or, None}
use Rattle.std.proofs.lemmas.List.{drop_more}
use Rattle.of_see.specs.SeeItems.{begins, see_items}
use Rattle.of_see.proofs.BeginCounts.{begins_at}
use Rattle.of_see.proofs.CellByCell.{goes_on}
use Rattle.of_see.proofs.elements.see_items.Goals as goal

pub loop-index-preserved : goal.loop-index-preserved
loop-index-preserved c =
    let first = c.args.first in
    let all = c.args.cells.now in
    let k = c.loop-index.index in
    let less : k < length all = c.loop-index-test.true in
    let counted : c.index.result.now ≡ begins (first + k) (drop k all) =
    c.index.ensures ∙ ap (λ xs. get_or xs k c.index.result.now) c.in_ok-counts.ensures
    ∙ begins_at first k all c.index.result.now less in
    goes_on first k all (get_or all k None) c.index.result.now c.loop-index.structures c.pass.new.self
    c.loop-index.out.items c.push_cell.new.out.items (see_items first all) (drop_more all k None less) counted
    c.in_ok-push_cell.ensures c.in_ok-pass.ensures c.loop-index.invariant
