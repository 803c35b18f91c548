use Rattle.std.proofs.Common.{arith, ◌<◌, ◌≤◌, length, subst, sym}
use Rattle.std.specs.Prelude.{IfSome, slice_index}
use Rattle.of_code.specs.Items.{capacity}
use Rattle.of_see.proofs.BeginCounts.{all_counted, none_left, room}
use Rattle.of_see.proofs.begins.all_begins.Goals as goal

pub count_one-requires : goal.count_one-requires
count_one-requires c =
    let cells = c.args.cells.now in
    let few : length cells ≤ capacity = omega (arith, c.requires) in
    subst (λ xs. IfSome c.gone_back.result (λ i. (i < length xs) × (slice_index xs i ≤ capacity)))
    (sym c.deref_mut.ensures.value)
    (room c.args.first c.loop-index.index c.loop-index.counts.items cells c.gone_back.result
    c.loop-index.invariant.size few c.loop-index-test.true c.gone_back.ensures.back c.loop-index.invariant.told)

pub returns : goal.returns
returns c =
    let cells = c.args.cells.now in
    let k = c.loop-index.index in
    let first = c.args.first in
    let counts = c.loop-index.counts.items in
    let past : length cells ≤ k = omega (arith, c.loop-index-test.false) in
    all_counted first cells counts c.loop-index.invariant.size (λ q.
    let none = none_left first q k cells past in
    let told = c.loop-index.invariant.told q in
    omega (arith, none, told))
