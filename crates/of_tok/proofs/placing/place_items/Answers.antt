use Rattle.std.proofs.Common.{rules, ap, sym, subst, ◌∙◌}
use Rattle.of_source.specs.declared.item.Item.{Item}
use Rattle.of_source.specs.Encodable.{HasBytes}
use Rattle.of_source.specs.Items.{item_shown}
use Rattle.of_tok.specs.Image.{most_bytes}
use Rattle.of_tok.specs.Layout.{Front}
use Rattle.of_tok.proofs.PlaceLemmas.{done, beyond_next}
use Rattle.of_tok.proofs.placing.place_items.Goals as goal

pub put-requires-clause-bytes : goal.put-requires-clause-bytes
put-requires-clause-bytes c =
    subst (λ (x : Item). HasBytes (item_shown x)) (sym c.item-item.is)
    (c.requires.bytes c.loop-item.item-index c.item-item.result c.loop-item-test.true)

pub returns-then-front-ge-MOST_BYTES-clause-fault : goal.returns-then-front-ge-MOST_BYTES-clause-fault
returns-then-front-ge-MOST_BYTES-clause-fault c =
    beyond_next c.args.items.now c.loop-item.item-index c.item-item.result c.loop-item.front c.put.new.self
    c.args.first_place most_bytes c.loop-item-test.true c.item-item.is c.in_ok-put.ensures c.loop-item.invariant.0
    (search rules)

pub returns-clause-items : goal.returns-clause-items
returns-clause-items c =
    ap (λ (f : Front). f.placed) c.front-2.view_is
    ∙ (done c.args.items.now c.loop-item.item-index c.loop-item.front c.args.first_place c.loop-item-test.false
    c.loop-item.invariant.0).0

pub returns-clause-end : goal.returns-clause-end
returns-clause-end c =
    ap (λ (f : Front). f.place) c.front-2.view_is
    ∙ (done c.args.items.now c.loop-item.item-index c.loop-item.front c.args.first_place c.loop-item-test.false
    c.loop-item.invariant.0).1
