use Rattle.std.proofs.Common.{◌≡◌, ◌<◌, drop, map}
use Rattle.of_source.specs.Items.{item_shown}
use Rattle.of_tok.specs.Image.{most_bytes}
use Rattle.of_tok.specs.Layout.{all_placed, front_at}
use Rattle.of_tok.proofs.placing.place_items.Given as goal

-- with places for what is left, all items have their places
abbrev pub invariant-loop-item : goal.invariant-loop-item
invariant-loop-item l =
    (all_placed (map item_shown (drop l.item-index l.items)) l.front
    ≡ all_placed (map item_shown l.items) (front_at l.fn.first_place))
    × (l.front.place.position < most_bytes)
