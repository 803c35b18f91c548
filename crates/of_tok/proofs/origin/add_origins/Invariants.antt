use Rattle.std.proofs.Common.{◌≡◌, ◌++◌, length, map}
use Rattle.of_source.specs.Items.{item_shown}
use Rattle.of_tok.specs.Origins.{origins}
use Rattle.of_tok.proofs.origin.add_origins.Given as goal

abbrev pub invariant-loop-items : goal.invariant-loop-items
invariant-loop-items l = l.found.items ++ origins (map item_shown l.items) l.places
    ≡ l.fn.found.items ++ origins (map item_shown l.initial.items) l.initial.places

abbrev pub decreases-loop-items : goal.decreases-loop-items
decreases-loop-items l = length l.items
