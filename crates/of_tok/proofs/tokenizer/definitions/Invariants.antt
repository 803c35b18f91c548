use Rattle.std.proofs.Common.{◌≡◌, ◌+◌, ◌≤◌, drop, map}
use Rattle.of_source.specs.Encodable.{definitions}
use Rattle.of_source.specs.Items.{item_shown}
use Rattle.of_tok.proofs.tokenizer.definitions.Given as goal

-- what is counted, and what is left
abbrev pub invariant-loop-item : goal.invariant-loop-item
invariant-loop-item l =
    (l.count + definitions (map item_shown (drop l.item-index l.items)) ≡ definitions (map item_shown l.items))
    × (l.count ≤ l.item-index)
