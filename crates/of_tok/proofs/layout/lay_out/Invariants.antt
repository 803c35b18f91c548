use Rattle.std.proofs.Common.{◌≡◌, length, map}
use Rattle.std.specs.List.{All}
use Rattle.of_source.specs.Encodable.{HasBytes}
use Rattle.of_tok.specs.Layout.{Placed, laid_end, laid_over}
use Rattle.of_tok.specs.Shown.{placed_shown}
use Rattle.of_tok.proofs.layout.lay_out.Given as goal

-- what is left in front of what is laid out gives all, and has bytes
abbrev pub invariant-loop-x : goal.invariant-loop-x
invariant-loop-x l =
    (laid_over (map placed_shown l.placed.items) l.laid
    ≡ laid_over (map placed_shown l.fn.placed.items) (laid_end l.fn.end))
    × All (λ (x : Placed). HasBytes x.item) (map placed_shown l.placed.items)

abbrev pub decreases-loop-x : goal.decreases-loop-x
decreases-loop-x l = length l.placed.items
