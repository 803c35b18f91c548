use Rattle.std.proofs.Common.{◌≡◌, [], length, map, reverse}
use Rattle.of_tok.specs.Image.{AreWritable, written_behind}
use Rattle.of_tok.specs.Shown.{written_shown}
use Rattle.of_tok.proofs.writing.write_tokens.Given as goal

-- what is left behind what is written gives all
abbrev pub invariant-loop-token : goal.invariant-loop-token
invariant-loop-token l =
    (written_behind l.out.items (reverse (map written_shown l.tokens.items))
    ≡ written_behind [] (reverse (map written_shown l.fn.tokens.items)))
    × AreWritable (reverse (map written_shown l.tokens.items))

abbrev pub decreases-loop-token : goal.decreases-loop-token
decreases-loop-token l = length l.tokens.items
