use Rattle.std.proofs.Common.{◌≡◌, ◌+◌, ◌-◌, ◌*◌, ◌++◌, drop}
use Rattle.std.specs.List.{flat_map}
use Rattle.of_detok.specs.Listing.{line_text, trailing, trailing_from}
use Rattle.of_detok.proofs.lister.write_trailing.Given as goal

abbrev pub invariant-loop-k : goal.invariant-loop-k
invariant-loop-k l =
    l.out.items ++ flat_map line_text (trailing (l.count - l.k) (l.position + 16 * l.k)
    (drop (l.position + 16 * l.k) l.image))
    ≡ l.fn.out.items ++ flat_map line_text (trailing_from l.image l.position)
