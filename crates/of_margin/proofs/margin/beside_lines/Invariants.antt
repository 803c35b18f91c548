use Rattle.std.proofs.Common.{◌≡◌, ◌≤◌, ◌++◌, drop}
use Rattle.of_source.specs.Places.{line_at}
use Rattle.of_margin.specs.Margin.{with_margin}
use Rattle.of_margin.proofs.margin.beside_lines.Given as goal

abbrev pub invariant-loop-byte : goal.invariant-loop-byte
invariant-loop-byte l =
    (l.beside.line ≡ line_at l.text l.beside.at)
    × (l.column ≤ l.byte-index)
    × (l.out.items
    ++ with_margin l.text l.beside.above l.column l.beside.places.now (drop l.byte-index l.listing)
    ≡ with_margin l.text 0 0 l.places l.listing)
