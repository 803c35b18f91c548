use Rattle.std.proofs.Common.{◌≡◌, ◌<◌, drop, length, None}
use Rattle.std.specs.Prelude.{IfSome}
use Rattle.of_nodes.specs.Lookup.{fitting, last_or}
use Rattle.of_nodes.proofs.lookup.newest_child.Given as goal

abbrev pub invariant-loop-i : goal.invariant-loop-i
invariant-loop-i l =
    (last_or l.found (fitting l.memory l.count l.component l.parent l.i (drop l.i l.nodes))
    ≡ last_or None (fitting l.memory l.count l.component l.parent 1 (drop 1 l.nodes)))
    × IfSome l.found (λ i. i < length l.nodes)
