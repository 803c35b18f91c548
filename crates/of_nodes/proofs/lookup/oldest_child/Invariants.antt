use Rattle.std.proofs.Common.{◌≡◌, drop}
use Rattle.of_nodes.specs.Lookup.{first, fitting}
use Rattle.of_nodes.proofs.lookup.oldest_child.Given as goal

abbrev pub invariant-loop-i : goal.invariant-loop-i
invariant-loop-i l =
    first (fitting l.memory l.count l.component l.parent l.i (drop l.i l.nodes))
    ≡ first (fitting l.memory l.count l.component l.parent 1 (drop 1 l.nodes))
