use Rattle.std.proofs.Common.{◌≤◌, length}
use Rattle.of_console.specs.Links.{AreLinked}
use Rattle.of_console.proofs.links.linked.Given as goal

-- the nodes from the number on are linked
abbrev pub invariant-loop-number : goal.invariant-loop-number
invariant-loop-number l =
    AreLinked l.tree l.number l.oldest.items l.younger.items × (1 ≤ l.number) × (l.number ≤ length l.tree)

abbrev pub decreases-loop-number : goal.decreases-loop-number
decreases-loop-number l = l.number
