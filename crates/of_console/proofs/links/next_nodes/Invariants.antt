use Rattle.std.proofs.Common.{◌≤◌, length}
use Rattle.of_console.proofs.LinkLemmas.{AreDone}
use Rattle.of_console.proofs.links.next_nodes.Given as goal

-- the nodes before the number are done
abbrev pub invariant-loop-number : goal.invariant-loop-number
invariant-loop-number l = AreDone l.tree l.number l.behind.items l.next.items × (l.number ≤ length l.tree)
