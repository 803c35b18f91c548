use Rattle.std.proofs.Common.{◌≡◌, ◌≤◌, ◌*◌, length}
use Rattle.of_nodes.specs.Components.{address_text}
use Rattle.of_nodes.proofs.components.address_text.Given as goal

abbrev pub invariant-loop-i : goal.invariant-loop-i
invariant-loop-i l = (l.text.items ≡ address_text l.bytes l.i) × (length l.text.items ≤ 33 * l.i)
