use Rattle.std.proofs.Common.{◌-◌, length}
use Rattle.of_console.specs.Children.{ls_text}
use Rattle.of_console.proofs.ChildLists.{IsListed, bytes_of}
use Rattle.of_console.proofs.children.ls_text.Given as goal

-- some children are shown, and the next of the others is at hand
abbrev pub invariant-loop-left : goal.invariant-loop-left
invariant-loop-left l = IsListed l.memory l.tree l.fn.node l.left l.out.items

abbrev pub decreases-loop-left : goal.decreases-loop-left
decreases-loop-left l = length (bytes_of (ls_text l.memory l.tree l.fn.node)) - length l.out.items
