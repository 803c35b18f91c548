use Rattle.std.proofs.Common.{◌-◌, length}
use Rattle.of_console.specs.Texts.{walk_text}
use Rattle.of_console.proofs.NodeTexts.{IsAt}
use Rattle.of_console.proofs.tree.walk_text.Given as goal

-- some nodes are shown, and the next of the others is at hand
abbrev pub invariant-loop-left : goal.invariant-loop-left
invariant-loop-left l = IsAt l.detail l.memory l.tree l.left l.out.items

abbrev pub decreases-loop-left : goal.decreases-loop-left
decreases-loop-left l = length (walk_text l.detail l.memory l.tree) - length l.out.items
