use Rattle.std.proofs.Common.{◌≡◌, ◌++◌, replicate, None}
use Rattle.of_compile.specs.declared.element.Element.TheVariants.{Mark}
use Rattle.of_see.proofs.elements.push_begins.Given as goal

-- what is appended, and what is left
abbrev pub invariant-loop-left : goal.invariant-loop-left
invariant-loop-left l =
    l.out.items ++ replicate l.left (Mark None) ≡ l.initial.out.items ++ replicate l.count (Mark None)

abbrev pub decreases-loop-left : goal.decreases-loop-left
decreases-loop-left l = l.left
