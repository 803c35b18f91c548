use Rattle.std.proofs.Common.{◌≡◌, ◌++◌, drop}
use Rattle.of_see.specs.SeeText.{elements_shown}
use Rattle.of_see.proofs.printing.push_elements.Given as goal

-- what is appended, and what the elements that are left give
abbrev pub invariant-loop-element : goal.invariant-loop-element
invariant-loop-element l =
    let shown = elements_shown l.names l.memory l.itself.0 in
    l.out.items ++ shown (drop l.element-index l.elements) ≡ l.initial.out.items ++ shown l.elements
