use Rattle.std.proofs.Common.{◌≡◌, ◌+◌, ◌++◌, drop}
use Rattle.of_see.specs.SeeItems.{elements_from, see_items}
use Rattle.of_see.proofs.elements.see_items.Given as goal

-- what is appended, and what the cells that are left give
abbrev pub invariant-loop-index : goal.invariant-loop-index
invariant-loop-index l =
    l.out.items ++ elements_from l.first l.cells (l.first + l.index) (drop l.index l.cells) l.structures
    ≡ see_items l.first l.cells
