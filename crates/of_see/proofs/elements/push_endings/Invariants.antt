use Rattle.std.proofs.Common.{◌≡◌, ◌≤◌, ◌++◌, drop}
use Rattle.of_see.specs.SeeItems.{endings}
use Rattle.of_see.proofs.elements.push_endings.Given as goal

-- what is appended, and what the branches that are left give
abbrev pub invariant-loop-to : goal.invariant-loop-to
invariant-loop-to l = record {
  shown : l.out.items ++ endings l.place l.later (drop l.to-index l.branches)
      ≡ l.initial.out.items ++ endings l.place 0 l.branches;
  within : l.later ≤ l.to-index;
}
