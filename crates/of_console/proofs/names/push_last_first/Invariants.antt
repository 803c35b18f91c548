use Rattle.std.proofs.Common.{◌≡◌, ◌++◌, length, map, reverse}
use Rattle.of_console.specs.Names.{names_shown}
use Rattle.of_console.proofs.names.push_last_first.Given as goal

-- what is appended, and what the names that are left give
abbrev pub invariant-loop-name : goal.invariant-loop-name
invariant-loop-name l =
    l.out.items ++ names_shown (reverse (map (λ name. name.now) l.left.items))
    ≡ l.initial.out.items ++ names_shown (reverse (map (λ name. name.now) l.initial.left.items))

abbrev pub decreases-loop-name : goal.decreases-loop-name
decreases-loop-name l = length l.left.items
