use Rattle.std.proofs.Common.{◌≡◌, ◌++◌, length}
use Rattle.of_console.specs.Values.{grouped}
use Rattle.of_console.proofs.values.push_grouped.Given as goal

-- what is appended, and what the bytes that are left give
abbrev pub invariant-loop-rest : goal.invariant-loop-rest
invariant-loop-rest l = l.out.items ++ grouped l.rest ≡ l.initial.out.items ++ grouped l.bytes

abbrev pub decreases-loop-rest : goal.decreases-loop-rest
decreases-loop-rest l = length l.rest
