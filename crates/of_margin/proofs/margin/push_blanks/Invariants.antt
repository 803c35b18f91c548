use Rattle.std.proofs.Common.{◌≡◌, ◌++◌, ◌∷◌, []}
use Rattle.std.specs.List.{repeat}
use Rattle.of_margin.proofs.margin.push_blanks.Given as goal

abbrev pub invariant-loop : goal.invariant-loop
invariant-loop l = l.out.items ≡ l.fn.out.items ++ repeat l.counter (32 ∷ [])
