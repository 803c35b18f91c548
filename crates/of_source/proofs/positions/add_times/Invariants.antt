use Rattle.std.proofs.Common.{◌≡◌, ◌++◌}
use Rattle.of_source.specs.Positions.{given_at}
use Rattle.of_source.proofs.positions.add_times.Given as goal

abbrev pub invariant-loop : goal.invariant-loop
invariant-loop l = l.places.items ≡ l.fn.places.items ++ given_at l.counter l.place
