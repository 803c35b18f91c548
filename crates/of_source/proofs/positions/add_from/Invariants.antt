use Rattle.std.proofs.Common.{◌≡◌, ◌++◌, ◌-◌, length}
use Rattle.of_source.specs.Places.{last_place}
use Rattle.of_source.specs.Positions.{places_from}
use Rattle.of_source.proofs.positions.add_from.Given as goal

abbrev pub invariant-loop : goal.invariant-loop
invariant-loop l = l.places.items ++ places_from (last_place l.text) (length l.text - l.counter) l.parser
    ≡ l.fn.places.items ++ places_from (last_place l.text) (length l.text) l.fn.parser
