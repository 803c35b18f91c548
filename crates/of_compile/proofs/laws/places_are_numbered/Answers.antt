use Rattle.of_compile.proofs.PlaceLemmas.{places_are_numbered}
use Rattle.of_compile.proofs.laws.places_are_numbered.Goals as goal

pub returns : goal.returns
returns c = places_are_numbered c.compiles_reading.ensures c.structures_are_flat.ensures
