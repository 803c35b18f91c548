use Rattle.of_compile.proofs.StructuredLemmas.{structures_are_flat}
use Rattle.of_compile.proofs.laws.structures_are_flat.Goals as goal

pub returns : goal.returns
returns c = structures_are_flat c.compiles_reading.ensures c.closed_is_read.ensures c.runs_by_places.ensures
