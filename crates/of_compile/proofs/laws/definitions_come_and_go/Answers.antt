use Rattle.of_compile.proofs.LifeLemmas.{come_and_go}
use Rattle.of_compile.proofs.laws.definitions_come_and_go.Goals as goal

pub returns : goal.returns
returns c = come_and_go c.changes_are_found.ensures c.table_is_map.ensures
