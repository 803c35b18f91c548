use Rattle.of_nodes.proofs.EntryOrder.{behind_by}
use Rattle.of_nodes.proofs.properties.Properties.place_of.Goals as goal

pub returns-clause-value : goal.returns-clause-value
returns-clause-value c =
    rw (← c.self.view_is)
    (behind_by c.self.inside.entries.entries c.args.name.now c.get_index_of.result c.get_index_of.ensures.index)
