use Rattle.std.proofs.Common.{map, ap, ◌∙◌}
use Rattle.of_nodes.specs.Properties.{named}
use Rattle.of_nodes.proofs.EntryNames.{entries_named}
use Rattle.of_nodes.proofs.properties.insert.Goals as goal

pub returns : goal.returns
returns c =
    ap (map named) c.in-Ok.ensures.entries ∙ entries_named c.args.entries.now.entries c.args.name c.args.value
