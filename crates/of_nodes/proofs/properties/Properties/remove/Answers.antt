use Rattle.std.proofs.Common.{List, ℕ, map, ap, ◌∙◌}
use Rattle.of_nodes.specs.declared.properties.Property.{Property}
use Rattle.of_nodes.specs.Properties.{named, without}
use Rattle.of_nodes.proofs.EntryNames.{without_named}
use Rattle.of_nodes.proofs.properties.Properties.remove.Goals as goal

pub returns : goal.returns
returns c =
    ap (map named) c.shift_remove.ensures.entries
    ∙ (without_named c.self.inside.entries.entries c.args.name.now
    ∙ ap (λ (es : List (List ℕ × Property)). without es c.args.name.now) c.self.view_is)
