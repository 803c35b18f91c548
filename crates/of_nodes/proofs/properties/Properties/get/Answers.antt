use Rattle.std.proofs.Common.{List, ℕ, ap, ◌∙◌}
use Rattle.of_nodes.specs.declared.properties.Property.{Property}
use Rattle.of_nodes.specs.Properties.{value_in}
use Rattle.of_nodes.proofs.EntryNames.{value_named}
use Rattle.of_nodes.proofs.properties.Properties.get.Goals as goal

pub returns : goal.returns
returns c =
    c.copied.ensures
    ∙ (c.get.ensures.value
    ∙ (value_named c.self.inside.entries.entries c.args.name.now
    ∙ ap (λ (es : List (List ℕ × Property)). value_in es c.args.name.now) c.self.view_is))
