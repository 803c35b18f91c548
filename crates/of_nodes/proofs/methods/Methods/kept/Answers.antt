use Rattle.std.proofs.Common.{List, ℕ, ap, ◌∙◌}
use Rattle.of_cells.specs.declared.cells.Cell.{Cell}
use Rattle.of_nodes.specs.Properties.{value_in}
use Rattle.of_nodes.proofs.EntryNames.{value_named}
use Rattle.of_nodes.proofs.methods.Methods.kept.Goals as goal

pub returns : goal.returns
returns c =
    c.copied.ensures
    ∙ (c.get.ensures.value
    ∙ (value_named c.self.inside.entries.entries c.args.key.now
    ∙ ap (λ (es : List (List ℕ × Cell)). value_in es c.args.key.now) c.self.view_is))
