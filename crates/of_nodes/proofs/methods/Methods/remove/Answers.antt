use Rattle.std.proofs.Common.{List, ℕ, map, ap, ◌∙◌}
use Rattle.of_cells.specs.declared.cells.Cell.{Cell}
use Rattle.of_nodes.specs.Properties.{named, without}
use Rattle.of_nodes.proofs.EntryNames.{without_named}
use Rattle.of_nodes.proofs.methods.Methods.remove.Goals as goal

pub returns : goal.returns
returns c =
    ap (map named) c.shift_remove.ensures.entries
    ∙ (without_named c.self.inside.entries.entries c.args.key.now
    ∙ ap (λ (es : List (List ℕ × Cell)). without es c.args.key.now) c.self.view_is)
