use Rattle.std.proofs.Common.{List, ℕ, ap, sym, ◌∙◌}
use Rattle.of_nodes.specs.declared.properties.Property.{Property}
use Rattle.of_nodes.specs.Properties.{value_at}
use Rattle.of_nodes.proofs.EntryOrder.{at_none, at_some}
use Rattle.of_nodes.proofs.properties.Properties.at.Goals as goal

pub returns-in-Some : goal.returns-in-Some
returns-in-Some c =
    sym (at_some c.self.inside.entries.entries c.args.index _ _ (sym c.in-Some.ensures.entry))
    ∙ ap (λ (l : List (List ℕ × Property)). value_at l c.args.index) c.self.view_is

pub returns-in-None : goal.returns-in-None
returns-in-None c =
    sym (at_none c.self.inside.entries.entries c.args.index (sym c.in-None.ensures.entry))
    ∙ ap (λ (l : List (List ℕ × Property)). value_at l c.args.index) c.self.view_is
