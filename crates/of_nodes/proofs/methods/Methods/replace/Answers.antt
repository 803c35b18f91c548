use Rattle.std.proofs.Common.{◌≡◌, List, ℕ, None, map, ap, sym, ◌∙◌}
use Rattle.std.specs.Option.{option_copied_mut}
use Rattle.of_cells.specs.declared.cells.Cell.{Cell}
use Rattle.of_nodes.specs.contracts.methods.Methods.{the_view}
use Rattle.of_nodes.specs.Properties.{named, replaced, value_in}
use Rattle.of_nodes.proofs.EntryNames.{replaced_absent, replaced_named, value_named}
use Rattle.of_nodes.proofs.methods.Methods.replace.Goals.{in-Some, in-None}
use Rattle.of_nodes.proofs.methods.Methods.replace.Goals as goal

pub returns : goal.returns
returns c =
    let es = c.self.inside.entries.entries in
    let name = c.args.key.now in
    let old = ap (λ (l : List (List ℕ × Cell)). replaced l name c.args.xt) c.self.view_is in
    elim c.match-get_mut.branch [
      | in-Some w ↦ ap the_view w.self-inside-is ∙ (ap (map named) (c.get_mut.follows.holds c.args.xt).0
          ∙ (replaced_named es name c.args.xt ∙ old))
      | in-None w ↦ (let none : value_in (map named es) name ≡ None =
          sym (value_named es name) ∙ (sym c.get_mut.ensures.value ∙ ap option_copied_mut w.in-None.is) in
          ap the_view w.self-inside-is ∙ (ap (λ m. map named m.entries) c.get_mut.follows.holds-at-none
          ∙ (sym (replaced_absent (map named es) name c.args.xt none) ∙ old)))
    ]
