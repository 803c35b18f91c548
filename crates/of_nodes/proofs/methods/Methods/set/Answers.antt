use Rattle.std.proofs.Common.{List, ℕ, Ok, map, ap, sym, ◌∙◌}
use Rattle.of_cells.specs.declared.cells.Cell.{Cell}
use Rattle.of_nodes.specs.Methods.{lower}
use Rattle.of_nodes.specs.Properties.{named, with_entry}
use Rattle.of_nodes.proofs.EntryNames.{entries_named}
use Rattle.of_nodes.proofs.methods.Methods.set.Goals as goal

pub returns : goal.returns
returns c =
    let es = c.self.inside.entries.entries in
    let key = c.in_ok-key.key in
    let now = ap (map named) c.in_ok-insert.ensures.entries ∙ entries_named es key c.args.xt in
    let name = ap (λ (k : List ℕ). with_entry (map named es) k c.args.xt) c.in_ok-key.ensures.ok in
    let old = ap (λ (ms : List (List ℕ × Cell)). with_entry ms (lower c.args.name.now) c.args.xt) c.self.view_is in
    ap Ok (sym (now ∙ (name ∙ old)))
