use Rattle.std.proofs.Common.{◌≡◌, Ok, false, sym, ap, subst, ◌∙◌}
use Rattle.of_cells.specs.Outcomes.{Becomes}
use Rattle.of_compile.specs.Definitions.{closing_entry}
use Rattle.of_eval.specs.Methods.{with_tree}
use Rattle.of_state.specs.State.{done, with_compiling, with_words}
use Rattle.of_eval.proofs.Endings.{closing_leaves}
use Rattle.of_eval.proofs.defining_tokens.end_open.Goals as goal

pub returns-in-Ok-clause-outcome : goal.returns-in-Ok-clause-outcome
returns-in-Ok-clause-outcome g c = λ t.
    let old = c.args.eval.now in
    let words = c.end_definition.new.words in
    let before = c.reserve.new.self.coding in
    let after = c.end_definition.new.coding.coding in
    let code = c.in_ok-reserve.ensures.coding ∙ ap (λ s. s.code) c.eval.view_is in
    let becomes = subst (λ w. Becomes {A = Unit {0}} (closing_entry w before) (w, before) (words, after) (Ok tt))
    (ap (λ s. s.words) c.eval.view_is) c.in-Ok.ensures.outcome in
    let left = subst (λ s. with_compiling false (record (with_words words (with_tree t s)) { code = after })
    ≡ with_tree t c.set_compiling.new.self) c.eval.view_is (sym (ap (with_tree t) c.set_compiling.ensures)) in
    closing_leaves (with_tree t old) words before after (Ok tt) code becomes ∙ ap done left
