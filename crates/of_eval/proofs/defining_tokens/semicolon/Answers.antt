use Rattle.std.proofs.Common.{◌≡◌, None, Err, IfSome, is_some, true, sym, ap, subst, ◌∙◌, rules}
use Rattle.of_compile.specs.Words.{named_open}
use Rattle.of_dict.specs.Words.{name_in, word_at}
use Rattle.of_eval.specs.Methods.{MayMake, then_known, with_tree, xt_cell}
use Rattle.of_state.specs.State.{Ends, done, flat_calls}
use Rattle.of_eval.specs.Defining.{definition_ended, semicolon_entry}
use Rattle.of_eval.proofs.Endings.{ends_when}
use Rattle.of_eval.proofs.MethodLemmas.{its_open, method_ends, method_undone, nameless_open, over_its_tree, same_names}
use Rattle.of_eval.proofs.defining_tokens.semicolon.Goals as goal

pub returns-in_default : goal.returns-in_default
returns-in_default g c =
    let old = c.args.eval.now in
    let new = c.end_open.new.eval in
    let o = old.words.defining in
    let none : None ≡ named_open old.words.dictionary o = search rules in
    let some : is_some o ≡ true = search rules in
    ends_when (is_some o) _ old new c.end_open.result some
    (nameless_open old.flow.home o (definition_ended flat_calls o old) old new c.end_open.result none
    c.end_open.ensures.named
    (over_its_tree true (λ s. definition_ended flat_calls o s) old new c.end_open.result c.end_open.ensures.tree
    c.end_open.ensures.outcome))

pub returns-in-Ok : goal.returns-in-Ok
returns-in-Ok g c =
    let old = c.args.eval.now in
    let o = old.words.defining in
    let n = c.in-Some.word.0 in
    let name = c.in-Some.name.now in
    let former = c.in_ok-former.former in
    let new = c.end_open-2.new.eval in
    let tree = c.in-Ok.ensures.tree in
    let xt : c.xt.result ≡ xt_cell n = ap (λ k. record { 0 = k }) c.xt.ensures in
    let made =
    subst (λ s. MayMake s.flow.home name c.xt.result former s.board.tree new.board.tree) c.eval.view_is
    (subst (λ t. MayMake c.eval.inside.flow.home name c.xt.result former c.eval.inside.board.tree t)
    (sym tree) c.in_ok-former.ensures.made) in
    let method =
    subst (λ x. MayMake old.flow.home name x former old.board.tree new.board.tree) xt made in
    let left = subst (λ s. definition_ended flat_calls s.words.defining (with_tree old.board.tree s)
    ≡ done (with_tree old.board.tree new)) c.eval.view_is (c.in-Ok.ensures.outcome old.board.tree) in
    let its = its_open n name old.words.dictionary o (c.in-Some.ensures.named
    ∙ ap (λ s. named_open s.words.dictionary s.words.defining) c.eval.view_is) in
    let kept = subst (λ s. IfSome s.words.defining (λ k. name_in (word_at new.words.dictionary k)
    ≡ name_in (word_at s.words.dictionary k))) c.eval.view_is c.in-Ok.ensures.named in
    let same = subst (λ x. IfSome x (λ k. name_in (word_at new.words.dictionary k)
    ≡ name_in (word_at old.words.dictionary k))) its.0 kept in
    ap (λ x. then_known old.flow.home x (definition_ended flat_calls o old)) its.0
    ∙ (method_ends (λ s. definition_ended flat_calls o s) old.flow.home n old new former name method left (same ∙ its.1)
    ∙ ap done (sym c.hide_method.ensures))

pub returns-in-Some-named_open : goal.returns-in-Some-named_open
returns-in-Some-named_open g c =
    let old = c.args.eval.now in
    let o = old.words.defining in
    let name = c.in-Some.name.now in
    let former = c.in_ok-former.former in
    let new = c.end_open-2.new.eval in
    let stop = c.in-Err.stop in
    let left = subst
    (λ s. Ends {A = Unit {0}} true (definition_ended flat_calls s.words.defining (with_tree old.board.tree s))
    (with_tree old.board.tree s) (with_tree old.board.tree new) (Err stop)) c.eval.view_is
    (c.in-Err.ensures.outcome old.board.tree) in
    let undone = method_undone (λ s. definition_ended flat_calls o s) old.flow.home o old new stop left in
    let words = ap (λ s. s.words) c.eval-in-Err.view_is ∙ c.in-Err.ensures.stopped in
    let text = c.in-Some-named_open.name.now in
    let again = c.in-Some-named_open.ensures.named
    ∙ (ap (λ w. named_open w.dictionary w.defining) words ∙ sym c.in-Some.ensures.named) in
    let same = same_names c.in-Some.word.0 c.in-Some-named_open.field-0-0.0 name text again in
    let made = subst (λ x. MayMake c.eval.inside.flow.home x c.xt.result former c.eval.inside.board.tree
    c.eval-in-Err.inside.board.tree) (sym same)
    (subst (λ t. MayMake c.eval.inside.flow.home name c.xt.result former c.eval.inside.board.tree t)
    (sym (ap (λ s. s.board.tree) c.eval-in-Err.view_is ∙ c.in-Err.ensures.tree)) c.in_ok-former.ensures.made) in
    let back = c.take_back.ensures c.eval.inside.flow.home c.xt.result c.eval.inside.board.tree made
    ∙ ap (λ s. s.board.tree) c.eval.view_is in
    let final = ap (λ s. with_tree c.take_back.new.tree s) c.eval-in-Err.view_is ∙ ap (λ t. with_tree t new) back in
    let some : is_some o ≡ true = search rules in
    ends_when (is_some o) (semicolon_entry flat_calls o old) old _ (Err stop) some
    (subst (λ s. Ends {A = Unit {0}} true (semicolon_entry flat_calls o old) old s (Err stop)) (sym final) undone)
