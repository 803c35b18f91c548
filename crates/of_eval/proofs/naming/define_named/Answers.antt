use Rattle.std.proofs.Common.{◌≡◌, ◌≤◌, Some, Err, true, false, sym, ap, subst, ◌∙◌, length, rules, is_none}
use Rattle.of_dict.specs.Words.{capacity, name_in, word_at}
use Rattle.of_compile.specs.Defining.{opens}
use Rattle.of_compile.specs.declared.defining.DefiningWord.TheVariants as defining
use Rattle.of_eval.specs.Defining.{known_at_once}
use Rattle.of_eval.specs.Methods.{MayMake, then_known, with_tree, xt_cell}
use Rattle.of_eval.specs.Naming.{name_at, naming_done, word_named}
use Rattle.of_state.specs.State.{Ends, done, flat_calls}
use Rattle.of_eval.proofs.Endings.{ends_any, ends_when}
use Rattle.of_eval.proofs.MethodLemmas.{method_ends, method_undone, over_its_tree}
use Rattle.of_eval.proofs.NamingLemmas.{known_next, not_full, not_open, opens_later, refused_known}
use Rattle.of_eval.proofs.naming.define_named.Goals as goal

pub returns-then-eq : goal.returns-then-eq
returns-then-eq g c =
    let d = c.args.word in
    let old = c.args.eval.now in
    let new = c.make_named.new.eval in
    let name = name_at c.args.name old in
    let is : d ≡ defining.Colon = search rules in
    let b = is_none old.words.defining in
    subst (λ o. Ends {A = Unit {0}} b o old new c.make_named.result) (sym (opens_later d name old is))
    (over_its_tree b (word_named flat_calls d name) old new c.make_named.result c.make_named.ensures.tree
    c.make_named.ensures.outcome)

pub returns-then-is_some : goal.returns-then-is_some
returns-then-is_some g c =
    let d = c.args.word in
    let old = c.args.eval.now in
    let new = c.make_named-then-is_some.new.eval in
    let r = c.make_named-then-is_some.result in
    let name = name_at c.args.name old in
    let b = is_none old.words.defining in
    let nested : b ≡ false = search rules in
    refused_known b old.board.active.«package» (known_at_once d old.words.dictionary) (word_named flat_calls d name old)
    old new r (not_open b r nested c.make_named-then-is_some.ensures.closed)
    (over_its_tree b (word_named flat_calls d name) old new r c.make_named-then-is_some.ensures.tree
    c.make_named-then-is_some.ensures.outcome)

pub returns-then-number-ge-CAPACITY : goal.returns-then-number-ge-CAPACITY
returns-then-number-ge-CAPACITY g c =
    let d = c.args.word in
    let old = c.args.eval.now in
    let new = c.make_named-then-number-ge-CAPACITY.new.eval in
    let r = c.make_named-then-number-ge-CAPACITY.result in
    let name = name_at c.args.name old in
    let b = is_none old.words.defining in
    let full : capacity ≤ length old.words.dictionary = search rules in
    refused_known b old.board.active.«package» (known_at_once d old.words.dictionary) (word_named flat_calls d name old)
    old new r
    (not_full (length old.words.dictionary) capacity r full c.make_named-then-number-ge-CAPACITY.ensures.room)
    (over_its_tree b (word_named flat_calls d name) old new r c.make_named-then-number-ge-CAPACITY.ensures.tree
    c.make_named-then-number-ge-CAPACITY.ensures.outcome)

pub returns-in-Ok : goal.returns-in-Ok
returns-in-Ok g c =
    let d = c.args.word in
    let old = c.args.eval.now in
    let n = c.made-number.result in
    let text = c.of-text.result.now in
    let name = name_at c.args.name old in
    let former = c.in_ok-former.former in
    let new = c.make_named-2.new.eval in
    let is : opens d ≡ false = search rules in
    let number : n ≡ length old.words.dictionary = search rules in
    let spelt : text ≡ name = search rules in
    let made =
    subst (λ s. MayMake s.board.active.«package» text c.xt.result former s.board.tree new.board.tree) c.eval.view_is
    (subst (λ t. MayMake c.eval.inside.board.active.«package» text c.xt.result former c.eval.inside.board.tree t)
    (sym c.in-Ok.ensures.tree) c.in_ok-former.ensures.made) in
    let xt : c.xt.result ≡ xt_cell n = ap (λ k. record { 0 = k }) c.xt.ensures in
    let left = subst (λ s. word_named flat_calls d (name_at c.args.name s) (with_tree old.board.tree s)
    ≡ done (with_tree old.board.tree new)) c.eval.view_is (c.in-Ok.ensures.outcome old.board.tree) in
    let its = subst (λ s. name_in (word_at new.words.dictionary (length s.words.dictionary))
    ≡ Some (name_at c.args.name s)) c.eval.view_is c.in-Ok.ensures.named in
    let its_own = ap (λ k. name_in (word_at new.words.dictionary k)) number ∙ its in
    let method =
    subst (λ x. MayMake old.board.active.«package» name x former old.board.tree new.board.tree) xt
    (subst (λ x. MayMake old.board.active.«package» x c.xt.result former old.board.tree new.board.tree) spelt made) in
    known_next d name old is
    ∙ (ap (λ k. then_known old.board.active.«package» (Some k) (word_named flat_calls d name old)) (sym number)
    ∙ (method_ends (word_named flat_calls d name) old.board.active.«package» n old new former name method left its_own
    ∙ ap done (sym c.hide_method.ensures)))

pub returns-in-Err : goal.returns-in-Err
returns-in-Err g c =
    let d = c.args.word in
    let old = c.args.eval.now in
    let text = c.of-text.result.now in
    let again = c.of-text-in-Err.result.now in
    let name = name_at c.args.name old in
    let former = c.in_ok-former.former in
    let new = c.make_named-2.new.eval in
    let stop = c.in-Err.stop in
    let b = is_none old.words.defining in
    let may : b ≡ true = search rules in
    let same : again ≡ text = search rules in
    let left = subst
    (λ s. Ends {A = Unit {0}} (is_none s.words.defining) (word_named flat_calls d (name_at c.args.name s)
    (with_tree old.board.tree s)) (with_tree old.board.tree s) (with_tree old.board.tree new) (Err stop)) c.eval.view_is
    (c.in-Err.ensures.outcome old.board.tree) in
    let left_any = ends_any b _ (with_tree old.board.tree old) (with_tree old.board.tree new) (Err stop) left in
    let undone = method_undone (word_named flat_calls d name) old.board.active.«package»
    (known_at_once d old.words.dictionary) old new stop left_any in
    let made = subst (λ x. MayMake c.eval.inside.board.active.«package» x c.xt.result former c.eval.inside.board.tree
    c.eval-in-Err.inside.board.tree) (sym same)
    (subst (λ t. MayMake c.eval.inside.board.active.«package» text c.xt.result former c.eval.inside.board.tree t)
    (sym (ap (λ s. s.board.tree) c.eval-in-Err.view_is ∙ c.in-Err.ensures.tree)) c.in_ok-former.ensures.made) in
    let back = c.take_back.ensures c.eval.inside.board.active.«package» c.xt.result c.eval.inside.board.tree made
    ∙ ap (λ s. s.board.tree) c.eval.view_is in
    let final = ap (λ s. with_tree c.take_back.new.tree s) c.eval-in-Err.view_is ∙ ap (λ t. with_tree t new) back in
    ends_when b (naming_done flat_calls d name old) old _ (Err stop) may
    (subst (λ s. Ends {A = Unit {0}} true (naming_done flat_calls d name old) old s (Err stop)) (sym final) undone)
