use Rattle.std.proofs.Common.{◌≡◌, None, Some, Err, OnOk, true, false, sym, ap, subst, ◌∙◌, length, rules}
use Rattle.of_stacks.specs.Throws.{compiler_nesting}
use Rattle.of_stacks.specs.declared.stop.Stop.TheVariants.{Thrown}
use Rattle.of_compile.specs.Words.{name_pending, named_at, named_next}
use Rattle.of_compile.specs.declared.defining.DefiningWord.TheVariants as defining
use Rattle.of_dict.specs.Words.{name_in, word_at}
use Rattle.of_compile.specs.Defining.{may_define, opens}
use Rattle.of_eval.specs.Methods.{MayMake, then_known, with_tree, xt_cell}
use Rattle.of_state.specs.State.{Ends, done, flat_calls}
use Rattle.of_eval.specs.Defining.{define_entry, known_at_once, word_defined}
use Rattle.of_eval.proofs.Endings.{ends_any, ends_when}
use Rattle.of_eval.proofs.MethodLemmas.{its_name, known_other, method_ends, method_undone, nameless_known}
use Rattle.of_eval.proofs.MethodLemmas.{thrown_known}
use Rattle.of_eval.proofs.MethodLemmas.{nothing_or_next, opens_later, over_its_tree, same_names}
use Rattle.of_eval.proofs.defining_tokens.define.Goals as goal

pub returns-then-eq : goal.returns-then-eq
returns-then-eq g c =
    let d = c.args.word in
    let old = c.args.eval.now in
    let new = c.make_word.new.eval in
    let is : d ≡ defining.Colon = search rules in
    let b = may_define old.words in
    subst (λ o. Ends {A = Unit {0}} b o old new c.make_word.result) (sym (opens_later d old is))
    (over_its_tree b (word_defined flat_calls d) old new c.make_word.result c.make_word.ensures.tree
    c.make_word.ensures.outcome)

-- where no word can be made, what throws makes no method either
pub returns-then-not-may_define : goal.returns-then-not-may_define
returns-then-not-may_define g c =
    let d = c.args.word in
    let old = c.args.eval.now in
    let new = c.make_word-then-not-may_define.new.eval in
    let r = c.make_word-then-not-may_define.result in
    let b = may_define old.words in
    let none : b ≡ false = search rules in
    let thrown : r ≡ Err (Thrown compiler_nesting) = c.make_word-then-not-may_define.ensures.nested none in
    let left = over_its_tree b (word_defined flat_calls d) old new r c.make_word-then-not-may_define.ensures.tree
    c.make_word-then-not-may_define.ensures.outcome in
    subst (λ x. Ends {A = Unit {0}} b (define_entry flat_calls d old) old new x) (sym thrown)
    (thrown_known old.board.active.«package» (known_at_once d old.words.dictionary) (word_defined flat_calls d old)
    compiler_nesting new
    (subst (λ x. Ends {A = Unit {0}} b (word_defined flat_calls d old) old new x) thrown left))

pub returns-in_default : goal.returns-in_default
returns-in_default g c =
    let d = c.args.word in
    let old = c.args.eval.now in
    let new = c.make_word-in_default.new.eval in
    let r = c.make_word-in_default.result in
    let words = old.words.dictionary in
    let none : None ≡ named_next words (name_pending old.words.pending) = search rules in
    let b = may_define old.words in
    let may : b ≡ true = search rules in
    ends_when b _ old new r may
    (nameless_known old.board.active.«package» (known_at_once d words) (length words) (word_defined flat_calls d old)
    old new r (nothing_or_next d words)
    (subst (λ x. OnOk r (x ≡ named_at new.words.dictionary (length words))) (sym none)
    c.make_word-in_default.ensures.named)
    (ends_any b _ old new r
    (over_its_tree b (word_defined flat_calls d) old new r c.make_word-in_default.ensures.tree
    c.make_word-in_default.ensures.outcome)))

pub returns-in-Ok : goal.returns-in-Ok
returns-in-Ok g c =
    let d = c.args.word in
    let old = c.args.eval.now in
    let n = c.in-Some.next.0 in
    let name = c.in-Some.name.now in
    let former = c.in_ok-former.former in
    let new = c.make_word-2.new.eval in
    let is : opens d ≡ false = search rules in
    let tree = c.in-Ok.ensures.tree in
    let made =
    subst (λ s. MayMake s.board.active.«package» name c.xt.result former s.board.tree new.board.tree) c.eval.view_is
    (subst (λ t. MayMake c.eval.inside.board.active.«package» name c.xt.result former c.eval.inside.board.tree t)
    (sym tree) c.in_ok-former.ensures.made) in
    let xt : c.xt.result ≡ xt_cell n = ap (λ k. record { 0 = k }) c.xt.ensures in
    let left = subst (λ s. word_defined flat_calls d (with_tree old.board.tree s)
    ≡ done (with_tree old.board.tree new)) c.eval.view_is (c.in-Ok.ensures.outcome old.board.tree) in
    let named = c.in-Some.ensures.next ∙ c.in-Ok.ensures.named in
    let its = its_name (length c.eval.inside.words.dictionary) n name
    (name_in (word_at new.words.dictionary (length c.eval.inside.words.dictionary))) named in
    let number = its.0 ∙ ap (λ s. length s.words.dictionary) c.eval.view_is in
    let its_own = ap (λ k. name_in (word_at new.words.dictionary k)) its.0 ∙ its.1 in
    let method =
    subst (λ x. MayMake old.board.active.«package» name x former old.board.tree new.board.tree) xt made in
    known_other d old is
    ∙ (ap (λ k. then_known old.board.active.«package» (Some k) (word_defined flat_calls d old)) (sym number)
    ∙ (method_ends (word_defined flat_calls d) old.board.active.«package» n old new former name method left its_own
    ∙ ap done (sym c.hide_method.ensures)))

pub returns-in-Some-named_next : goal.returns-in-Some-named_next
returns-in-Some-named_next g c =
    let d = c.args.word in
    let old = c.args.eval.now in
    let name = c.in-Some.name.now in
    let former = c.in_ok-former.former in
    let new = c.make_word-2.new.eval in
    let stop = c.in-Err.stop in
    let is : opens d ≡ false = search rules in
    let b = may_define old.words in
    let may : b ≡ true = search rules in
    let left = subst
    (λ s. Ends {A = Unit {0}} (may_define s.words) (word_defined flat_calls d (with_tree old.board.tree s))
    (with_tree old.board.tree s) (with_tree old.board.tree new) (Err stop)) c.eval.view_is
    (c.in-Err.ensures.outcome old.board.tree) in
    let left_any = ends_any b _ (with_tree old.board.tree old) (with_tree old.board.tree new) (Err stop) left in
    let undone = method_undone (word_defined flat_calls d) old.board.active.«package»
    (known_at_once d old.words.dictionary) old new stop left_any in
    let words = ap (λ s. s.words) c.eval-in-Err.view_is ∙ c.in-Err.ensures.stopped in
    let text = c.in-Some-named_next.name.now in
    let again = c.in-Some-named_next.ensures.next
    ∙ (ap (λ w. named_next w.dictionary (name_pending w.pending)) words ∙ sym c.in-Some.ensures.next) in
    let same = same_names c.in-Some.next.0 c.in-Some-named_next.field-0-0.0 name text again in
    let made = subst (λ x. MayMake c.eval.inside.board.active.«package» x c.xt.result former c.eval.inside.board.tree
    c.eval-in-Err.inside.board.tree) (sym same)
    (subst (λ t. MayMake c.eval.inside.board.active.«package» name c.xt.result former c.eval.inside.board.tree t)
    (sym (ap (λ s. s.board.tree) c.eval-in-Err.view_is ∙ c.in-Err.ensures.tree)) c.in_ok-former.ensures.made) in
    let back = c.take_back.ensures c.eval.inside.board.active.«package» c.xt.result c.eval.inside.board.tree made
    ∙ ap (λ s. s.board.tree) c.eval.view_is in
    let final = ap (λ s. with_tree c.take_back.new.tree s) c.eval-in-Err.view_is ∙ ap (λ t. with_tree t new) back in
    ends_when b (define_entry flat_calls d old) old _ (Err stop) may
    (subst (λ s. Ends {A = Unit {0}} true (define_entry flat_calls d old) old s (Err stop)) (sym final) undone)
