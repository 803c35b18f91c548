use Rattle.std.proofs.Common.{◌≡◌, Some, None, sym, subst, rules}
use Rattle.of_compile.specs.Defining.{may_define}
use Rattle.of_compile.specs.SlotWords.{awaited}
use Rattle.of_eval.specs.Defining.{word_made_as}
use Rattle.of_eval.specs.Methods.{with_tree}
use Rattle.of_state.specs.State.{Ends, flat_calls}
use Rattle.of_eval.proofs.defining_tokens.make_word.Goals as goal

pub returns-in-Some-clause-outcome : goal.returns-in-Some-clause-outcome
returns-in-Some-clause-outcome g c = λ t.
    let s = c.args.eval.now in
    let d = c.args.word in
    let is : awaited d s.words ≡ Some c.in-Some.slot = search rules in
    subst
    (λ o. Ends (may_define s.words) (word_made_as flat_calls d o (with_tree t s)) (with_tree t s)
    (with_tree t c.make_slot_word.new.eval) c.make_slot_word.result)
    (sym is) (c.make_slot_word.ensures.outcome t)

pub returns-in-None-clause-outcome : goal.returns-in-None-clause-outcome
returns-in-None-clause-outcome g c = λ t.
    let s = c.args.eval.now in
    let d = c.args.word in
    let is : awaited d s.words ≡ None = search rules in
    subst
    (λ o. Ends (may_define s.words) (word_made_as flat_calls d o (with_tree t s)) (with_tree t s)
    (with_tree t c.make_plain_word.new.eval) c.make_plain_word.result)
    (sym is) (c.make_plain_word.ensures.outcome t)
