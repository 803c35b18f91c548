use Rattle.std.proofs.Common.{◌≡◌, Some, None, sym, subst, rules, is_none}
use Rattle.of_compile.specs.SlotWords.{awaited}
use Rattle.of_eval.specs.Methods.{with_tree}
use Rattle.of_eval.specs.Naming.{name_at, word_named_as}
use Rattle.of_state.specs.State.{Ends, flat_calls}
use Rattle.of_eval.proofs.naming.make_named.Goals as goal

pub returns-in-Some-clause-outcome : goal.returns-in-Some-clause-outcome
returns-in-Some-clause-outcome g c = λ t.
    let s = c.args.eval.now in
    let d = c.args.word in
    let name = name_at c.args.name s in
    let is : awaited d s.words ≡ Some c.in-Some.slot = search rules in
    subst
    (λ o. Ends (is_none s.words.defining) (word_named_as flat_calls d name o (with_tree t s)) (with_tree t s)
    (with_tree t c.make_named_slot.new.eval) c.make_named_slot.result)
    (sym is) (c.make_named_slot.ensures.outcome t)

pub returns-in-None-clause-outcome : goal.returns-in-None-clause-outcome
returns-in-None-clause-outcome g c = λ t.
    let s = c.args.eval.now in
    let d = c.args.word in
    let name = name_at c.args.name s in
    let is : awaited d s.words ≡ None = search rules in
    subst
    (λ o. Ends (is_none s.words.defining) (word_named_as flat_calls d name o (with_tree t s)) (with_tree t s)
    (with_tree t c.make_named_plain.new.eval) c.make_named_plain.result)
    (sym is) (c.make_named_plain.ensures.outcome t)
