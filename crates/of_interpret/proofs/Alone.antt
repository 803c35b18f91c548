-- A word of control that appends one element.
use Rattle.std.proofs.Common.{◌≡◌, ◌||◌, Bool, true, false, [], ◌∷◌, Result, refl, ap, sym, subst}
use Rattle.of_stacks.specs.declared.stop.Stop.{Stop}
use Rattle.of_control.specs.Element.{Element}
use Rattle.of_compile.specs.Coding.{Coding}
use Rattle.of_compile.specs.declared.element.PlainItem.{PlainItem}
use Rattle.of_eval.specs.Acts.{Appends}
use Rattle.of_eval.specs.Doing.{IsWorked, appended, element_grows, worked}
use Rattle.of_interpret.proofs.Appended.{one}
use Rattle.of_interpret.specs.TextActs.{AppendsAll, IsSpoken, text_acted}
use Rattle.of_state.specs.State.{Ends, State, flat_calls}

same_act : (e : Element PlainItem) (s : State Coding)
    → worked flat_calls (Appends e s.board.stack) s ≡ text_acted flat_calls (AppendsAll (e ∷ []) s.board.stack) s
unfolding worked text_acted
same_act e s = ap (λ a. appended a s.board.stack s) (sym (one flat_calls e s.code))

or_false : (b : Bool) → b ≡ (b || false)
or_false true = refl
or_false false = refl

pub spoken_alone : (e : Element PlainItem) (s new : State Coding) (r : Result (Unit {0}) Stop)
    → IsWorked {A = Unit {0}} (Appends e s.board.stack) s new r
    → IsSpoken {A = Unit {0}} (AppendsAll (e ∷ []) s.board.stack) s new r
spoken_alone e s new r h =
    subst (λ g. Ends {A = Unit {0}} g (text_acted flat_calls (AppendsAll (e ∷ []) s.board.stack) s) s new r)
    (or_false (element_grows e))
    (subst (λ o. Ends {A = Unit {0}} (element_grows e) o s new r) (same_act e s) h)
