-- A turn, as it is made: its step, and the next answer where that asks.
use Rattle.std.proofs.Common.{◌≡◌, ◌∙◌, inl, inr, ◌+◌, Bool, true, false, List, [], ◌∷◌, Option, Some, None}
use Rattle.std.proofs.Common.{Result, Ok, Err, IfOk, OnErr, refl, sym, ap, subst}
use Rattle.std.proofs.lemmas.Option.{same_Some}
use Rattle.std.specs.Prelude.{if◌then◌else◌, is_some}
use Rattle.of_asking.specs.Questions.{fits}
use Rattle.of_asking.specs.declared.query.Answer.{Answer}
use Rattle.of_asking.specs.declared.query.Query.{Query}
use Rattle.of_compile.specs.Coding.{Coding}
use Rattle.of_machine.specs.Runs.{Feed, asking, fitting, next_answer, settled, told}
use Rattle.of_machine.specs.States.{MachineState, MayGrow, Steps, can_step}
use Rattle.of_machine.specs.States.{made_or_opened, moved, question, tried}
use Rattle.of_machine.specs.declared.answers.Progress.TheVariants.{Asks, Done, Ended}
use Rattle.of_state.specs.State.{flat_calls}
use Rattle.of_steps.specs.Steps.{asked_by, due_grows}
use Rattle.of_debug.proofs.FeedLemmas.{settled_steps}
use Rattle.of_debug.proofs.TurnLemmas.{turn_asks, turn_moves, turn_none, turn_open}
use Rattle.of_machine.specs.Refused.{HasDue}
use Rattle.of_debug.specs.Stepping.{Breaks, IsTold, Turns, Untold}
use Rattle.of_debug.specs.Turns.{IsAt, turn}

-- ---- the next answer

next_is : (f : Feed Coding) (q : Query) (all : List Answer) → f.machine.waiting ≡ Some q → f.answers ≡ all
    → next_answer f.machine.waiting f.answers ≡ fitting q all
next_is f q all waits left =
    ap (λ o. next_answer o f.answers) waits ∙ ap (fitting q) left

-- there is none
pub none_left : (f : Feed Coding) (q : Query) → f.machine.waiting ≡ Some q → f.answers ≡ [] → IsTold false f f
none_left f q waits left = (refl, next_is f q [] waits left)

-- or it doesn't fit
pub misfits : (f : Feed Coding) (q : Query) (answer : Answer) (rest : List Answer) → f.machine.waiting ≡ Some q
    → f.answers ≡ answer ∷ rest → fits q answer ≡ false → IsTold false f f
misfits f q answer rest waits left e =
    (refl, next_is f q (answer ∷ rest) waits left ∙ ap (λ b. if b then Some answer else None) e)

-- ---- the step

-- none can be made
pub is_ended : (f g : Feed Coding) (m : MachineState Coding) → Steps Ended f.machine m → g ≡ record f { machine = m }
    → Turns false f g
is_ended f g m ended same =
    let here : g ≡ f = same ∙ ap (λ x. record f { machine = x }) ended.1 in
    (here ∙ sym (turn_none f ended.0), ap (λ (x : Feed Coding). x.machine.steps) here)

abbrev Quiet : MachineState Coding → Type 0
Quiet m = (m.waiting ≡ None) × (asked_by flat_calls m.eval ≡ None)

quiet_by : (m : MachineState Coding) (o : Option Query) → m.waiting ≡ o → question flat_calls o m ≡ None → Quiet m
quiet_by m None waits none = (waits, none)
quiet_by m (Some q) waits none = absurd cc

quiet : (m : MachineState Coding) → question flat_calls m.waiting m ≡ None → Quiet m
quiet m none = quiet_by m m.waiting refl none

-- one is made that doesn't ask
done_is : (f g : Feed Coding) (m : MachineState Coding) → Steps Done f.machine m → g ≡ record f { machine = m }
    → (turn flat_calls f ≡ settled g) × (g.machine.steps ≡ f.machine.steps + 1)
done_is f g m done same =
    let q = quiet f.machine done.1 in
    let there : record f { machine = moved flat_calls f.machine } ≡ g =
    ap (λ x. record f { machine = x }) (sym done.2) ∙ sym same in
    (turn_moves f done.0 q.0 q.1 ∙ ap settled there, ap (λ (x : Feed Coding). x.machine.steps) (sym there))

pub is_done : (f g new : Feed Coding) (m : MachineState Coding) → Steps Done f.machine m
    → g ≡ record f { machine = m } → new ≡ settled g → Turns true f new
is_done f g new m done same all =
    let there = done_is f g m done same in
    (all ∙ sym there.0, ap (λ (x : Feed Coding). x.machine.steps) all ∙ settled_steps g ∙ there.1)

pub is_broken : (f g new : Feed Coding) (m : MachineState Coding) → Steps Done f.machine m
    → g ≡ record f { machine = m } → settled new ≡ settled g → new.machine.steps ≡ g.machine.steps → HasDue new
    → Breaks f new
is_broken f g new m done same later steps due =
    let there = done_is f g m done same in inr (later ∙ sym there.0, steps ∙ there.1, due)

-- one is made that asks, or whose question is open: where it stands, and what its turn leaves
record IsAsked (f g : Feed Coding) (q : Query) : Type 0 where
  at : IsAt f g
  waits : g.machine.waiting ≡ Some q
  steps : g.machine.steps ≡ f.machine.steps
  eval : g.machine.eval ≡ f.machine.eval
  turned : turn flat_calls f ≡ told flat_calls (fitting q g.answers) g

asked_none : (f g : Feed Coding) (m : MachineState Coding) (q : Query) → f.machine.waiting ≡ None
    → can_step f.machine ≡ true → asked_by flat_calls f.machine.eval ≡ Some q
    → m ≡ made_or_opened flat_calls (asked_by flat_calls f.machine.eval) f.machine → g ≡ record f { machine = m }
    → IsAsked f g q
asked_none f g m q none can asks made same =
    let there : g ≡ asking q f =
    same ∙ ap (λ x. record f { machine = x }) (made ∙ ap (λ o. made_or_opened flat_calls o f.machine) asks) in record {
      at = inr (q, can, none, asks, there);
      waits = ap (λ (x : Feed Coding). x.machine.waiting) there;
      steps = ap (λ (x : Feed Coding). x.machine.steps) there;
      eval = ap (λ (x : Feed Coding). x.machine.eval) there;
      turned =
          turn_asks f q can none asks
          ∙ ap (λ (x : Feed Coding). told flat_calls (fitting q x.answers) x) (sym there);
    }

asked_open : (f g : Feed Coding) (m : MachineState Coding) (p q : Query) → f.machine.waiting ≡ Some p → p ≡ q
    → can_step f.machine ≡ true → m ≡ f.machine → g ≡ record f { machine = m } → IsAsked f g q
asked_open f g m p q waits asks can made same =
    let there : g ≡ f = same ∙ ap (λ x. record f { machine = x }) made in
    let still : f.machine.waiting ≡ Some q = waits ∙ ap Some asks in record {
      at = inl there;
      waits = ap (λ (x : Feed Coding). x.machine.waiting) there ∙ still;
      steps = ap (λ (x : Feed Coding). x.machine.steps) there;
      eval = ap (λ (x : Feed Coding). x.machine.eval) there;
      turned =
          turn_open f q can still
          ∙ ap (λ (x : Feed Coding). told flat_calls (fitting q x.answers) x) (sym there);
    }

asked_by_case : (f g : Feed Coding) (m : MachineState Coding) (o : Option Query) (q : Query) → f.machine.waiting ≡ o
    → can_step f.machine ≡ true → question flat_calls o f.machine ≡ Some q → m ≡ tried flat_calls o f.machine
    → g ≡ record f { machine = m } → IsAsked f g q
asked_by_case f g m None q waits can asks made same = asked_none f g m q waits can asks made same
asked_by_case f g m (Some p) q waits can asks made same =
    asked_open f g m p q waits (same_Some p q asks) can made same

asked : (f g : Feed Coding) (m : MachineState Coding) (q : Query) → Steps (Asks q) f.machine m
    → g ≡ record f { machine = m } → IsAsked f g q
asked f g m q steps same = asked_by_case f g m f.machine.waiting q refl steps.0 steps.1 steps.2 same

told_so : (f g : Feed Coding) (q : Query) → IsAsked f g q
    → turn flat_calls f ≡ told flat_calls (next_answer g.machine.waiting g.answers) g
told_so f g q a =
    a.turned ∙ ap (λ o. told flat_calls o g) (sym (next_is g q g.answers a.waits refl))

pub is_asked : (f g new : Feed Coding) (m : MachineState Coding) (q : Query) (went : Bool) → Steps (Asks q) f.machine m
    → g ≡ record f { machine = m } → IsTold went g new → Turns went f new
is_asked f g new m q true steps same t =
    let a = asked f g m q steps same in (t.0 ∙ sym (told_so f g q a), t.1 ∙ ap (λ n. n + 1) a.steps)
is_asked f g new m q false steps same t =
    let a = asked f g m q steps same in (
      t.0 ∙ sym (told_so f g q a ∙ ap (λ o. told flat_calls o g) t.1),
      ap (λ (x : Feed Coding). x.machine.steps) t.0 ∙ a.steps,
    )

-- what may grow is read off the evaluator
grows_by : (m n : MachineState Coding) → m.eval ≡ n.eval → MayGrow m → MayGrow n
grows_by m n e (inl due) = inl (subst (λ x. due_grows flat_calls x.flow.next x ≡ true) e due)
grows_by m n e (inr asks) = inr (subst (λ x. is_some (asked_by flat_calls x) ≡ true) e asks)

pub is_unasked : (f g new : Feed Coding) (m : MachineState Coding) (q : Query) → Steps (Asks q) f.machine m
    → g ≡ record f { machine = m } → Untold g new → Breaks f new
is_unasked f g new m q steps same (inl (here, grows)) =
    let a = asked f g m q steps same in
    inl (subst (λ x. IsAt f x) (sym here) a.at, grows_by g.machine f.machine a.eval grows)
is_unasked f g new m q steps same (inr (there, more, due)) =
    let a = asked f g m q steps same in inr (there ∙ sym (told_so f g q a), more ∙ ap (λ n. n + 1) a.steps, due)

-- ---- by what was answered

pub turned_if : {E : Type 0} (r : Result Bool E) (f g new : Feed Coding) (m : MachineState Coding) (q : Query)
    → Steps (Asks q) f.machine m → g ≡ record f { machine = m } → IfOk r (λ went. IsTold went g new)
    → IfOk r (λ went. Turns went f new)
turned_if (Ok went) f g new m q steps same told = is_asked f g new m q went steps same told
turned_if (Err e) f g new m q steps same told = tt

pub broken_if : {A E : Type 0} (r : Result A E) (f g new : Feed Coding) (m : MachineState Coding) (q : Query)
    → Steps (Asks q) f.machine m → g ≡ record f { machine = m } → OnErr r (Untold g new) → OnErr r (Breaks f new)
broken_if (Ok a) f g new m q steps same untold = tt
broken_if (Err e) f g new m q steps same untold = is_unasked f g new m q steps same untold

pub on_err : {A E P : Type 0} (r : Result A E) → P → OnErr r P
on_err (Ok a) p = tt
on_err (Err e) p = p
