-- What a turn comes to.
use Rattle.std.proofs.Common.{◌≡◌, inl, inr, ◌+◌, Bool, true, false, Option, Some, None, refl}
use Rattle.std.proofs.Common.{ap, sym, subst, ◌∙◌}
use Rattle.std.proofs.lemmas.Bool.{and_parts}
use Rattle.std.specs.Prelude.{◌-◌, ◌^◌, drop, nat_lt}
use Rattle.of_asking.specs.declared.query.Answer.{Answer}
use Rattle.of_asking.specs.declared.query.Query.{Query}
use Rattle.of_compile.specs.Coding.{Coding}
use Rattle.of_state.specs.State.{flat_calls}
use Rattle.of_steps.specs.Steps.{asked_by}
use Rattle.of_machine.specs.States.{MachineState, MayGrow, answered, can_step, is_running, moved}
use Rattle.of_machine.specs.Runs.{AreLater, Feed, asking, fitting, settled, told, turned}
use Rattle.of_debug.proofs.FeedLemmas.{rests, settled_again, settled_later, settled_steps}
use Rattle.of_debug.specs.Turns.{IsAt, resumed, turn}

-- ---- the cases of a turn

pub turn_none : (f : Feed Coding) → can_step f.machine ≡ false → turn flat_calls f ≡ f
unfolding turn
turn_none f can = rw can refl

pub turn_some : (f : Feed Coding) → can_step f.machine ≡ true
    → turn flat_calls f ≡ resumed flat_calls f.machine.waiting f
unfolding turn
turn_some f can = rw can refl

-- a step that doesn't ask
pub turn_moves : (f : Feed Coding) → can_step f.machine ≡ true → f.machine.waiting ≡ None
    → asked_by flat_calls f.machine.eval ≡ None
    → turn flat_calls f ≡ settled (record f { machine = moved flat_calls f.machine })
turn_moves f can none quiet =
    turn_some f can ∙ ap (λ o. resumed flat_calls o f) none ∙ ap (λ o. turned flat_calls o f) quiet

-- one that does
pub turn_asks : (f : Feed Coding) (q : Query) → can_step f.machine ≡ true → f.machine.waiting ≡ None
    → asked_by flat_calls f.machine.eval ≡ Some q
    → turn flat_calls f ≡ told flat_calls (fitting q f.answers) (asking q f)
turn_asks f q can none asks =
    turn_some f can ∙ ap (λ o. resumed flat_calls o f) none ∙ ap (λ o. turned flat_calls o f) asks

-- one whose question is open
pub turn_open : (f : Feed Coding) (q : Query) → can_step f.machine ≡ true → f.machine.waiting ≡ Some q
    → turn flat_calls f ≡ told flat_calls (fitting q f.answers) f
turn_open f q can waits = turn_some f can ∙ ap (λ o. resumed flat_calls o f) waits

-- with its question open a feed goes on as it does without
pub turn_at : (f g : Feed Coding) → IsAt f g → turn flat_calls g ≡ turn flat_calls f
turn_at f g (inl same) = ap (turn flat_calls) same
turn_at f g (inr (q, can, none, asks, same)) =
    ap (turn flat_calls) same ∙ turn_open (asking q f) q can refl ∙ sym (turn_asks f q can none asks)

-- ---- what each leaves

-- a step was made, and what is due is handed in; or none was, and its question may be open
pub data Turned (f g : Feed Coding) : Type 0 where
  Went : settled g ≡ g → g.machine.steps ≡ f.machine.steps + 1 → Turned f g
  Stayed : IsAt f g → Turned f g

same_turned : (f g h : Feed Coding) → g ≡ h → Turned f h → Turned f g
same_turned f g h e t = subst (λ x. Turned f x) (sym e) t

told_so : (f g : Feed Coding) (o : Option Answer) → IsAt f g → g.machine.steps ≡ f.machine.steps
    → Turned f (told flat_calls o g)
told_so f g None at steps = Stayed at
told_so f g (Some answer) at steps =
    let h : Feed Coding = record g { machine = answered flat_calls answer g.machine; answers = drop 1 g.answers } in
    Went (settled_again h) (settled_steps h ∙ ap (λ n. n + 1) steps)

asked_turned : (f : Feed Coding) (o : Option Query) → can_step f.machine ≡ true → f.machine.waiting ≡ None
    → asked_by flat_calls f.machine.eval ≡ o → Turned f (turn flat_calls f)
asked_turned f None can none quiet =
    let h : Feed Coding = record f { machine = moved flat_calls f.machine } in
    same_turned f _ _ (turn_moves f can none quiet) (Went (settled_again h) (settled_steps h))
asked_turned f (Some q) can none asks =
    same_turned f _ _ (turn_asks f q can none asks)
    (told_so f (asking q f) (fitting q f.answers) (inr (q, can, none, asks, refl)) refl)

waiting_turned : (f : Feed Coding) (o : Option Query) → can_step f.machine ≡ true → f.machine.waiting ≡ o
    → Turned f (turn flat_calls f)
waiting_turned f None can none = asked_turned f (asked_by flat_calls f.machine.eval) can none refl
waiting_turned f (Some q) can waits =
    same_turned f _ _ (turn_open f q can waits) (told_so f f (fitting q f.answers) (inl refl) refl)

by_can : (f : Feed Coding) (b : Bool) → can_step f.machine ≡ b → Turned f (turn flat_calls f)
by_can f true can = waiting_turned f f.machine.waiting can refl
by_can f false can = same_turned f _ _ (turn_none f can) (Stayed (inl refl))

pub turned_so : (f : Feed Coding) → Turned f (turn flat_calls f)
turned_so f = by_can f (can_step f.machine) refl

-- ---- a question leaves all handed in

runs_if : (m : MachineState Coding) → can_step m ≡ true → is_running m ≡ true
runs_if m can = (and_parts (is_running m) (nat_lt m.steps (2 ^ 64 - 1)) can).0

pub later_so : (f : Feed Coding) → settled f ≡ f → AreLater f.machine.steps f.calls
later_so f full = subst (λ (x : Feed Coding). AreLater x.machine.steps x.calls) full (settled_later f)

pub settled_at : (f g : Feed Coding) → IsAt f g → settled f ≡ f → settled g ≡ g
settled_at f g (inl same) full = subst (λ x. settled x ≡ x) (sym same) full
settled_at f g (inr (q, can, none, asks, same)) full =
    subst (λ x. settled x ≡ x) (sym same) (rests (asking q f) (later_so f full) (inl (runs_if f.machine can)))

-- and no step is made by it
pub steps_at : (f g : Feed Coding) → IsAt f g → g.machine.steps ≡ f.machine.steps
steps_at f g (inl same) = ap (λ (x : Feed Coding). x.machine.steps) same
steps_at f g (inr (q, can, none, asks, same)) = ap (λ (x : Feed Coding). x.machine.steps) same

-- and it may grow as without
pub grows_at : (f g : Feed Coding) → IsAt f g → MayGrow f.machine → MayGrow g.machine
grows_at f g (inl same) grows = subst (λ (x : Feed Coding). MayGrow x.machine) (sym same) grows
grows_at f g (inr (q, can, none, asks, same)) grows =
    subst (λ (x : Feed Coding). MayGrow x.machine) (sym same) grows

settled_by : (f g : Feed Coding) → Turned f g → settled f ≡ f → settled g ≡ g
settled_by f g (Went rest steps) full = rest
settled_by f g (Stayed at) full = settled_at f g at full

pub settled_turn : (f : Feed Coding) → settled f ≡ f → settled (turn flat_calls f) ≡ turn flat_calls f
settled_turn f full = settled_by f (turn flat_calls f) (turned_so f) full
