-- Turns of a machine with its devices.
use Rattle.std.proofs.Common.{◌≡◌, ℕ, zero, suc, ◌+◌, ◌-◌, ◌<◌, ◌≤◌, Bool, true, false, List, Option, Some, None}
use Rattle.std.proofs.Common.{Result, Ok, Err, OnErr, refl, sym, ap, subst, ◌∙◌, ◌⊎◌, inl, inr, arith, replicate}
use Rattle.std.proofs.Common.{is_some, if◌then◌else◌}
use Rattle.of_asking.specs.declared.query.Query.{Query}
use Rattle.of_devices.specs.Racks.{Meant, rack_answer, rack_told}
use Rattle.of_compile.specs.Coding.{Coding}
use Rattle.of_state.specs.State.{flat_calls}
use Rattle.of_machine.specs.Events.{Answers, CallsAgree, Step, after_events, done_by}
use Rattle.of_machine.specs.States.{HasMoved, MachineState, MayGrow, Steps, can_step, question, tried}
use Rattle.of_machine.specs.declared.answers.Progress.TheVariants.{Asks}
use Rattle.of_monitor.specs.Turns.{Attended, IsAsked, IsHeld, answered_by, turn, turns}

-- ---- so many turns, and as many more

pub joined : (a b : ℕ) (x : Attended Coding) → turns flat_calls b (turns flat_calls a x) ≡ turns flat_calls (b + a) x
unfolding turns
joined a zero x = ap (λ n. turns flat_calls n x) (zero_plus a)
  where
    zero_plus : (n : ℕ) → n ≡ 0 + n
    zero_plus n = omega arith
joined a (suc b) x =
    ap (turn flat_calls) (joined a b x) ∙ ap (λ n. turns flat_calls n x) (suc_plus b a)
  where
    suc_plus : (m n : ℕ) → suc (m + n) ≡ suc m + n
    suc_plus m n = omega arith

-- ---- where no step can be made

stays_by : (b : Bool) (m : MachineState Coding) → b ≡ false → (if b then tried flat_calls m.waiting m else m) ≡ m
stays_by true m e = absurd cc
stays_by false m e = refl

no_turn : (m : MachineState Coding) (ds : List Meant) → can_step m ≡ false → m.waiting ≡ None
    → turn flat_calls (m, ds) ≡ (m, ds)
no_turn m ds e calm =
    ap (λ n. answered_by flat_calls ds n.waiting n) (stays_by (can_step m) m e)
    ∙ ap (λ o. answered_by flat_calls ds o m) calm

pub no_turns : (n : ℕ) (m : MachineState Coding) (ds : List Meant) → can_step m ≡ false → m.waiting ≡ None
    → turns flat_calls n (m, ds) ≡ (m, ds)
unfolding turns
no_turns zero m ds e calm = refl
no_turns (suc n) m ds e calm = ap (turn flat_calls) (no_turns n m ds e calm) ∙ no_turn m ds e calm

-- ---- steps that ask nothing

open_stays_by : (b : Bool) (o : Option Query) (m : MachineState Coding) → is_some o ≡ true → m.waiting ≡ o
    → (if b then tried flat_calls o m else m).waiting ≡ o
open_stays_by true None m e w = absurd cc
open_stays_by true (Some q) m e w = w
open_stays_by false o m e w = w

-- a question that is open stays open
open_stays : (m : MachineState Coding) (q : Query) → m.waiting ≡ Some q
    → (done_by flat_calls Step m).waiting ≡ Some q
open_stays m q w =
    ap (λ o. (if can_step m then tried flat_calls o m else m).waiting) w
    ∙ open_stays_by (can_step m) (Some q) m refl w

calm_before : (o : Option Query) (m : MachineState Coding) → m.waiting ≡ o
    → (done_by flat_calls Step m).waiting ≡ None → m.waiting ≡ None
calm_before None m w e = w
calm_before (Some q) m w e =
    let both : Some q ≡ None = sym (open_stays m q w) ∙ e in absurd cc

pub one_turn : (m : MachineState Coding) (ds : List Meant) → (done_by flat_calls Step m).waiting ≡ None
    → turn flat_calls (m, ds) ≡ (done_by flat_calls Step m, ds)
one_turn m ds e = ap (λ o. answered_by flat_calls ds o (done_by flat_calls Step m)) e

steps_are_turns : (n : ℕ) (m : MachineState Coding) (ds : List Meant)
    → (after_events flat_calls (replicate n Step) m).waiting ≡ None
    → turns flat_calls n (m, ds) ≡ (after_events flat_calls (replicate n Step) m, ds)
unfolding turns after_events
steps_are_turns zero m ds e = refl
steps_are_turns (suc n) m ds e =
    let k = after_events flat_calls (replicate n Step) m in
    let calm : k.waiting ≡ None = calm_before k.waiting k refl e in
    ap (turn flat_calls) (steps_are_turns n m ds calm) ∙ one_turn k ds e

-- a machine that has moved is where as many turns lead
pub moved_turns : (old new : MachineState Coding) (ds : List Meant) → CallsAgree → old.waiting ≡ None
    → HasMoved old new → new.steps < 18446744073709551616
    → turns flat_calls (new.steps - old.steps) (old, ds) ≡ (new, ds)
moved_turns old new ds agree calm moved few =
    let n = new.steps - old.steps in
    let there : new ≡ after_events flat_calls (replicate n Step) old = agree.steps old new calm moved few in
    let now : new.waiting ≡ None = moved.4 ∙ calm in
    steps_are_turns n old ds (sym (ap (λ (m : MachineState Coding). m.waiting) there) ∙ now)
    ∙ ap (λ m. (m, ds)) (sym there)

-- ---- a step that asks

pub asking_turn : (m asks new : MachineState Coding) (ds : List Meant) (q : Query)
    → asks ≡ done_by flat_calls Step m → asks.waiting ≡ Some q
    → new ≡ done_by flat_calls (Answers (rack_answer ds q)) asks
    → turn flat_calls (m, ds) ≡ (new, rack_told ds q)
asking_turn m asks new ds q step waits answered =
    ap (λ n. answered_by flat_calls ds n.waiting n) (sym step) ∙ ap (λ o. answered_by flat_calls ds o asks) waits
    ∙ ap (λ n. (n, rack_told ds q)) (sym answered)

-- ---- what is left of so many turns

-- behind a stretch of steps that ask nothing
pub behind_run : (left : ℕ) (old new : MachineState Coding) (ds : List Meant) → CallsAgree → old.waiting ≡ None
    → HasMoved old new → new.steps < 18446744073709551616 → new.steps - old.steps ≤ left
    → turns flat_calls (left - (new.steps - old.steps)) (new, ds) ≡ turns flat_calls left (old, ds)
behind_run left old new ds agree calm moved few most =
    let n = new.steps - old.steps in
    ap (turns flat_calls (left - n)) (sym (moved_turns old new ds agree calm moved few))
    ∙ joined n (left - n) (old, ds)
    ∙ ap (λ k. turns flat_calls k (old, ds)) (sum left n most)
  where
    sum : (a b : ℕ) → b ≤ a → (a - b) + b ≡ a
    sum a b h = omega (arith, h)

-- one turn more
pub one_more : (n : ℕ) (x y z : Attended Coding) → turns flat_calls n x ≡ y → turn flat_calls y ≡ z
    → z ≡ turns flat_calls (n + 1) x
unfolding turns
one_more n x y z e made = sym made ∙ sym (ap (turn flat_calls) e) ∙ ap (λ k. turns flat_calls k x) (suc_is n)
  where
    suc_is : (n : ℕ) → suc n ≡ n + 1
    suc_is n = omega arith

-- where no step can be made, nothing is left to do
pub none_left : (left : ℕ) (old new : MachineState Coding) (ds : List Meant) → CallsAgree → old.waiting ≡ None
    → HasMoved old new → new.steps < 18446744073709551616 → new.steps - old.steps ≤ left → can_step new ≡ false
    → new.waiting ≡ None → (new, ds) ≡ turns flat_calls left (old, ds)
none_left left old new ds agree calm moved few most ended now =
    sym (no_turns (left - (new.steps - old.steps)) new ds ended now)
    ∙ behind_run left old new ds agree calm moved few most

-- none are made at first
pub none_yet : (limit : ℕ) (x : Attended Coding) → x ≡ turns flat_calls (limit - limit) x
unfolding turns
none_yet limit x = let none : limit - limit ≡ 0 = omega arith in ap (λ n. turns flat_calls n x) (sym none)

-- turns behind turns
pub goes_on : (limit left rest : ℕ) (x y z : Attended Coding) → y ≡ turns flat_calls (limit - left) x
    → z ≡ turns flat_calls (left - rest) y → rest ≤ left → left ≤ limit → z ≡ turns flat_calls (limit - rest) x
goes_on limit left rest x y z e made few most =
    let sum : (left - rest) + (limit - left) ≡ limit - rest = omega (arith, few, most) in
    made ∙ ap (turns flat_calls (left - rest)) e ∙ joined (limit - left) (left - rest) x
    ∙ ap (λ n. turns flat_calls n x) sum

-- ---- where memory is refused

pub held_here : (limit n : ℕ) (x y : Attended Coding) → n < limit → turns flat_calls n x ≡ y → MayGrow y.0
    → IsHeld limit x y
held_here limit n x y few there grows = record {
  made = n;
  few = few;
  grows = subst (λ (z : Attended Coding). MayGrow z.0) (sym there) grows;
  at = inl (sym there);
}

-- a step that asks may grow
pub asks_grow : (m n : MachineState Coding) (q : Query) → m.waiting ≡ None → Steps (Asks q) m n → MayGrow m
asks_grow m n q calm made = inr (ap is_some (sym (ap (λ o. question flat_calls o m) calm) ∙ made.1))

-- by a step that asks
pub held_asked : (limit n : ℕ) (x y z : Attended Coding) → n < limit → turns flat_calls n x ≡ y → MayGrow y.0
    → IsAsked y z → IsHeld limit x z
held_asked limit n x y z few there grows asked = record {
  made = n;
  few = few;
  grows = subst (λ (w : Attended Coding). MayGrow w.0) (sym there) grows;
  at = inr (subst (λ w. IsAsked w z) (sym there) asked);
}

-- behind turns that were made
pub held_behind : (limit left : ℕ) (x y z : Attended Coding) → y ≡ turns flat_calls (limit - left) x → left ≤ limit
    → IsHeld left y z → IsHeld limit x z
held_behind limit left x y z e most held =
    let n = held.made + (limit - left) in
    let there : turns flat_calls held.made y ≡ turns flat_calls n x =
    ap (turns flat_calls held.made) e ∙ joined (limit - left) held.made x in record {
      made = n;
      few = omega (arith, held.few, most);
      grows = subst (λ (w : Attended Coding). MayGrow w.0) there held.grows;
      at = subst (λ w. (z ≡ w) ⊎ IsAsked w z) there held.at;
    }

pub on_err : {A E P : Type 0} (r : Result A E) → P → OnErr r P
on_err (Ok a) p = tt
on_err (Err e) p = p
