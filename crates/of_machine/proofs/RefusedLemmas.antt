-- Runs for which memory is refused.
use Rattle.std.proofs.Common.{◌≡◌, ◌⊎◌, inl, inr, ℕ, Bool, true, false, List, [], ◌∷◌, Some, None, nat_le}
use Rattle.std.proofs.Common.{refl, sym, ap, subst, ◌∙◌, arith, OnErr, Result, Ok, Err}
use Rattle.std.proofs.lemmas.Bool.{leb-false}
use Rattle.std.specs.Prelude.{if◌then◌else◌, ◌<◌, ◌≤◌, ◌^◌}
use Rattle.of_asking.specs.Questions.{fits}
use Rattle.of_asking.specs.declared.query.Answer.{Answer}
use Rattle.of_asking.specs.declared.query.Query.{Query}
use Rattle.of_compile.specs.Coding.{Coding}
use Rattle.of_devices.specs.Racks.{Meant, rack_answer, rack_told}
use Rattle.of_state.specs.State.{flat_calls}
use Rattle.of_steps.specs.Steps.{due_grows}
use Rattle.of_refusal.specs.declared.refusal.Refusal.{Refusal}
use Rattle.of_refusal.specs.declared.refusal.Refusal.TheVariants as refusal
use Rattle.of_machine.specs.declared.script_run.Advance.TheVariants as advance
use Rattle.of_machine.specs.Racks.{HasGoneWith}
use Rattle.of_machine.specs.Refused.{IsHeld, IsHeldAlone, IsHeldWith, IsUnserved, IsUntold}
use Rattle.of_machine.specs.Refused.{has_line, is_first_due, told_open}
use Rattle.of_machine.specs.Runs.{Advances, AreLater, AreUpto, Due, Feed, HasGone, IsCalm, IsTold, asking, caught_up}
use Rattle.of_machine.specs.Runs.{clients_heard, fed, settled}
use Rattle.of_machine.specs.States.{HasMoved, MachineState, MayGrow, answer_refusal, answered, is_running, served}
use Rattle.of_machine.proofs.RackLemmas.{answered_with, goes_alone, goes_on_with}
use Rattle.of_machine.proofs.RunLemmas.{fewer_upto, goes, gone_on, is_told, none_due, reaches, same_waiting}
use Rattle.of_machine.proofs.RunLemmas.{still_later, still_none, told_on}

-- ---- what is handed in

left_by : (b : Bool) (m : MachineState Coding) (call : Due) (calls : List Due) → nat_le call.0 m.steps ≡ b
    → AreLater (caught_up (served m call.1) calls).0.steps (caught_up (served m call.1) calls).1
    → AreLater (if b then caught_up (served m call.1) calls else (m, call ∷ calls)).0.steps
    (if b then caught_up (served m call.1) calls else (m, call ∷ calls)).1
left_by true m call calls e more = more
left_by false m call calls e more = omega (arith, leb-false call.0 m.steps e)

-- the clients that are left are to be answered later
left_later : (m : MachineState Coding) (calls : List Due) → AreLater (caught_up m calls).0.steps (caught_up m calls).1
left_later m [] = tt
left_later m (call ∷ calls) =
    left_by (nat_le call.0 m.steps) m call calls refl (left_later (served m call.1) calls)

settled_later : (f : Feed Coding) → AreLater (settled f).machine.steps (settled f).calls
settled_later f = still_later (clients_heard f) (settled f) refl (left_later f.machine f.calls)

-- a client is left
pub client_left : (f new : Feed Coding) → clients_heard new ≡ clients_heard f
    → is_first_due new.calls new.machine.steps ≡ true → IsUnserved (settled f) new
client_left f new same due = (ap fed same, inl due)

-- or all were answered, and a line is left
pub line_left_over : (f g new : Feed Coding) → g ≡ clients_heard f → AreLater g.machine.steps g.calls → new ≡ g
    → has_line (is_running new.machine) new.lines ≡ true → IsUnserved (settled f) new
line_left_over f g new heard later same line =
    let still : clients_heard g ≡ g =
    ap (λ x. record g { machine = x.0; calls = x.1 }) (none_due g.machine g.calls later) in
    (ap settled same ∙ ap fed (still ∙ heard), inr line)

-- no question is open then, if none is behind all that is handed in
none_open : (f new : Feed Coding) → settled new ≡ f → f.machine.waiting ≡ None → new.machine.waiting ≡ None
none_open f new same none =
    sym (same_waiting new (settled new) refl) ∙ ap (λ (x : Feed Coding). x.machine.waiting) same ∙ none

-- ---- an answer

-- that is given is refused for memory alone
pub refused_alone : (m : MachineState Coding) (answer : Answer) (e : Refusal) → answer_refusal m.waiting answer ≡ None
    → (answer_refusal m.waiting answer ≡ Some e)
    ⊎ ((answer_refusal m.waiting answer ≡ None) × (e ≡ refusal.NoMemory)
    × (due_grows flat_calls m.eval.flow.next m.eval ≡ true)) → MayGrow m
refused_alone m answer e accepted (inl why) = absurd (no_some (sym accepted ∙ why))
  where
    no_some : {e : Refusal} → None ≡ Some e → ⊥
    no_some h = cc
refused_alone m answer e accepted (inr why) = inl why.2

-- and behind the step, something is left
pub untold_so : (f g new : Feed Coding) (m : MachineState Coding) (answer : Answer) (rest : List Answer)
    → f.answers ≡ answer ∷ rest → answer_refusal f.machine.waiting answer ≡ None
    → m ≡ answered flat_calls answer f.machine → g ≡ record f { machine = m; answers = rest }
    → IsUnserved (settled g) new → IsUntold f new
untold_so f g new m answer rest split accepted moved same left =
    inr (
      subst (λ x. IsTold f x) (sym left.0)
          (is_told f g (settled g) m answer rest split accepted moved same refl (settled_later g)),
      left.1,
    )

-- ---- an advance

-- behind its last step
pub held_behind : (f g new : Feed Coding) (m : MachineState Coding) (until limit : ℕ) → IsCalm f
    → HasMoved f.machine m → m.steps < 2 ^ 64 → m.steps ≤ until → until ≤ limit → AreUpto until f.calls
    → g ≡ record f { machine = m } → IsUnserved (settled g) new → IsHeldAlone limit f new
held_behind f g new m until limit calm moves few upon within upto same left =
    let h = settled g in
    let there =
    reaches f g h m m.steps calm moves few refl (fewer_upto m.steps until f.calls upto upon) same refl
    (settled_later g) in
    (h, there.0, omega (arith, there.1, upon, within), inl left, none_open h new left.0 there.0.0.2.1)

-- before a step
pub held_before : (f new : Feed Coding) (m : MachineState Coding) (until limit : ℕ) → IsCalm f → HasMoved f.machine m
    → m.steps < 2 ^ 64 → m.steps < until → until ≤ limit → AreUpto until f.calls → is_running m ≡ true
    → new ≡ record f { machine = m } → MayGrow m → IsHeldAlone limit f new
held_before f new m until limit calm moves few less within upto runs same grows =
    let h : Feed Coding = record f { machine = m } in (
      h,
      goes f m until calm moves few less upto runs,
      omega (arith, less, within),
      inr (
        omega (arith, less, within),
        (inl same, subst (λ (x : Feed Coding). MayGrow x.machine) (sym same) grows),
      ),
      ap (λ (x : Feed Coding). x.machine.waiting) same ∙ still_none f m calm moves,
    )

-- ---- a round

pub held_alone : (limit : ℕ) (f new : Feed Coding) → IsHeldAlone limit f new → IsHeld limit f new
held_alone limit f new held = (held.0, held.1.0, held.2, held.3)

-- at a question
pub held_asking : (f g new : Feed Coding) (q : Query) (limit : ℕ) → Advances limit (advance.Asks q) f g
    → IsUntold g new → IsHeld limit f new
held_asking f g new q limit asks (inl (here, grows)) =
    let h = asks.0 in (
      h,
      asks.1.0,
      omega (arith, asks.2),
      inr (
        asks.2,
        (
          inr (q, asks.4, here ∙ asks.5),
          subst (λ (x : Feed Coding). MayGrow x.machine) (sym here) grows,
        ),
      ),
    )
held_asking f g new q limit asks (inr (told, due)) =
    let n = settled new in
    let on = told_on f g n q limit asks told in (n, on.0, on.2, inl (refl, due))

pub held_on : (limit : ℕ) (f g new : Feed Coding) → HasGone f g → IsHeld limit g new → IsHeld limit f new
held_on limit f g new before held = (held.0, gone_on f g held.0 before held.1, held.2, held.3)

-- ---- where a rack answers

pub held_silent : (limit : ℕ) (ds : List Meant) (f new : Feed Coding) → f.answers ≡ [] → IsHeldAlone limit f new
    → IsHeldWith limit ds ds f new
held_silent limit ds f new none held = (
  held.0,
  ds,
  goes_alone ds f held.0 none held.1,
  held.2,
  held.3,
  sym (ap (told_open ds) held.4),
)

pub held_answered : (limit : ℕ) (ds : List Meant) (f g new : Feed Coding) (q : Query) (x : Answer) → f.answers ≡ []
    → Advances limit (advance.Asks q) f g → x ≡ rack_answer ds q → fits q x ≡ true
    → ((new ≡ g) × MayGrow g.machine)
    ⊎ IsUnserved (settled (record g { machine = answered flat_calls x g.machine })) new
    → IsHeldWith limit ds (rack_told ds q) f new
held_answered limit ds f g new q x none asks gives fit (inl (here, grows)) =
    let h = asks.0 in
    let asking_so : new ≡ asking q h = here ∙ asks.5 in (
      h,
      ds,
      goes_alone ds f h none asks.1,
      omega (arith, asks.2),
      inr (
        asks.2,
        (
          inr (q, asks.4, asking_so),
          subst (λ (x : Feed Coding). MayGrow x.machine) (sym here) grows,
        ),
      ),
      sym (ap (λ (x : Feed Coding). told_open ds x.machine.waiting) asking_so),
    )
held_answered limit ds f g new q x none asks gives fit (inr left) =
    let with_it : Feed Coding = record g { machine = answered flat_calls x g.machine } in
    let n = settled with_it in
    let on = answered_with ds f g n q limit x none asks gives fit refl (settled_later with_it) in
    let quiet : new.machine.waiting ≡ None = none_open n new left.0 on.0.3.2.1 in
    (n, rack_told ds q, on.0, on.2, inl left, sym (ap (told_open (rack_told ds q)) quiet))

pub held_on_with : (limit : ℕ) (ds es hs : List Meant) (f g new : Feed Coding) → HasGoneWith ds es f g
    → IsHeldWith limit es hs g new → IsHeldWith limit ds hs f new
held_on_with limit ds es hs f g new before held = (
  held.0,
  held.1,
  goes_on_with ds es held.1 f g held.0 before held.2,
  held.3,
  held.4,
  held.5,
)

-- ---- by what was answered

pub on_err : {A E P : Type 0} (r : Result A E) → P → OnErr r P
on_err (Ok a) p = tt
on_err (Err e) p = p

-- what follows of a refusal
pub so_err : {A E P Q : Type 0} (r : Result A E) → (P → Q) → OnErr r P → OnErr r Q
so_err (Ok a) f p = tt
so_err (Err e) f p = f p

pub both_err : {A E P Q R : Type 0} (r : Result A E) → (P → Q → R) → OnErr r P → OnErr r Q → OnErr r R
both_err (Ok a) f p q = tt
both_err (Err e) f p q = f p q
