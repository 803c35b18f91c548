-- Runs over structure: turn by turn they are those over cells, laid out; and how a run ends.
use Rattle.std.proofs.Common.{◌≡◌, ◌⊎◌, inl, inr, ℕ, zero, suc, ◌+◌, Bool, true, false, List, [], ◌∷◌, Option}
use Rattle.std.proofs.Common.{Some, None, refl}
use Rattle.std.proofs.Common.{ap, sym, subst, ◌∙◌, nat_lt, nat_le, arith}
use Rattle.std.specs.Prelude.{if◌then◌else◌, ◌<◌, ◌≤◌, ◌^◌, ◌-◌, ◌&&◌, drop, is_none, is_some}
use Rattle.std.proofs.lemmas.Bool.Decides.{nat_tests}
use Rattle.of_compile.specs.Structured.{Definitions, flat_of}
use Rattle.of_compile.specs.Coding.{Coding}
use Rattle.of_state.specs.State.{State, flat_calls}
use Rattle.of_asking.specs.declared.query.Answer.{Answer}
use Rattle.of_asking.specs.declared.query.Query.{Query}
use Rattle.of_steps.specs.Steps.{answered as eval_answered, asked_by, replied}
use Rattle.of_state.specs.Loading.{first_state}
use Rattle.of_eval_laws.specs.Structured.{StepsAgree, flat_state, structured_calls, no_definitions}
use Rattle.of_eval_laws.specs.Placed.{AllPlaced, StatesStayPlaced}
use Rattle.of_machine.specs.declared.answers.End.TheVariants.{Done, LimitReached}
use Rattle.of_machine.specs.States.{MachineState, answered, can_step}
use Rattle.of_machine.specs.States.{flat_machine, idle, is_running, loaded}
use Rattle.of_machine.specs.States.{moved, served, slot}
use Rattle.of_machine.proofs.EventLemmas.{begun_flat}
use Rattle.of_machine.specs.Runs.{Due, Feed, IsOver, RunsAgree}
use Rattle.of_machine.specs.Runs.{RunsTo, States, after, asking, beginning, caught_up, end_of}
use Rattle.of_machine.specs.Runs.{clients_heard, fed, fed_by, fitting, next}
use Rattle.of_machine.specs.Runs.{settled, told, turned}

-- ---- turns

flat_served : (m : MachineState Definitions) (calls : List Due)
    → caught_up (flat_machine m) calls ≡ (flat_machine (caught_up m calls).0, (caught_up m calls).1)
flat_served m [] = refl
flat_served m (call ∷ calls) = served_if (nat_le call.0 m.steps) m call calls (flat_served (served m call.1) calls)
  where
    served_if : (b : Bool) (m : MachineState Definitions) (call : Due) (calls : List Due)
        → caught_up (flat_machine (served m call.1)) calls
        ≡ (flat_machine (caught_up (served m call.1) calls).0, (caught_up (served m call.1) calls).1)
        → (if b then caught_up (served (flat_machine m) call.1) calls else (flat_machine m, call ∷ calls))
        ≡ (
          flat_machine (if b then caught_up (served m call.1) calls else (m, call ∷ calls)).0,
          (if b then caught_up (served m call.1) calls else (m, call ∷ calls)).1,
        )
    served_if true m call calls h = h
    served_if false m call calls h = refl

abbrev flat_feed : Feed Definitions → Feed Coding
flat_feed f = record { machine = flat_machine f.machine; lines = f.lines; answers = f.answers; calls = f.calls }

fed_flat : (b : Bool) (lines : List (List ℕ)) (f : Feed Definitions)
    → fed_by b lines (flat_feed f) ≡ flat_feed (fed_by b lines f)
fed_flat true lines f = refl
fed_flat false [] f = refl
fed_flat false (line ∷ lines) f = refl

settled_flat : (f : Feed Definitions) → settled (flat_feed f) ≡ flat_feed (settled f)
settled_flat f =
    let heard = clients_heard f in
    ap (λ (x : MachineState Coding × List Due). fed (record (flat_feed f) { machine = x.0; calls = x.1 }))
    (flat_served f.machine f.calls)
    ∙ fed_flat (is_running heard.machine) heard.lines heard

same_eval : (m : MachineState Definitions) (calls : List Due) → (caught_up m calls).0.eval ≡ m.eval
same_eval m [] = refl
same_eval m (call ∷ calls) = same_if (nat_le call.0 m.steps) m call calls (same_eval (served m call.1) calls)
  where
    same_if : (b : Bool) (m : MachineState Definitions) (call : Due) (calls : List Due)
        → (caught_up (served m call.1) calls).0.eval ≡ m.eval
        → (if b then caught_up (served m call.1) calls else (m, call ∷ calls)).0.eval ≡ m.eval
    same_if true m call calls h = h
    same_if false m call calls h = refl

fed_placed : (b : Bool) (lines : List (List ℕ)) (f : Feed Definitions) → StatesStayPlaced → AllPlaced f.machine.eval
    → AllPlaced (fed_by b lines f).machine.eval
fed_placed true lines f stay placed = placed
fed_placed false [] f stay placed = placed
fed_placed false (line ∷ lines) f stay placed = stay.line line f.machine.eval placed

still_placed : (f : Feed Definitions) → StatesStayPlaced → AllPlaced f.machine.eval
    → AllPlaced (settled f).machine.eval
still_placed f stay placed =
    let heard = clients_heard f in
    fed_placed (is_running heard.machine) heard.lines heard stay
    (subst (λ s. AllPlaced s) (sym (same_eval f.machine f.calls)) placed)

-- a turn without a question, and one with its answer, if there is one
moved_flat : (f : Feed Definitions) → StepsAgree → StatesStayPlaced → AllPlaced f.machine.eval
    → settled (record (flat_feed f) { machine = moved flat_calls (flat_machine f.machine) })
    ≡ flat_feed (settled (record f { machine = moved structured_calls f.machine }))
moved_flat f agree stay placed =
    ap (λ (s : State Coding). settled (record (flat_feed f) {
      machine = record (flat_machine f.machine) { eval = s; steps = f.machine.steps + 1 };
    }))
    (agree.step f.machine.eval (stay.next f.machine.eval placed))
    ∙ settled_flat (record f { machine = moved structured_calls f.machine })

pub answered_flat : (answer : Answer) (s : State Definitions) → StepsAgree → StatesStayPlaced → AllPlaced s
    → eval_answered flat_calls answer (flat_state s) ≡ flat_state (eval_answered structured_calls answer s)
answered_flat answer s agree stay placed =
    ap (λ (t : State Coding). record t { reply = s.reply })
    (agree.step (replied answer s) (stay.next (replied answer s) placed))

told_flat : (o : Option Answer) (f : Feed Definitions) → StepsAgree → StatesStayPlaced → AllPlaced f.machine.eval
    → told flat_calls o (flat_feed f) ≡ flat_feed (told structured_calls o f)
told_flat None f agree stay placed = refl
told_flat (Some answer) f agree stay placed =
    ap (λ (s : State Coding). settled (record (flat_feed f) {
      machine = record (flat_machine f.machine) { eval = s; steps = f.machine.steps + 1; waiting = None };
      answers = drop 1 f.answers;
    }))
    (answered_flat answer f.machine.eval agree stay placed)
    ∙ settled_flat (record f { machine = answered structured_calls answer f.machine; answers = drop 1 f.answers })

question_flat : (o : Option Query) (f : Feed Definitions) → StepsAgree → StatesStayPlaced → AllPlaced f.machine.eval
    → turned flat_calls o (flat_feed f) ≡ flat_feed (turned structured_calls o f)
question_flat None f agree stay placed = moved_flat f agree stay placed
question_flat (Some q) f agree stay placed = told_flat (fitting q f.answers) (asking q f) agree stay placed

turned_flat : (b : Bool) (f : Feed Definitions) → StepsAgree → StatesStayPlaced → AllPlaced f.machine.eval →
    (if b then turned flat_calls (asked_by flat_calls (flat_state f.machine.eval)) (flat_feed f) else flat_feed f)
    ≡ flat_feed (if b then turned structured_calls (asked_by structured_calls f.machine.eval) f else f)
turned_flat true f agree stay placed =
    ap (λ o. turned flat_calls o (flat_feed f))
    (agree.asks f.machine.eval (stay.next f.machine.eval placed))
    ∙ question_flat (asked_by structured_calls f.machine.eval) f agree stay placed
turned_flat false f agree stay placed = refl

pub answered_placed : (answer : Answer) (s : State Definitions) → StatesStayPlaced → AllPlaced s
    → AllPlaced (eval_answered structured_calls answer s)
answered_placed answer s stay placed = stay.step (replied answer s) placed

told_placed : (o : Option Answer) (f : Feed Definitions) → StatesStayPlaced → AllPlaced f.machine.eval
    → AllPlaced (told structured_calls o f).machine.eval
told_placed None f stay placed = placed
told_placed (Some answer) f stay placed =
    still_placed (record f { machine = answered structured_calls answer f.machine; answers = drop 1 f.answers }) stay
    (answered_placed answer f.machine.eval stay placed)

question_placed : (o : Option Query) (f : Feed Definitions) → StatesStayPlaced → AllPlaced f.machine.eval
    → AllPlaced (turned structured_calls o f).machine.eval
question_placed None f stay placed =
    still_placed (record f { machine = moved structured_calls f.machine }) stay (stay.step f.machine.eval placed)
question_placed (Some q) f stay placed = told_placed (fitting q f.answers) (asking q f) stay placed

stays : (b : Bool) (f : Feed Definitions) → StatesStayPlaced → AllPlaced f.machine.eval →
    AllPlaced (if b then turned structured_calls (asked_by structured_calls f.machine.eval) f else f).machine.eval
stays true f stay placed = question_placed (asked_by structured_calls f.machine.eval) f stay placed
stays false f stay placed = placed

abbrev turns : Feed Definitions → Bool
turns f = can_step f.machine && is_none f.machine.waiting

all_placed : (n : ℕ) (f : Feed Definitions) → StatesStayPlaced → AllPlaced f.machine.eval
    → AllPlaced (after structured_calls n f).machine.eval
unfolding after next
all_placed zero f stay placed = placed
all_placed (suc n) f stay placed =
    let g = after structured_calls n f in
    stays (turns g) g stay (all_placed n f stay placed)

feeds_agree : (n : ℕ) (f : Feed Definitions) → StepsAgree → StatesStayPlaced → AllPlaced f.machine.eval
    → after flat_calls n (flat_feed f) ≡ flat_feed (after structured_calls n f)
unfolding after next
feeds_agree zero f agree stay placed = refl
feeds_agree (suc n) f agree stay placed =
    let g = after structured_calls n f in
    ap (next flat_calls) (feeds_agree n f agree stay placed)
    ∙ turned_flat (turns g) g agree stay (all_placed n f stay placed)

pub runs_agree : StepsAgree → StatesStayPlaced → RunsAgree
runs_agree agree stay image lines answers calls n =
    let first : State Definitions = first_state no_definitions in
    let begun : Feed Definitions =
    record { machine = loaded (idle no_definitions) image slot; lines = lines; answers = answers; calls = calls } in
    let from : beginning (flat_of no_definitions) image lines answers calls ≡ flat_feed (settled begun) =
    ap (λ s. settled (record {
      machine = record { eval = s; steps = 0; replies = []; asked = []; waiting = None };
      lines = lines;
      answers = answers;
      calls = calls;
    }))
    (begun_flat image slot first)
    ∙ settled_flat begun in
    ap (λ (g : Feed Coding). (after flat_calls n g).machine) from
    ∙ ap (λ (g : Feed Coding). g.machine)
    (feeds_agree n (settled begun) agree stay (still_placed begun stay (stay.begun image slot first stay.first)))

-- ---- ends

-- nothing runs, or a run stops at its limit
pub stopped : (m : MachineState Coding) (limit : ℕ) → limit < 2 ^ 64 → m.steps ≤ limit → is_running m ≡ true
    → (m.steps ≡ limit) ⊎ (can_step m ≡ false) → m.steps ≡ limit
stopped m limit small few runs (inl e) = e
stopped m limit small few runs (inr e) =
    let counted : nat_lt m.steps (2 ^ 64 - 1) ≡ false =
    ap (λ b. b && nat_lt m.steps (2 ^ 64 - 1)) (sym runs) ∙ e in
    grind (arith, nat_tests)

-- a run, and its end
ends : (b : Bool) (image : List ℕ) (lines : List (List ℕ)) (answers : List Answer) (calls : List Due) (limit : ℕ)
    (m : MachineState Coding)
    → is_running m ≡ b → m ≡ flat_machine (States image lines answers calls m.steps) → m.steps ≤ limit
    → limit < 2 ^ 64 → (m.steps ≡ limit) ⊎ (can_step m ≡ false) → m.waiting ≡ None
    → RunsTo image lines answers calls limit m (if b then LimitReached else Done)
ends true image lines answers calls limit m runs same few small why none =
    (same, runs, stopped m limit small few runs why, none)
ends false image lines answers calls limit m runs same few small why none = (same, runs, few)

-- so many turns from the beginning
reached : RunsAgree → (image : List ℕ) (lines : List (List ℕ)) (answers : List Answer) (calls : List Due) (n : ℕ)
    (start f : Feed Coding)
    → start ≡ beginning (flat_of no_definitions) image lines answers calls → after flat_calls n start ≡ f
    → f.machine ≡ flat_machine (States image lines answers calls n)
reached agree image lines answers calls n start f e h =
    ap (λ (x : Feed Coding). x.machine) (sym h ∙ ap (after flat_calls n) e) ∙ agree image lines answers calls n

pub run_ends : RunsAgree → (image : List ℕ) (lines : List (List ℕ)) (answers : List Answer) (calls : List Due)
    (limit : ℕ) (start f : Feed Coding) → start ≡ beginning (flat_of no_definitions) image lines answers calls
    → limit < 2 ^ 64
    → start.machine.steps ≡ 0 → IsOver limit start f
    → RunsTo image lines answers calls limit f.machine (end_of f.machine.waiting (is_running f.machine))
run_ends agree image lines answers calls limit start f e small none (inl x) =
    let m = f.machine in
    let n : m.steps - start.machine.steps ≡ m.steps = omega (arith, none) in
    let turns : after flat_calls m.steps start ≡ f = ap (λ k. after flat_calls k start) (sym n) ∙ x.0.1 in
    let same : m ≡ flat_machine (States image lines answers calls m.steps)
    = reached agree image lines answers calls m.steps start f e turns in
    let quiet : m.waiting ≡ None = x.0.2.1 in
    subst (λ o. RunsTo image lines answers calls limit m (end_of o (is_running m))) (sym quiet)
    (ends (is_running m) image lines answers calls limit m refl same x.1 small x.2 quiet)
run_ends agree image lines answers calls limit start f e small none (inr x) =
    let m = f.machine in
    let n : m.steps - start.machine.steps + 1 ≡ m.steps + 1 = omega (arith, none) in
    let turns : after flat_calls (m.steps + 1) start ≡ f = ap (λ k. after flat_calls k start) (sym n) ∙ x.3 in
    let same : m ≡ flat_machine (States image lines answers calls (m.steps + 1))
    = reached agree image lines answers calls (m.steps + 1) start f e turns in
    by_question m.waiting refl x.2 same x.1
  where
    by_question : (o : Option Query) → f.machine.waiting ≡ o → is_some o ≡ true
        → f.machine ≡ flat_machine (States image lines answers calls (f.machine.steps + 1))
        → f.machine.steps < limit
        → RunsTo image lines answers calls limit f.machine (end_of o (is_running f.machine))
    by_question None e h same few = cc
    by_question (Some q) e h same few = (same, ap is_some e, few)
