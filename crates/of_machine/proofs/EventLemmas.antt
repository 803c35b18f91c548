-- The law `calls_agree`.
use Rattle.std.proofs.Common.{◌≡◌, ℕ, zero, suc, ◌+◌, ◌-◌, ◌<◌, ◌≤◌, ◌^◌, Bool, true, false, List, [], ◌∷◌, Option}
use Rattle.std.proofs.lemmas.Option.{same_Some}
use Rattle.std.proofs.Common.{Some, None, Result, Ok, Err, refl, ap, sym, ◌∙◌, nat_lt, arith}
use Rattle.std.specs.Prelude.{if◌then◌else◌, option_and_then, replicate, ◌&&◌, is_none}
use Rattle.std.proofs.lemmas.Bool.Decides.{nat_tests}
use Rattle.of_memory.specs.DataSpace.{DataSpace}
use Rattle.of_cells.specs.declared.cells.Cell.{Cell}
use Rattle.of_ihandles.specs.Table.{InstanceTable}
use Rattle.of_ihandles.specs.declared.instance_fault.InstanceFault.{InstanceFault}
use Rattle.of_nodes.specs.declared.phandles.Phandle.{Phandle}
use Rattle.of_asking.specs.declared.query.Answer.{Answer}
use Rattle.of_asking.specs.declared.query.Query.{Query}
use Rattle.of_compile.specs.Structured.{Definitions}
use Rattle.of_compile.specs.Coding.{Coding}
use Rattle.of_state.specs.State.{State, flat_calls}
use Rattle.of_steps.specs.Steps.{asked_by, made, replied, stepped, steps_from}
use Rattle.of_state.specs.Loading.{begun, begun_by, begun_unless, instance_on, load_fault}
use Rattle.of_state.specs.declared.load_fault.LoadFault.{LoadFault}
use Rattle.of_eval_laws.specs.Structured.{StepsAgree, structured_calls, flat_state, no_definitions}
use Rattle.of_eval_laws.specs.Placed.{AllPlaced, StatesStayPlaced}
use Rattle.of_refusal.specs.declared.refusal.Refusal.{Refusal}
use Rattle.of_machine.specs.Events.{Answers, CallsAgree, Client, Event, Line, Load, Step, after_events, done_by}
use Rattle.of_machine.specs.Events.{lined_unless, loaded_unless}
use Rattle.of_machine.specs.States.{HasMoved, MachineState, answer_refusal, answered_unless, can_step, flat_machine}
use Rattle.of_machine.specs.States.{idle, line_refusal, load_refusal, loaded_for, made_or_opened, node_at, tried}

-- ---- an image

opened_flat : (image : List ℕ) (node : Phandle) (r : Result (Cell × (InstanceTable × DataSpace)) InstanceFault)
    (s : State Definitions) → begun_by image node r (flat_state s) ≡ flat_state (begun_by image node r s)
opened_flat image node (Ok x) s = refl
opened_flat image node (Err fault) s = refl

faults_flat : (image : List ℕ) (node : Phandle) (o : Option LoadFault) (s : State Definitions)
    → begun_unless o image node (flat_state s) ≡ flat_state (begun_unless o image node s)
faults_flat image node None s = opened_flat image node (instance_on node s.board) s
faults_flat image node (Some fault) s = refl

pub begun_flat : (image : List ℕ) (node : Phandle) (s : State Definitions)
    → begun image node (flat_state s) ≡ flat_state (begun image node s)
begun_flat image node s = faults_flat image node (load_fault image node s) s

loaded_flat : (o : Option Phandle) (image : List ℕ) (m : MachineState Definitions)
    → loaded_for (flat_machine m) image o ≡ flat_machine (loaded_for m image o)
loaded_flat None image m = refl
loaded_flat (Some node) image m =
    ap (λ (s : State Coding). record (flat_machine m) { eval = s }) (begun_flat image node m.eval)

loaded_placed : (o : Option Phandle) (image : List ℕ) (m : MachineState Definitions) → StatesStayPlaced
    → AllPlaced m.eval → AllPlaced (loaded_for m image o).eval
loaded_placed None image m stay placed = placed
loaded_placed (Some node) image m stay placed =
    stay.begun image node m.eval placed

unless_flat : (o : Option Refusal) (m : MachineState Definitions) (image path : List ℕ)
    → loaded_unless o (flat_machine m) image path ≡ flat_machine (loaded_unless o m image path)
unless_flat (Some e) m image path = refl
unless_flat None m image path = loaded_flat (node_at m path) image m

unless_placed : (o : Option Refusal) (m : MachineState Definitions) (image path : List ℕ) → StatesStayPlaced
    → AllPlaced m.eval → AllPlaced (loaded_unless o m image path).eval
unless_placed (Some e) m image path stay placed = placed
unless_placed None m image path stay placed = loaded_placed (node_at m path) image m stay placed

-- ---- a line

line_flat : (o : Option Refusal) (text : List ℕ) (m : MachineState Definitions)
    → lined_unless o (flat_machine m) text ≡ flat_machine (lined_unless o m text)
line_flat (Some e) text m = refl
line_flat None text m = refl

line_placed : (o : Option Refusal) (text : List ℕ) (m : MachineState Definitions) → StatesStayPlaced
    → AllPlaced m.eval → AllPlaced (lined_unless o m text).eval
line_placed (Some e) text m stay placed = placed
line_placed None text m stay placed = stay.line text m.eval placed

-- ---- a step

made_flat : (o : Option Query) (m : MachineState Definitions) → StepsAgree → StatesStayPlaced → AllPlaced m.eval
    → made_or_opened flat_calls o (flat_machine m) ≡ flat_machine (made_or_opened structured_calls o m)
made_flat None m agree stay placed =
    ap (λ (s : State Coding). record (flat_machine m) { eval = s; steps = m.steps + 1 })
    (agree.step m.eval (stay.next m.eval placed))
made_flat (Some q) m agree stay placed = refl

tried_flat : (o : Option Query) (m : MachineState Definitions) → StepsAgree → StatesStayPlaced → AllPlaced m.eval
    → tried flat_calls o (flat_machine m) ≡ flat_machine (tried structured_calls o m)
tried_flat None m agree stay placed =
    ap (λ q. made_or_opened flat_calls q (flat_machine m)) (agree.asks m.eval (stay.next m.eval placed))
    ∙ made_flat (asked_by structured_calls m.eval) m agree stay placed
tried_flat (Some q) m agree stay placed = refl

turned : (b : Bool) (m : MachineState Definitions) → StepsAgree → StatesStayPlaced → AllPlaced m.eval
    → (if b then tried flat_calls m.waiting (flat_machine m) else flat_machine m)
    ≡ flat_machine (if b then tried structured_calls m.waiting m else m)
turned true m agree stay placed = tried_flat m.waiting m agree stay placed
turned false m agree stay placed = refl

made_placed : (o : Option Query) (m : MachineState Definitions) → StatesStayPlaced → AllPlaced m.eval
    → AllPlaced (made_or_opened structured_calls o m).eval
made_placed None m stay placed = stay.step m.eval placed
made_placed (Some q) m stay placed = placed

tried_placed : (o : Option Query) (m : MachineState Definitions) → StatesStayPlaced → AllPlaced m.eval
    → AllPlaced (tried structured_calls o m).eval
tried_placed None m stay placed = made_placed (asked_by structured_calls m.eval) m stay placed
tried_placed (Some q) m stay placed = placed

stays : (b : Bool) (m : MachineState Definitions) → StatesStayPlaced → AllPlaced m.eval
    → AllPlaced (if b then tried structured_calls m.waiting m else m).eval
stays true m stay placed = tried_placed m.waiting m stay placed
stays false m stay placed = placed

-- ---- an answer

answer_flat : (o : Option Refusal) (answer : Answer) (m : MachineState Definitions) → StepsAgree → StatesStayPlaced
    → AllPlaced m.eval
    → answered_unless flat_calls o answer (flat_machine m) ≡ flat_machine (answered_unless structured_calls o answer m)
answer_flat None answer m agree stay placed =
    ap (λ (s : State Coding). record (flat_machine m) { eval = s; steps = m.steps + 1; waiting = None })
    (ap (λ (t : State Coding). record t { reply = m.eval.reply })
    (agree.step (replied answer m.eval) (stay.next (replied answer m.eval) placed)))
answer_flat (Some e) answer m agree stay placed = refl

answer_placed : (o : Option Refusal) (answer : Answer) (m : MachineState Definitions) → StatesStayPlaced
    → AllPlaced m.eval → AllPlaced (answered_unless structured_calls o answer m).eval
answer_placed None answer m stay placed = stay.step (replied answer m.eval) placed
answer_placed (Some e) answer m stay placed = placed

-- ---- events

event_flat : (e : Event) (m : MachineState Definitions) → StepsAgree → StatesStayPlaced → AllPlaced m.eval
    → done_by flat_calls e (flat_machine m) ≡ flat_machine (done_by structured_calls e m)
event_flat (Load image path) m agree stay placed = unless_flat (load_refusal m image path) m image path
event_flat (Line text) m agree stay placed = line_flat (line_refusal m text) text m
event_flat Step m agree stay placed = turned (can_step m) m agree stay placed
event_flat (Answers answer) m agree stay placed =
    answer_flat (answer_refusal m.waiting answer) answer m agree stay placed
event_flat (Client call) m agree stay placed = refl

event_placed : (e : Event) (m : MachineState Definitions) → StatesStayPlaced → AllPlaced m.eval
    → AllPlaced (done_by structured_calls e m).eval
event_placed (Load image path) m stay placed = unless_placed (load_refusal m image path) m image path stay placed
event_placed (Line text) m stay placed = line_placed (line_refusal m text) text m stay placed
event_placed Step m stay placed = stays (can_step m) m stay placed
event_placed (Answers answer) m stay placed =
    answer_placed (answer_refusal m.waiting answer) answer m stay placed
event_placed (Client call) m stay placed = placed

all_placed : (es : List Event) (m : MachineState Definitions) → StatesStayPlaced → AllPlaced m.eval
    → AllPlaced (after_events structured_calls es m).eval
unfolding after_events
all_placed [] m stay placed = placed
all_placed (e ∷ es) m stay placed =
    event_placed e (after_events structured_calls es m) stay (all_placed es m stay placed)

events_agree : (es : List Event) (m : MachineState Definitions) → StepsAgree → StatesStayPlaced → AllPlaced m.eval
    → after_events flat_calls es (flat_machine m) ≡ flat_machine (after_events structured_calls es m)
unfolding after_events
events_agree [] m agree stay placed = refl
events_agree (e ∷ es) m agree stay placed =
    ap (done_by flat_calls e) (events_agree es m agree stay placed)
    ∙ event_flat e (after_events structured_calls es m) agree stay (all_placed es m stay placed)

-- ---- so many steps

-- what a step that is made says of the state before
pub made_runs : (s t : State Coding) → made flat_calls s ≡ Some t → s.flow.is_running ≡ true
made_runs s t e = by_case s.flow.is_running e
  where
    by_case : (b : Bool)
        → (if b && is_none (asked_by flat_calls s) then Some (stepped flat_calls s) else None) ≡ Some t → b ≡ true
    by_case true h = refl
    by_case false h = cc

pub made_quiet : (s t : State Coding) → made flat_calls s ≡ Some t → asked_by flat_calls s ≡ None
made_quiet s t e =
    by_case (asked_by flat_calls s) refl
    (sym
    (ap (λ b. if b && is_none (asked_by flat_calls s) then Some (stepped flat_calls s) else None) (made_runs s t e))
    ∙ e)
  where
    by_case : (o : Option Query) → asked_by flat_calls s ≡ o
        → (if is_none o then Some (stepped flat_calls s) else None) ≡ Some t → asked_by flat_calls s ≡ None
    by_case None e h = e
    by_case (Some q) e h = cc

pub made_is : (s t : State Coding) → made flat_calls s ≡ Some t → stepped flat_calls s ≡ t
made_is s t e = by_case (s.flow.is_running && is_none (asked_by flat_calls s)) e
  where
    by_case : (b : Bool) → (if b then Some (stepped flat_calls s) else None) ≡ Some t → stepped flat_calls s ≡ t
    by_case true h = same_Some _ _ h
    by_case false h = cc

abbrev at : MachineState Coding → State Coding → ℕ → MachineState Coding
at m s n = record m { eval = s; steps = n }

step_made : (m : MachineState Coding) (n : ℕ) (s t : State Coding) → m.waiting ≡ None → n < 2 ^ 64 - 1
    → made flat_calls s ≡ Some t → at m t (n + 1) ≡ done_by flat_calls Step (at m s n)
step_made m n s t none less e =
    let counts : nat_lt n (2 ^ 64 - 1) ≡ true = grind (arith, nat_tests) in
    let can : can_step (at m s n) ≡ true = ap (λ b. b && nat_lt n (2 ^ 64 - 1)) (made_runs s t e) ∙ counts in
    let x = at m s n in
    ap (λ u. at m u (n + 1)) (sym (made_is s t e))
    ∙ sym (ap (λ o. made_or_opened flat_calls o x) (made_quiet s t e))
    ∙ ap (λ o. tried flat_calls o x) (sym none)
    ∙ ap (λ b. if b then tried flat_calls x.waiting x else x) (sym can)

step_after : (m : MachineState Coding) (n : ℕ) (g : MachineState Coding) (o : Option (State Coding))
    (t : State Coding) → ((u : State Coding) → o ≡ Some u → at m u n ≡ g) → m.waiting ≡ None → n < 2 ^ 64 - 1
    → option_and_then (made flat_calls) o ≡ Some t → at m t (n + 1) ≡ done_by flat_calls Step g
step_after m n g None t before none less h = cc
step_after m n g (Some u) t before none less h =
    step_made m n u t none less h ∙ ap (done_by flat_calls Step) (before u refl)

steps_made : (m : MachineState Coding) (k n : ℕ) (s t : State Coding) → m.waiting ≡ None → n + k < 2 ^ 64
    → steps_from flat_calls k s ≡ Some t
    → at m t (n + k) ≡ after_events flat_calls (replicate k Step) (at m s n)
unfolding steps_from after_events
steps_made m zero n s t none few h =
    let same : n + 0 ≡ n = omega arith in ap (λ u. at m u (n + 0)) (sym (same_Some _ _ h)) ∙ ap (at m s) same
steps_made m (suc k) n s t none few h =
    let more : n + suc k ≡ n + k + 1 = omega arith in
    ap (at m t) more
    ∙ step_after m (n + k) (after_events flat_calls (replicate k Step) (at m s n)) (steps_from flat_calls k s) t
    (λ u e. steps_made m k n s u none (omega arith) e) none (omega arith) h

-- no step is made
pub stays_put : (m : MachineState Coding) → HasMoved m m
unfolding steps_from
stays_put m =
    let none : m.steps - m.steps ≡ 0 = omega arith in
    (omega arith, ap (λ n. steps_from flat_calls n m.eval) none, refl, refl, refl)

-- what has moved is as it was but for these
pub has_moved : (old new : MachineState Coding) → HasMoved old new
    → new ≡ record old { eval = new.eval; steps = new.steps }
has_moved old new h =
    ap (λ r. record new { replies = r }) h.2 ∙ ap (λ r. record new { replies = old.replies; asked = r }) h.3
    ∙ ap (λ r. record old { eval = new.eval; steps = new.steps; waiting = r }) h.4

moved_by_steps : (old new : MachineState Coding) → old.waiting ≡ None → HasMoved old new → new.steps < 2 ^ 64
    → new ≡ after_events flat_calls (replicate (new.steps - old.steps) Step) old
moved_by_steps old new none h few =
    let upto : old.steps ≤ new.steps = h.0 in
    let sum : old.steps + (new.steps - old.steps) ≡ new.steps = omega arith in
    has_moved old new h ∙ ap (at old new.eval) (sym sum)
    ∙ steps_made old (new.steps - old.steps) old.steps old.eval new.eval none (omega (arith, sum, few)) h.1

pub calls_agree : StepsAgree → StatesStayPlaced → CallsAgree
calls_agree agree stay = record {
  events = λ es. events_agree es (idle no_definitions) agree stay stay.first;
  steps = moved_by_steps;
}
