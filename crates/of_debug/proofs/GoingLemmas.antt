-- Turns that are made one behind the other, where nothing is asked and nothing is handed in between.
use Rattle.std.proofs.Common.{◌≡◌, ◌≤◌, ◌<◌, ◌⊎◌, ℕ, zero, suc, ◌+◌, ◌-◌, inl, inr, Bool, true, false, List, [], ◌∷◌}
use Rattle.std.proofs.Common.{Option, Some, None, refl, ap, sym, ◌∙◌, subst, arith}
use Rattle.std.proofs.lemmas.Bool.{and_parts, cases_lt}
use Rattle.std.proofs.lemmas.Bool.Decides.{nat_tests}
use Rattle.std.proofs.lemmas.Option.{same_Some}
use Rattle.std.specs.Prelude.{◌&&◌, ◌^◌, is_none, is_some, nat_lt, if◌then◌else◌, option_and_then, Result, Ok, Err}
use Rattle.std.specs.Prelude.{IfOk, OnErr}
use Rattle.of_asking.specs.declared.query.Query.{Query}
use Rattle.of_compile.specs.Coding.{Coding}
use Rattle.of_machine.specs.Refused.{HasDue}
use Rattle.of_machine.specs.Runs.{AreLater, AreUpto, Due, Feed, settled}
use Rattle.of_machine.specs.States.{HasMoved, MachineState, MayGrow, can_step, is_running, moved}
use Rattle.of_state.specs.State.{State, flat_calls}
use Rattle.of_steps.specs.declared.goals.Goal.{Goal}
use Rattle.of_steps.specs.declared.marks.Mark.{Mark}
use Rattle.of_steps.specs.Goals.{IsUnreached}
use Rattle.of_steps.specs.Steps.{asked_by, made, stepped, steps_from}
use Rattle.of_debug.specs.Stepping.{Breaks, HasStayed, HaveGone, IsRefused, Turns, is_there, until}
use Rattle.of_debug.specs.Turns.{IsAt, run, turn}
use Rattle.of_debug.proofs.FeedLemmas.{rests, settled_steps}
use Rattle.of_debug.proofs.StepLemmas.{breaks_refused, leads_first, run_none, run_one, until_goes, until_none}
use Rattle.of_debug.proofs.StepLemmas.{until_there, until_turn}
use Rattle.of_debug.proofs.TurnLemmas.{settled_turn, turn_moves}

-- ---- the states on the way

record IsMade (s t : State Coding) : Type 0 where
  runs : s.flow.is_running ≡ true
  quiet : asked_by flat_calls s ≡ None
  state : stepped flat_calls s ≡ t

none_is : {A : Type 0} (o : Option A) → is_none o ≡ true → o ≡ None
none_is None e = refl
none_is (Some x) e = absurd cc

is_made : (s t : State Coding) → made flat_calls s ≡ Some t → IsMade s t
is_made s t e = by_test (s.flow.is_running && is_none (asked_by flat_calls s)) refl e
  where
    by_test : (b : Bool) → (s.flow.is_running && is_none (asked_by flat_calls s)) ≡ b
        → (if b then Some (stepped flat_calls s) else None) ≡ Some t → IsMade s t
    by_test true h e =
        let parts = and_parts s.flow.is_running (is_none (asked_by flat_calls s)) h in record {
          runs = parts.0;
          quiet = none_is (asked_by flat_calls s) parts.1;
          state = same_Some (stepped flat_calls s) t e;
        }
    by_test false h e = absurd cc

-- the last step of some
record HasLast (k : ℕ) (e s : State Coding) : Type 0 where
  state : State Coding
  before : steps_from flat_calls k e ≡ Some state
  last : IsMade state s

last_step : (k : ℕ) (e s : State Coding) → steps_from flat_calls (suc k) e ≡ Some s → HasLast k e s
unfolding steps_from
last_step k e s h = behind (steps_from flat_calls k e) refl h
  where
    behind : (o : Option (State Coding)) → steps_from flat_calls k e ≡ o
        → option_and_then (made flat_calls) o ≡ Some s → HasLast k e s
    behind None f h = absurd cc
    behind (Some t) f h = record { state = t; before = f; last = is_made t s h }

-- what runs behind fewer steps
record IsOnWay (i : ℕ) (e : State Coding) : Type 0 where
  state : State Coding
  there : steps_from flat_calls i e ≡ Some state
  runs : state.flow.is_running ≡ true

by_last : (k i : ℕ) (e s : State Coding) → HasLast k e s → i ≤ k → (i < k) ⊎ (k ≤ i)
    → ((t : State Coding) → steps_from flat_calls k e ≡ Some t → i < k → IsOnWay i e) → IsOnWay i e
by_last k i e s l less (inl before) earlier = earlier l.state l.before before
by_last k i e s l less (inr behind) earlier =
    let same : k ≡ i = omega (arith, less, behind) in record {
      state = l.state;
      there = subst (λ j. steps_from flat_calls j e ≡ Some l.state) same l.before;
      runs = l.last.runs;
    }

on_way : (k i : ℕ) (e s : State Coding) → steps_from flat_calls k e ≡ Some s → i < k → IsOnWay i e
on_way zero i e s h less = absurd (omega (arith, less))
on_way (suc k) i e s h less =
    by_last k i e s (last_step k e s h) (omega (arith, less)) (cases_lt i k)
    (λ t there before. on_way k i e t there before)

-- ---- the feeds on the way

-- a feed whose machine has made so many steps more
abbrev behind_steps : Feed Coding → ℕ → State Coding → Feed Coding
behind_steps f k s = record f { machine = record f.machine { eval = s; steps = f.machine.steps + k } }

later_upto : (n q : ℕ) (calls : List Due) → n < q → AreUpto q calls → AreLater n calls
later_upto n q [] less upto = tt
later_upto n q (call ∷ calls) less upto = omega (arith, less, upto)

-- nothing is handed in while something runs and no client is due
calm_between : (f : Feed Coding) (q k : ℕ) (t : State Coding) → k < q → AreUpto (f.machine.steps + q) f.calls
    → t.flow.is_running ≡ true → settled (behind_steps f k t) ≡ behind_steps f k t
calm_between f q k t less upto runs =
    rests (behind_steps f k t)
    (later_upto (f.machine.steps + k) (f.machine.steps + q) f.calls (omega (arith, less)) upto) (inl runs)

can_go : (m : MachineState Coding) → is_running m ≡ true → m.steps < 2 ^ 64 - 1 → can_step m ≡ true
can_go m runs few =
    let countable : nat_lt m.steps (2 ^ 64 - 1) ≡ true = grind (arith, nat_tests, few) in
    ap (λ b. b && nat_lt m.steps (2 ^ 64 - 1)) runs ∙ countable

none_yet : (e s : State Coding) → steps_from flat_calls 0 e ≡ Some s → e ≡ s
unfolding steps_from
none_yet e s h = same_Some e s h

-- so many steps without a question are as many turns
runs_silently : (f : Feed Coding) (q k : ℕ) (s : State Coding) → settled f ≡ f → f.machine.waiting ≡ None
    → AreUpto (f.machine.steps + q) f.calls → k ≤ q → f.machine.steps + k < 2 ^ 64
    → steps_from flat_calls k f.machine.eval ≡ Some s → run flat_calls k f ≡ settled (behind_steps f k s)
runs_silently f q zero s full none upto few countable h =
    run_none f ∙ sym full ∙ ap settled (sym (ap (behind_steps f 0) (sym (none_yet f.machine.eval s h)) ∙ still))
  where
    still : behind_steps f 0 f.machine.eval ≡ f
    still =
        let same : f.machine.steps + 0 ≡ f.machine.steps = omega arith in
        ap (λ n. record f { machine = record f.machine { steps = n } }) same
runs_silently f q (suc k) s full none upto few countable h =
    let l = last_step k f.machine.eval s h in
    let t = l.state in
    let x = behind_steps f k t in
    let there : run flat_calls k f ≡ x =
    runs_silently f q k t full none upto (omega (arith, few)) (omega (arith, countable)) l.before
    ∙ calm_between f q k t (omega (arith, few)) upto l.last.runs in
    let goes : can_step x.machine ≡ true = can_go x.machine l.last.runs (omega (arith, countable)) in
    let next : turn flat_calls x ≡ settled (record x { machine = moved flat_calls x.machine }) =
    turn_moves x goes none l.last.quiet in
    let sum : f.machine.steps + k + 1 ≡ f.machine.steps + suc k = omega arith in
    let same : record x { machine = moved flat_calls x.machine } ≡ behind_steps f (suc k) s =
    ap (λ n. record x { machine = record x.machine { eval = stepped flat_calls t; steps = n } }) sum
    ∙ ap (behind_steps f (suc k)) l.last.state in
    ap (λ n. run flat_calls n f) add_one ∙ sym (run_one k f) ∙ ap (turn flat_calls) there ∙ next ∙ ap settled same
  where
    add_one : suc k ≡ k + 1
    add_one = omega arith

-- ---- what a machine has moved to

pub record HasMovedSo (f : Feed Coding) (q k : ℕ) (m : MachineState Coding) : Type 0 where
  full : settled f ≡ f
  none : f.machine.waiting ≡ None
  upto : AreUpto (f.machine.steps + q) f.calls
  few : k ≤ q
  countable : f.machine.steps + k < 2 ^ 64
  steps : m.steps ≡ f.machine.steps + k
  moved : HasMoved f.machine m

pub moved_so : (f : Feed Coding) (q k : ℕ) (m : MachineState Coding) → settled f ≡ f → f.machine.waiting ≡ None
    → AreUpto (f.machine.steps + q) f.calls → HasMoved f.machine m → m.steps ≤ f.machine.steps + q
    → m.steps < 2 ^ 64 → k ≡ m.steps - f.machine.steps → HasMovedSo f q k m
moved_so f q k m full none upto moved few countable same =
    let more : f.machine.steps ≤ m.steps = moved.0 in record {
      full = full;
      none = none;
      upto = upto;
      few = omega (arith, few, same);
      countable = omega (arith, more, countable, same);
      steps = omega (arith, more, same);
      moved = moved;
    }

way : (f : Feed Coding) (q k : ℕ) (m : MachineState Coding) → HasMovedSo f q k m
    → steps_from flat_calls k f.machine.eval ≡ Some m.eval
way f q k m h =
    let same : m.steps - f.machine.steps ≡ k = omega (arith, h.steps) in
    subst (λ j. steps_from flat_calls j f.machine.eval ≡ Some m.eval) same h.moved.1

moved_to : (f : Feed Coding) (q k : ℕ) (m : MachineState Coding) → HasMovedSo f q k m
    → record f { machine = m } ≡ behind_steps f k m.eval
moved_to f q k m h =
    ap (λ r. record f { machine = record m { replies = r } }) h.moved.2
    ∙ ap (λ r. record f { machine = record m { replies = f.machine.replies; asked = r } }) h.moved.3
    ∙ ap (λ r. record f { machine = record f.machine { eval = m.eval; steps = m.steps; waiting = r } }) h.moved.4
    ∙ ap (λ n. record f { machine = record f.machine { eval = m.eval; steps = n } }) h.steps

gone_to : (f : Feed Coding) (q k : ℕ) (m : MachineState Coding) → HasMovedSo f q k m
    → run flat_calls k f ≡ settled (record f { machine = m })
gone_to f q k m h =
    runs_silently f q k m.eval h.full h.none h.upto h.few h.countable (way f q k m h)
    ∙ ap settled (sym (moved_to f q k m h))

-- each of the steps is counted
steps_so : (f : Feed Coding) (q k : ℕ) (m : MachineState Coding) → HasMovedSo f q k m → (i : ℕ) → i ≤ k
    → (run flat_calls i f).machine.steps ≡ f.machine.steps + i
steps_so f q k m h i less = by_place (cases_lt i k)
  where
    by_place : (i < k) ⊎ (k ≤ i) → (run flat_calls i f).machine.steps ≡ f.machine.steps + i
    by_place (inl before) =
        let w = on_way k i f.machine.eval m.eval (way f q k m h) before in
        let there : run flat_calls i f ≡ settled (behind_steps f i w.state) =
        runs_silently f q i w.state h.full h.none h.upto (omega (arith, before, h.few))
        (omega (arith, before, h.countable)) w.there in
        ap (λ (x : Feed Coding). x.machine.steps) there ∙ settled_steps (behind_steps f i w.state)
    by_place (inr behind) =
        let same : i ≡ k = omega (arith, less, behind) in
        ap (λ n. (run flat_calls n f).machine.steps) same
        ∙ ap (λ (x : Feed Coding). x.machine.steps) (gone_to f q k m h)
        ∙ settled_steps (record f { machine = m }) ∙ h.steps ∙ ap (λ n. f.machine.steps + n) (sym same)

-- and behind those before the last the goal isn't reached, if the states aren't those of a goal
before_so : (marks : List Mark) (goal : Goal) (f : Feed Coding) (q k n : ℕ) (m : MachineState Coding)
    → HasMovedSo f q k m → IsUnreached marks goal n f.machine.eval → (i : ℕ) → 0 < i → i < k → i ≤ n
    → is_there marks goal (run flat_calls i f).machine ≡ false
unfolding IsUnreached
before_so marks goal f q k n m h u i some before less =
    let w = on_way k i f.machine.eval m.eval (way f q k m h) before in
    let there : run flat_calls i f ≡ behind_steps f i w.state =
    runs_silently f q i w.state h.full h.none h.upto (omega (arith, before, h.few))
    (omega (arith, before, h.countable)) w.there
    ∙ calm_between f q i w.state (omega (arith, before, h.few)) h.upto w.runs in
    ap (λ (x : Feed Coding). is_there marks goal x.machine) there ∙ u i w.state some less w.there

pub gone : (marks : List Mark) (goal : Goal) (f new : Feed Coding) (q k n : ℕ) (m : MachineState Coding)
    → HasMovedSo f q k m → IsUnreached marks goal (k - 1) f.machine.eval → q ≤ n
    → new ≡ settled (record f { machine = m }) → HaveGone marks goal n k f new
gone marks goal f new q k n m h u most e = record {
  few = omega (arith, h.few, most);
  at = e ∙ sym (gone_to f q k m h);
  steps = steps_so f q k m h;
  before = λ i some less. before_so marks goal f q k (k - 1) m h u i some less (omega (arith, less));
}

-- a turn by itself
pub one_gone : (marks : List Mark) (goal : Goal) (f new : Feed Coding) (n : ℕ) → 1 ≤ n → Turns true f new
    → HaveGone marks goal n 1 f new
one_gone marks goal f new n some t = record {
  few = some;
  at = t.0 ∙ sym first;
  steps = counted;
  before = λ i one less. absurd (omega (arith, one, less));
}
  where
    first : run flat_calls 1 f ≡ turn flat_calls f
    first = sym (run_one 0 f) ∙ ap (turn flat_calls) (run_none f)

    counted : (i : ℕ) → i ≤ 1 → (run flat_calls i f).machine.steps ≡ f.machine.steps + i
    counted zero less = ap (λ (x : Feed Coding). x.machine.steps) (run_none f) ∙ omega arith
    counted (suc zero) less = ap (λ (x : Feed Coding). x.machine.steps) (first ∙ sym t.0) ∙ t.1
    counted (suc (suc i)) less = absurd (omega (arith, less))

-- ---- what they lead to

leads_so : (marks : List Mark) (goal : Goal) (b j : ℕ) (f : Feed Coding) → j ≤ b
    → ((i : ℕ) → i ≤ j → (run flat_calls i f).machine.steps ≡ f.machine.steps + i)
    → ((i : ℕ) → 0 < i → i ≤ j → is_there marks goal (run flat_calls i f).machine ≡ false)
    → until marks goal b f ≡ until marks goal (b - j) (run flat_calls j f)
leads_so marks goal b zero f less steps before =
    leads_first marks goal b f ∙ ap (until marks goal (b - 0)) (sym (run_none f))
leads_so marks goal b (suc j) f less steps before =
    let so_far : until marks goal b f ≡ until marks goal (b - j) (run flat_calls j f) =
    leads_so marks goal b j f (omega (arith, less)) (λ i few. steps i (omega (arith, few)))
    (λ i some few. before i some (omega (arith, few))) in
    let sum : suc j ≡ j + 1 = omega arith in
    let next : run flat_calls (suc j) f ≡ turn flat_calls (run flat_calls j f) =
    ap (λ n. run flat_calls n f) sum ∙ sym (run_one j f) in
    let more : (run flat_calls (suc j) f).machine.steps ≡ (run flat_calls j f).machine.steps + 1 =
    omega (arith, steps (suc j) (omega arith), steps j (omega arith)) in
    so_far
    ∙ until_goes marks goal b j (run flat_calls j f) (run flat_calls (suc j) f) next more
    (before (suc j) (omega arith) (omega arith)) (omega (arith, less))
    ∙ ap (λ n. until marks goal (b - n) (run flat_calls (suc j) f)) (sym sum)

abbrev GoneSteps : ℕ → Feed Coding → Type 0
GoneSteps k f = (i : ℕ) → i ≤ k → (run flat_calls i f).machine.steps ≡ f.machine.steps + i

not_yet : (marks : List Mark) (goal : Goal) (n k : ℕ) (f g : Feed Coding) → HaveGone marks goal n k f g
    → is_there marks goal g.machine ≡ false → (i : ℕ) → 0 < i → i ≤ k
    → is_there marks goal (run flat_calls i f).machine ≡ false
not_yet marks goal n k f g h not i some less = by_place (cases_lt i k)
  where
    by_place : (i < k) ⊎ (k ≤ i) → is_there marks goal (run flat_calls i f).machine ≡ false
    by_place (inl before) = h.before i some before
    by_place (inr behind) =
        let same : i ≡ k = omega (arith, less, behind) in
        ap (λ j. is_there marks goal (run flat_calls j f).machine) same
        ∙ ap (λ (x : Feed Coding). is_there marks goal x.machine) (sym h.at) ∙ not

-- turns that haven't reached the goal lead on
pub gone_on : (marks : List Mark) (goal : Goal) (n k b : ℕ) (f g : Feed Coding) → HaveGone marks goal n k f g
    → is_there marks goal g.machine ≡ false → k ≤ b → until marks goal b f ≡ until marks goal (b - k) g
gone_on marks goal n k b f g h not less =
    leads_so marks goal b k f less h.steps (not_yet marks goal n k f g h not)
    ∙ ap (until marks goal (b - k)) (sym h.at)

-- up to the last
last_left : (marks : List Mark) (goal : Goal) (n k b : ℕ) (f g : Feed Coding) → HaveGone marks goal n (suc k) f g
    → suc k ≤ b → until marks goal b f ≡ until marks goal (b - k) (run flat_calls k f)
last_left marks goal n k b f g h less =
    leads_so marks goal b k f (omega (arith, less)) (λ i few. h.steps i (omega (arith, few)))
    (λ i some few. h.before i some (omega (arith, few)))

next_is : (marks : List Mark) (goal : Goal) (n k : ℕ) (f g : Feed Coding) → HaveGone marks goal n (suc k) f g
    → g ≡ turn flat_calls (run flat_calls k f)
next_is marks goal n k f g h =
    let sum : suc k ≡ k + 1 = omega arith in
    h.at ∙ ap (λ j. run flat_calls j f) sum ∙ sym (run_one k f)

-- with the last the goal is reached
pub gone_there : (marks : List Mark) (goal : Goal) (n k b : ℕ) (f g : Feed Coding) → HaveGone marks goal n k f g
    → 0 < k → is_there marks goal g.machine ≡ true → k ≤ b → until marks goal b f ≡ g
gone_there marks goal n zero b f g h some is less = absurd (omega (arith, some))
gone_there marks goal n (suc k) b f g h some is less =
    last_left marks goal n k b f g h less
    ∙ until_there marks goal b k (run flat_calls k f) g (next_is marks goal n k f g h) is (omega (arith, less))

-- they are what is made up to their number
pub gone_whole : (marks : List Mark) (goal : Goal) (n k : ℕ) (f g : Feed Coding) → HaveGone marks goal n k f g
    → until marks goal k f ≡ g
gone_whole marks goal n zero f g h = until_none marks goal f ∙ sym (run_none f) ∙ sym h.at
gone_whole marks goal n (suc k) f g h =
    let one : suc k - k ≡ 1 = omega arith in
    last_left marks goal n k (suc k) f g h (omega arith)
    ∙ ap (λ j. until marks goal j (run flat_calls k f)) one ∙ until_turn marks goal (run flat_calls k f)
    ∙ sym (next_is marks goal n k f g h)

-- what is handed in behind them isn't handed in again
run_settled : (k : ℕ) (f : Feed Coding) → settled f ≡ f → settled (run flat_calls k f) ≡ run flat_calls k f
run_settled zero f full = subst (λ x. settled x ≡ x) (sym (run_none f)) full
run_settled (suc k) f full =
    let sum : suc k ≡ k + 1 = omega arith in
    let next : run flat_calls (suc k) f ≡ turn flat_calls (run flat_calls k f) =
    ap (λ n. run flat_calls n f) sum ∙ sym (run_one k f) in
    subst (λ x. settled x ≡ x) (sym next) (settled_turn (run flat_calls k f) (run_settled k f full))

pub gone_settled : (marks : List Mark) (goal : Goal) (n k : ℕ) (f g : Feed Coding) → HaveGone marks goal n k f g
    → settled f ≡ f → settled g ≡ g
gone_settled marks goal n k f g h full = subst (λ x. settled x ≡ x) (sym h.at) (run_settled k f full)

-- ---- where memory is refused

fewer_unreached : (marks : List Mark) (goal : Goal) (n k : ℕ) (s : State Coding) → k ≤ n
    → IsUnreached marks goal n s → IsUnreached marks goal k s
unfolding IsUnreached
fewer_unreached marks goal n k s few u = λ i t some upto e. u i t some (omega (arith, few, upto)) e

-- the next step isn't made
pub held : (marks : List Mark) (goal : Goal) (f g : Feed Coding) (q k n : ℕ) (m : MachineState Coding)
    → HasMovedSo f q k m → IsUnreached marks goal k f.machine.eval → k < q → q ≤ n → g ≡ record f { machine = m }
    → can_step m ≡ true → MayGrow m → IsRefused marks goal n f g
held marks goal f g q k n m h u less most e can grows = record {
  made = k;
  few = omega (arith, less, most);
  at = inl (rest ∙ sym (gone_whole marks goal n k f (settled (record f { machine = m })) went));
  steps = ap (λ (x : Feed Coding). x.machine.steps) e ∙ h.steps;
  grows = inr (subst (λ (x : Feed Coding). MayGrow x.machine) (sym e) grows);
}
  where
    went : HaveGone marks goal n k f (settled (record f { machine = m }))
    went =
        gone marks goal f (settled (record f { machine = m })) q k n m h
        (fewer_unreached marks goal k (k - 1) f.machine.eval (omega arith) u) most refl

    rest : settled g ≡ settled (record f { machine = m })
    rest = ap settled e

-- not all is handed in behind the last
pub unserved : (marks : List Mark) (goal : Goal) (f g new : Feed Coding) (q k n : ℕ) (m : MachineState Coding)
    → HasMovedSo f q k m → IsUnreached marks goal (k - 1) f.machine.eval → q ≤ n → g ≡ record f { machine = m }
    → settled new ≡ settled g → new.machine.steps ≡ g.machine.steps → HasDue new → IsRefused marks goal n f new
unserved marks goal f g new q k n m h u most e later steps due = record {
  made = k;
  few = omega (arith, h.few, most);
  at = inl (later ∙ sym (gone_whole marks goal n k f (settled g) went));
  steps = steps ∙ ap (λ (x : Feed Coding). x.machine.steps) e ∙ h.steps;
  grows = inl due;
}
  where
    went : HaveGone marks goal n k f (settled g)
    went = gone marks goal f (settled g) q k n m h u most (ap settled e)

-- a turn that is broken off
pub turn_broken : (marks : List Mark) (goal : Goal) (n : ℕ) (f g : Feed Coding) → 1 ≤ n → settled f ≡ f
    → Breaks f g → IsRefused marks goal n f g
turn_broken marks goal n f g some full b =
    breaks_refused marks goal n 0 f f g (λ k less. leads_first marks goal k f) (omega arith) (omega (arith, some))
    full b

-- behind steps that lead on, what is refused was refused to the whole call
pub refused_behind : (marks : List Mark) (goal : Goal) (n i : ℕ) (old f g : Feed Coding)
    → ((b : ℕ) → i ≤ b → until marks goal b old ≡ until marks goal (b - i) f)
    → f.machine.steps ≡ old.machine.steps + i → i ≤ n → IsRefused marks goal (n - i) f g
    → IsRefused marks goal n old g
refused_behind marks goal n i old f g leads steps less r =
    let left : i + r.made - i ≡ r.made = omega arith in
    let same : until marks goal (i + r.made) old ≡ until marks goal r.made f =
    leads (i + r.made) (omega arith) ∙ ap (λ j. until marks goal j f) left in record {
      made = i + r.made;
      few = omega (arith, less, r.few);
      at = subst (λ x. IsAt x (settled g)) (sym same) r.at;
      steps = omega (arith, r.steps, steps);
      grows = r.grows;
    }

-- ---- as the code makes them

pub none_waits : (o p : Option Query) → p ≡ o → false ≡ is_some o → p ≡ None
none_waits None p same e = same
none_waits (Some q) p same e = absurd cc

-- a machine that has made no step is as it was
pub unmoved : (f g : Feed Coding) (m : MachineState Coding) → HasMoved f.machine m → m.steps ≡ f.machine.steps
    → g ≡ record f { machine = m } → f ≡ g
unmoved f g m h none e = ap (λ x. record f { machine = x }) (sym same) ∙ sym e
  where
    still : m.eval ≡ f.machine.eval
    still =
        let zero_steps : m.steps - f.machine.steps ≡ 0 = omega (arith, none) in
        sym (none_yet f.machine.eval m.eval
        (subst (λ j. steps_from flat_calls j f.machine.eval ≡ Some m.eval) zero_steps h.1))

    same : m ≡ f.machine
    same =
        ap (λ r. record m { replies = r }) h.2 ∙ ap (λ r. record m { replies = f.machine.replies; asked = r }) h.3
        ∙ ap (λ r. record f.machine { eval = m.eval; steps = m.steps; waiting = r }) h.4
        ∙ ap (λ n. record f.machine { eval = m.eval; steps = n }) none
        ∙ ap (λ s. record f.machine { eval = s }) still

-- one turn was made, or none, or it was broken off
pub once_went : {E : Type 0} (r : Result ℕ E) (marks : List Mark) (goal : Goal) (n : ℕ) (f h g : Feed Coding)
    → f ≡ h → 1 ≤ n → IfOk r (λ k. 0 < k → (k ≡ 1) × Turns true h g)
    → IfOk r (λ k. 0 < k → HaveGone marks goal n k f g)
once_went (Ok k) marks goal n f h g same some went =
    λ more.
    let t : Turns true f g = subst (λ x. Turns true x g) (sym same) (went more).1 in
    subst (λ j. HaveGone marks goal n j f g) (sym (went more).0) (one_gone marks goal f g n some t)
once_went (Err e) marks goal n f h g same some went = tt

pub once_stayed : {E : Type 0} (r : Result ℕ E) (f h g : Feed Coding) → f ≡ h
    → IfOk r (λ k. k ≡ 0 → HasStayed h g) → IfOk r (λ k. k ≡ 0 → HasStayed f g)
once_stayed (Ok k) f h g same stayed = λ none. subst (λ x. HasStayed x g) (sym same) (stayed none)
once_stayed (Err e) f h g same stayed = tt

pub once_refused : {A E : Type 0} (r : Result A E) (marks : List Mark) (goal : Goal) (n : ℕ) (f h g : Feed Coding)
    → f ≡ h → 1 ≤ n → settled f ≡ f → OnErr r (Breaks h g) → OnErr r (IsRefused marks goal n f g)
once_refused (Ok x) marks goal n f h g same some full broken = tt
once_refused (Err e) marks goal n f h g same some full broken =
    turn_broken marks goal n f g some full (subst (λ x. Breaks x g) (sym same) broken)

countable_steps : (m : MachineState Coding) → can_step m ≡ true → m.steps < 2 ^ 64
countable_steps m can =
    let few : nat_lt m.steps (2 ^ 64 - 1) ≡ true = (and_parts (is_running m) (nat_lt m.steps (2 ^ 64 - 1)) can).1 in
    let less : m.steps < 2 ^ 64 - 1 = grind (arith, nat_tests) in
    omega (arith, less)

-- the machine found no memory on its way
pub held_so : (marks : List Mark) (goal : Goal) (f g : Feed Coding) (q n : ℕ) (m : MachineState Coding)
    → settled f ≡ f → f.machine.waiting ≡ None → AreUpto (f.machine.steps + q) f.calls → HasMoved f.machine m
    → m.steps < f.machine.steps + q → IsUnreached marks goal (m.steps - f.machine.steps) f.machine.eval → q ≤ n
    → g ≡ record f { machine = m } → can_step m ≡ true → MayGrow m → IsRefused marks goal n f g
held_so marks goal f g q n m full none upto moved fewer u most e can grows =
    let more : f.machine.steps ≤ m.steps = moved.0 in
    held marks goal f g q (m.steps - f.machine.steps) n m
    (moved_so f q (m.steps - f.machine.steps) m full none upto moved (omega (arith, fewer))
    (countable_steps m can) refl)
    u (omega (arith, more, fewer)) most e can grows

-- ---- one stretch of turns behind the other

pub gone_steps : (marks : List Mark) (goal : Goal) (n k : ℕ) (f g : Feed Coding) → HaveGone marks goal n k f g
    → g.machine.steps ≡ f.machine.steps + k
gone_steps marks goal n k f g h = ap (λ (x : Feed Coding). x.machine.steps) h.at ∙ h.steps k (omega arith)

pub leads_on : (marks : List Mark) (goal : Goal) (n k i b : ℕ) (old f g : Feed Coding)
    → ((b : ℕ) → i ≤ b → until marks goal b old ≡ until marks goal (b - i) f) → HaveGone marks goal n k f g
    → is_there marks goal g.machine ≡ false → i + k ≤ b → until marks goal b old ≡ until marks goal (b - (i + k)) g
leads_on marks goal n k i b old f g leads h not less =
    let left : b - i - k ≡ b - (i + k) = omega arith in
    leads b (omega (arith, less)) ∙ gone_on marks goal n k (b - i) f g h not (omega (arith, less))
    ∙ ap (λ j. until marks goal j g) left
