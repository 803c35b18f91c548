-- Where stepping calls stop.
use Rattle.std.proofs.Common.{◌≡◌, inl, inr, ℕ, zero, suc, ◌+◌, ◌<◌, ◌≤◌, Bool, true, false, List, refl}
use Rattle.std.proofs.Common.{sym, ap, subst, ◌∙◌, arith}
use Rattle.std.proofs.lemmas.Bool.Decides.{nat_tests}
use Rattle.std.specs.Prelude.{◌||◌, if◌then◌else◌}
use Rattle.of_compile.specs.Coding.{Coding}
use Rattle.of_machine.specs.Runs.{Feed}
use Rattle.of_state.specs.State.{flat_calls}
use Rattle.of_steps.specs.declared.goals.Goal.{Goal}
use Rattle.of_steps.specs.declared.marks.Mark.{Mark}
use Rattle.of_debug.proofs.FaithfulLemmas.{run_joined, shows_joined}
use Rattle.of_debug.proofs.StepLemmas.{run_none, run_one, shows_itself, shows_so}
use Rattle.of_debug.proofs.TurnLemmas.{Stayed, Turned, Went, steps_at, turn_at, turned_so}
use Rattle.of_debug.specs.Stepping.{has_stayed, is_there, until}
use Rattle.of_debug.specs.Stops.{HasStopped, StopFirst}
use Rattle.of_debug.specs.Turns.{IsAt, Shows, between, run, turn}

-- what is said of a call from f to g
record Stops (marks : List Mark) (goal : Goal) (n : ℕ) (f g : Feed Coding) : Type 0 where
  along : Shows f g
  few : g.machine.steps ≤ f.machine.steps + n
  before :
      (i : ℕ) → 0 < i → f.machine.steps + i < g.machine.steps →
      is_there marks goal (run flat_calls i f).machine ≡ false
  ends : HasStopped marks goal n f g

run_first : (f t : Feed Coding) → t ≡ turn flat_calls f → run flat_calls 1 f ≡ t
run_first f t e = sym (e ∙ ap (turn flat_calls) (sym (run_none f)) ∙ run_one 0 f)

-- no step can be made
stays : (marks : List Mark) (goal : Goal) (n : ℕ) (f t : Feed Coding) → t ≡ turn flat_calls f → Turned f t
    → t.machine.steps ≡ f.machine.steps → Stops marks goal n f t
stays marks goal n f t e (Went rest more) same = absurd (omega (arith, more, same))
stays marks goal n f t e (Stayed at) same = record {
  along = shows_so 0 f t (omega (arith, same)) (subst (λ x. IsAt x t) (sym (run_none f)) at);
  few = omega (arith, same);
  before = λ i some less. absurd (omega (arith, same, less));
  ends = inr (inr (ap (λ (x : Feed Coding). x.machine.steps) (turn_at f t at ∙ sym e)));
}

-- a step is made, and the goal is reached
there : (marks : List Mark) (goal : Goal) (n : ℕ) (f t : Feed Coding) → t ≡ turn flat_calls f
    → t.machine.steps ≡ f.machine.steps + 1 → is_there marks goal t.machine ≡ true → Stops marks goal (suc n) f t
there marks goal n f t e more is = record {
  along = shows_so 1 f t more (inl (sym (run_first f t e)));
  few = omega (arith, more);
  before = λ i some less. absurd (omega (arith, more, some, less));
  ends = inr (inl (omega (arith, more), is));
}

ends_on : (marks : List Mark) (goal : Goal) (n : ℕ) (f t g : Feed Coding)
    → t.machine.steps ≡ f.machine.steps + 1 → t.machine.steps ≤ g.machine.steps → HasStopped marks goal n t g
    → HasStopped marks goal (suc n) f g
ends_on marks goal n f t g more far (inl all) = inl (omega (arith, more, far, all))
ends_on marks goal n f t g more far (inr (inl (some, is))) = inr (inl (omega (arith, more, far), is))
ends_on marks goal n f t g more far (inr (inr none)) = inr (inr none)

before_on : (marks : List Mark) (goal : Goal) (f t g : Feed Coding) → run flat_calls 1 f ≡ t
    → t.machine.steps ≡ f.machine.steps + 1 → is_there marks goal t.machine ≡ false
    → ((i : ℕ) → 0 < i → t.machine.steps + i < g.machine.steps
    → is_there marks goal (run flat_calls i t).machine ≡ false)
    → (i : ℕ) → 0 < i → f.machine.steps + i < g.machine.steps
    → is_there marks goal (run flat_calls i f).machine ≡ false
before_on marks goal f t g first more not before zero some less = absurd (omega (arith, some))
before_on marks goal f t g first more not before (suc zero) some less =
    ap (λ (x : Feed Coding). is_there marks goal x.machine) first ∙ not
before_on marks goal f t g first more not before (suc (suc j)) some less =
    let joined : run flat_calls (suc (suc j)) f ≡ run flat_calls (suc j) t =
    ap (λ k. run flat_calls k f) (sum j) ∙ sym (run_joined 1 (suc j) f) ∙ ap (run flat_calls (suc j)) first in
    ap (λ (x : Feed Coding). is_there marks goal x.machine) joined
    ∙ before (suc j) (omega arith) (omega (arith, more, less))
  where
    sum : (j : ℕ) → suc (suc j) ≡ 1 + suc j
    sum j = omega arith

-- a step is made, and the call goes on
goes : (marks : List Mark) (goal : Goal) (n : ℕ) (f t g : Feed Coding) → t ≡ turn flat_calls f
    → t.machine.steps ≡ f.machine.steps + 1 → is_there marks goal t.machine ≡ false → Stops marks goal n t g
    → Stops marks goal (suc n) f g
goes marks goal n f t g e more not s = record {
  along = shows_joined f t g (shows_so 1 f t more (inl (sym (run_first f t e)))) s.along;
  few = omega (arith, more, s.few);
  before = before_on marks goal f t g (run_first f t e) more not s.before;
  ends = ends_on marks goal n f t g more s.along.0 s.ends;
}

by_there : (marks : List Mark) (goal : Goal) (n : ℕ) (f t : Feed Coding) (b : Bool) → t ≡ turn flat_calls f
    → t.machine.steps ≡ f.machine.steps + 1 → is_there marks goal t.machine ≡ b
    → Stops marks goal n t (until marks goal n t)
    → Stops marks goal (suc n) f (if b then t else until marks goal n t)
by_there marks goal n f t true e more is s = there marks goal n f t e more is
by_there marks goal n f t false e more is s = goes marks goal n f t (until marks goal n t) e more is s

by_turn : (marks : List Mark) (goal : Goal) (n : ℕ) (f t : Feed Coding) (b : Bool) → t ≡ turn flat_calls f
    → Turned f t → has_stayed f t ≡ b → Stops marks goal n t (until marks goal n t)
    → Stops marks goal (suc n) f (if b || is_there marks goal t.machine then t else until marks goal n t)
by_turn marks goal n f t true e made is s = stays marks goal (suc n) f t e made (grind (arith, nat_tests))
by_turn marks goal n f t false e (Went rest more) is s =
    by_there marks goal n f t (is_there marks goal t.machine) e more refl s
by_turn marks goal n f t false e (Stayed at) is s =
    let same : t.machine.steps ≡ f.machine.steps = steps_at f t at in absurd (grind (arith, nat_tests))

stops_at : (marks : List Mark) (goal : Goal) (n : ℕ) (f : Feed Coding) → Stops marks goal n f (until marks goal n f)
unfolding until
stops_at marks goal zero f = record {
  along = shows_itself f;
  few = omega arith;
  before = λ i some less. absurd (omega (arith, less));
  ends = inl (omega arith);
}
stops_at marks goal (suc n) f =
    let t = turn flat_calls f in
    by_turn marks goal n f t (has_stayed f t) refl (turned_so f) refl (stops_at marks goal n t)

pub stop_first : StopFirst
stop_first = record {
  along = λ marks goal n f. (stops_at marks goal n f).along;
  few = λ marks goal n f. few_of marks goal n f;
  before = λ marks goal n i f some less. before_of marks goal n i f some less;
  stops = λ marks goal n f. (stops_at marks goal n f).ends;
}
  where
    few_of : (marks : List Mark) (goal : Goal) (n : ℕ) (f : Feed Coding) → between f (until marks goal n f) ≤ n
    few_of marks goal n f = let s = stops_at marks goal n f in omega (arith, s.few)

    before_of : (marks : List Mark) (goal : Goal) (n i : ℕ) (f : Feed Coding) → 0 < i
        → i < between f (until marks goal n f) → is_there marks goal (run flat_calls i f).machine ≡ false
    before_of marks goal n i f some less =
        let s = stops_at marks goal n f in s.before i some (omega (arith, less))
