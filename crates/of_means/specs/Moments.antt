-- A run whose questions are answered: a step that asks is made with the next answer, once there is one that fits
-- (IEEE 1275-1994, 5.3.7.3).
use Rattle.std.specs.Prelude.{◌≡◌, ℕ, zero, suc, List, [], ◌∷◌, ◌++◌, Option, Some, None, drop, option_and_then}
use Rattle.std.specs.Prelude.{if◌then◌else◌}
use Rattle.of_asking.specs.declared.query.Answer.{Answer}
use Rattle.of_asking.specs.declared.query.Query.{Query}
use Rattle.of_asking.specs.Questions.{fits}
use Rattle.of_state.specs.State.{Calls, Outcome, State}
use Rattle.of_steps.specs.Steps.{asked_by, due, replied, settled_of}

-- a state, the answers that are left from there on, and the questions up to there
pub record Moment (S : Type 0) : Type 0 where
  pub state : State S
  pub answers : List Answer
  -- what was asked and answered, the first first
  pub asked : List Query

-- what passed between it and the outside: the answers that are left, and the questions
abbrev pub exchanged : {S : Type 0} → Moment S → List Answer × List Query
exchanged m = (m.answers, m.asked)

-- another state, with the same of these
abbrev pub with_state : {S : Type 0} → State S → Moment S → Moment S
with_state s m = record m { state = s }

-- the next answer, if it fits the question
abbrev pub fitting : Query → List Answer → Option Answer
fitting q [] = None
fitting q (answer ∷ answers) = if fits q answer then Some answer else None

-- a step that asked, made with its answer; none is made without
abbrev pub answered_step : {S : Type 0} → Calls S → (State S → Outcome S) → Query → Option Answer → Moment S
    → Option (Moment S)
answered_step c does q None m = None
answered_step c does q (Some answer) m = Some (record {
  state = record (settled_of c (does (replied answer m.state))) { reply = m.state.reply };
  answers = drop 1 m.answers;
  asked = m.asked ++ q ∷ [];
})

-- a step by what it asks, if anything
abbrev pub asked_step : {S : Type 0} → Calls S → (State S → Outcome S) → Option Query → Moment S → Option (Moment S)
asked_step c does None m = Some (with_state (settled_of c (does m.state)) m)
asked_step c does (Some q) m = answered_step c does q (fitting q m.answers) m

-- the step that does this, if it asks nothing or there is its answer
abbrev pub step_by : {S : Type 0} → Calls S → (State S → Outcome S) → Moment S → Option (Moment S)
step_by c does m = asked_step c does (does m.state).asks m

-- what comes next
abbrev pub next_due : {S : Type 0} → Calls S → State S → Outcome S
next_due c s = due c s.flow.next s

-- the next step, if something runs
abbrev pub made : {S : Type 0} → Calls S → Moment S → Option (Moment S)
made c m = if m.state.flow.is_running then step_by c (next_due c) m else None

-- so many steps, if each of them is made
abbrev pub steps : {S : Type 0} → Calls S → ℕ → Moment S → Option (Moment S)
steps c zero m = Some m
steps c (suc n) m = option_and_then (λ t. steps c n t) (made c m)

-- a question is open: no answer that is left fits
abbrev pub IsWaiting : {S : Type 0} → Calls S → Moment S → Type 0
IsWaiting c m = (q : Query) × (asked_by c m.state ≡ Some q) × (fitting q m.answers ≡ None)
