-- The turns of a run without lines and clients are steps.
use Rattle.std.proofs.Common.{◌≡◌, ℕ, zero, suc, ◌+◌, ◌-◌, ◌<◌, ◌^◌, ◌&&◌, nat_lt, Bool, true, false}
use Rattle.std.proofs.Common.{List, [], ◌∷◌, ◌++◌, drop, Option, Some, None, refl, sym, ap, subst, ◌∙◌, arith}
use Rattle.std.proofs.Common.{if◌then◌else◌, option_and_then}
use Rattle.std.proofs.lemmas.Bool.{lt-ltb}
use Rattle.of_asking.specs.declared.query.Answer.{Answer}
use Rattle.of_asking.specs.declared.query.Query.{Query}
use Rattle.of_compile.specs.Structured.{Definitions}
use Rattle.of_state.specs.Loading.{first_state}
use Rattle.of_state.specs.State.{State}
use Rattle.of_steps.specs.Steps.{asked_by, due, replied, settled_of, stepped}
use Rattle.of_eval_laws.specs.Structured.{no_definitions, structured_calls}
use Rattle.of_means.specs.Accepted.{SourcesBehave}
use Rattle.of_means.specs.Outputs.{SourcesPrintAlike}
use Rattle.of_means.specs.Moments.{Moment, answered_step, asked_step, made, next_due, step_by, steps, with_state}
use Rattle.of_means.specs.Moments as moment
use Rattle.of_machine.specs.Runs.{Feed, States, after, asking, beginning, clients_heard, fed_by, next, settled, told}
use Rattle.of_machine.specs.Runs.{turned}
use Rattle.of_machine.specs.Runs as run
use Rattle.of_machine.specs.States.{MachineState, slot}
use Rattle.of_source_runs.specs.Runs.{HasAsked, HasCome, TokenizedMeans, first_moment}

-- ---- a feed at a moment

-- behind so many steps
abbrev feed : ℕ → Moment Definitions → Feed Definitions
feed k t = record {
  machine = record { eval = t.state; steps = k; replies = []; asked = t.asked; waiting = None };
  lines = [];
  answers = t.answers;
  calls = [];
}

-- nothing is handed in
fed_nothing : (b : Bool) (f : Feed Definitions) → fed_by b [] f ≡ f
fed_nothing true f = refl
fed_nothing false f = refl

settled_same : (k : ℕ) (t : Moment Definitions) → settled (feed k t) ≡ feed k t
settled_same k t = fed_nothing t.state.flow.is_running (feed k t)

begins : (image : List ℕ) (answers : List Answer)
    → beginning no_definitions image [] answers [] ≡ feed 0 (first_moment image answers)
begins image answers = settled_same 0 (first_moment image answers)

-- ---- a step

same_answer : (q : Query) (answers : List Answer) → run.fitting q answers ≡ moment.fitting q answers
same_answer q [] = refl
same_answer q (a ∷ answers) = refl

steps_on : (s : State Definitions) → s.flow.is_running ≡ true
    → stepped structured_calls s ≡ settled_of structured_calls (due structured_calls s.flow.next s)
unfolding stepped
steps_on s e =
    ap (λ b. if b then settled_of structured_calls (due structured_calls s.flow.next s) else s) e

same_Some : {A : Type 0} {x y : A} → ◌≡◌ {A = Option A} (Some x) (Some y) → x ≡ y
same_Some e = cc

quiet_turn : (k : ℕ) (t u : Moment Definitions) → t.state.flow.is_running ≡ true
    → asked_step structured_calls (next_due structured_calls) None t ≡ Some u
    → turned structured_calls None (feed k t) ≡ feed (k + 1) u
quiet_turn k t u runs e =
    let new = settled_of structured_calls (next_due structured_calls t.state) in
    let there : with_state new t ≡ u = same_Some e in
    let here : turned structured_calls None (feed k t)
    ≡ settled (feed (k + 1) (with_state (stepped structured_calls t.state) t)) = refl in
    here ∙ settled_same (k + 1) (with_state (stepped structured_calls t.state) t)
    ∙ ap (λ s. feed (k + 1) (with_state s t)) (steps_on t.state runs)
    ∙ ap (feed (k + 1)) there

told_turn : (k : ℕ) (t u : Moment Definitions) (q : Query) (o : Option Answer) → t.state.flow.is_running ≡ true
    → answered_step structured_calls (next_due structured_calls) q o t ≡ Some u
    → told structured_calls o (asking q (feed k t)) ≡ feed (k + 1) u
told_turn k t u q None runs e = absurd cc
told_turn k t u q (Some a) runs e =
    let old = t.state in
    let new : State Definitions = record (stepped structured_calls (replied a old)) { reply = old.reply } in
    let later : Moment Definitions =
    record { state = new; answers = drop 1 t.answers; asked = t.asked ++ q ∷ [] } in
    let there : record {
      state = record (settled_of structured_calls (next_due structured_calls (replied a old))) {
        reply = old.reply;
      };
      answers = drop 1 t.answers;
      asked = t.asked ++ q ∷ [];
    } ≡ u = same_Some e in
    let here : told structured_calls (Some a) (asking q (feed k t)) ≡ settled (feed (k + 1) later) = refl in
    here ∙ settled_same (k + 1) later
    ∙ ap (λ (s : State Definitions). feed (k + 1) (record {
      state = record s { reply = old.reply };
      answers = drop 1 t.answers;
      asked = t.asked ++ q ∷ [];
    })) (steps_on (replied a old) runs)
    ∙ ap (feed (k + 1)) there

turn_by : (k : ℕ) (t u : Moment Definitions) (o : Option Query) → t.state.flow.is_running ≡ true
    → asked_step structured_calls (next_due structured_calls) o t ≡ Some u
    → turned structured_calls o (feed k t) ≡ feed (k + 1) u
turn_by k t u None runs e = quiet_turn k t u runs e
turn_by k t u (Some q) runs e =
    ap (λ x. told structured_calls x (asking q (feed k t))) (same_answer q t.answers)
    ∙ told_turn k t u q (moment.fitting q t.answers) runs e

-- a turn that is made
next_is : (k : ℕ) (t : Moment Definitions) → t.state.flow.is_running ≡ true → k + 1 < 2 ^ 64
    → next structured_calls (feed k t)
    ≡ turned structured_calls (asked_by structured_calls t.state) (feed k t)
unfolding next
next_is k t runs few =
    let counted : nat_lt k (2 ^ 64 - 1) ≡ true = lt-ltb k (2 ^ 64 - 1) (omega (arith, few)) in
    ap (λ b. if (b && nat_lt k (2 ^ 64 - 1)) && true
    then turned structured_calls (asked_by structured_calls t.state) (feed k t)
    else feed k t) runs
    ∙ ap (λ b. if (true && b) && true
    then turned structured_calls (asked_by structured_calls t.state) (feed k t)
    else feed k t) counted

runs_by : (b : Bool) (o : Option (Moment Definitions)) (u : Moment Definitions) → (if b then o else None) ≡ Some u
    → b ≡ true
runs_by true o u e = refl
runs_by false o u e = absurd cc

step_by_if : (b : Bool) (o : Option (Moment Definitions)) (u : Moment Definitions) → (if b then o else None) ≡ Some u
    → o ≡ Some u
step_by_if true o u e = e
step_by_if false o u e = absurd cc

turn : (k : ℕ) (t u : Moment Definitions) → k + 1 < 2 ^ 64 → made structured_calls t ≡ Some u
    → next structured_calls (feed k t) ≡ feed (k + 1) u
turn k t u few e =
    let o = step_by structured_calls (next_due structured_calls) t in
    let runs : t.state.flow.is_running ≡ true = runs_by t.state.flow.is_running o u e in
    let does : o ≡ Some u = step_by_if t.state.flow.is_running o u e in
    next_is k t runs few ∙ turn_by k t u (asked_by structured_calls t.state) runs does

-- ---- so many steps

after_next : (n : ℕ) (f : Feed Definitions)
    → after structured_calls (suc n) f ≡ after structured_calls n (next structured_calls f)
unfolding after
after_next zero f = refl
after_next (suc n) f = ap (next structured_calls) (after_next n f)

comes_by : (n : ℕ) (o : Option (Moment Definitions)) (k : ℕ) (t v : Moment Definitions)
    → made structured_calls t ≡ o → option_and_then (λ u. steps structured_calls n u) o ≡ Some v
    → ((k : ℕ) (u : Moment Definitions) → k + n < 2 ^ 64 → steps structured_calls n u ≡ Some v
    → after structured_calls n (feed k u) ≡ feed (k + n) v)
    → k + suc n < 2 ^ 64 → after structured_calls (suc n) (feed k t) ≡ feed (k + suc n) v
comes_by n None k t v e rest further few = absurd cc
comes_by n (Some u) k t v e rest further few =
    let same : (k + 1) + n ≡ k + suc n = omega arith in
    after_next n (feed k t) ∙ ap (after structured_calls n) (turn k t u (omega (arith, few)) e)
    ∙ further (k + 1) u (omega (arith, few)) rest ∙ ap (λ j. feed j v) same

comes_on : (n : ℕ) (k : ℕ) (t v : Moment Definitions) → k + n < 2 ^ 64
    → steps structured_calls n t ≡ Some v → after structured_calls n (feed k t) ≡ feed (k + n) v
unfolding after
comes_on zero k t v few e =
    let same : t ≡ v = same_Some e in
    let none : k ≡ k + 0 = omega arith in
    ap (feed k) same ∙ ap (λ j. feed j v) none
comes_on (suc n) k t v few e =
    comes_by n (made structured_calls t) k t v refl e (λ j u more s. comes_on n j u v more s) few

comes_from : (image : List ℕ) (answers : List Answer) (k : ℕ) (t : Moment Definitions) → k < 2 ^ 64
    → steps structured_calls k (first_moment image answers) ≡ Some t
    → after structured_calls k (beginning no_definitions image [] answers []) ≡ feed k t
comes_from image answers k t few e =
    let there = comes_on k 0 (first_moment image answers) t (omega (arith, few)) e in
    let same : 0 + k ≡ k = omega arith in
    ap (after structured_calls k) (begins image answers) ∙ there ∙ ap (λ j. feed j t) same

comes : (image : List ℕ) (answers : List Answer) (k : ℕ) (t : Moment Definitions) → k < 2 ^ 64
    → steps structured_calls k (first_moment image answers) ≡ Some t → HasCome (States image [] answers [] k) k t
comes image answers k t few e =
    let m = ap (λ (f : Feed Definitions). f.machine) (comes_from image answers k t few e) in
    record {
      state = ap (λ (n : MachineState Definitions). n.eval) m;
      made = ap (λ (n : MachineState Definitions). n.steps) m;
      asked = ap (λ (n : MachineState Definitions). n.asked) m;
      calm = ap (λ (n : MachineState Definitions). n.waiting) m;
    }

-- ---- a question without an answer

waits : (image : List ℕ) (answers : List Answer) (k : ℕ) (t : Moment Definitions) (q : Query) → k + 1 < 2 ^ 64
    → steps structured_calls k (first_moment image answers) ≡ Some t → t.state.flow.is_running ≡ true
    → asked_by structured_calls t.state ≡ Some q → moment.fitting q t.answers ≡ None
    → HasAsked (States image [] answers [] (k + 1)) k t q
unfolding after
waits image answers k t q few e runs asks none =
    let there = comes_from image answers k t (omega (arith, few)) e in
    let start = beginning no_definitions image [] answers [] in
    let one : after structured_calls (k + 1) start ≡ next structured_calls (after structured_calls k start) =
    ap (λ n. after structured_calls n start) (next_number k) in
    let opened : next structured_calls (feed k t) ≡ asking q (feed k t) =
    next_is k t runs few
    ∙ ap (λ o. turned structured_calls o (feed k t)) asks
    ∙ ap (λ o. told structured_calls o (asking q (feed k t))) (same_answer q t.answers ∙ none) in
    let all : after structured_calls (k + 1) start ≡ asking q (feed k t) =
    one ∙ ap (next structured_calls) there ∙ opened in
    let m = ap (λ (f : Feed Definitions). f.machine) all in
    record {
      state = ap (λ (n : MachineState Definitions). n.eval) m;
      made = ap (λ (n : MachineState Definitions). n.steps) m;
      asked = ap (λ (n : MachineState Definitions). n.asked) m;
      asks = ap (λ (n : MachineState Definitions). n.waiting) m;
    }
  where
    next_number : (n : ℕ) → n + 1 ≡ suc n
    next_number n = omega arith

-- ---- the law

pub tokenized_means : SourcesBehave → SourcesPrintAlike → TokenizedMeans
tokenized_means law prints = record {
  behaves = λ text image source answers accepted encodable made bytes taken. (
    law.behaves text image source (first_moment image answers) accepted encodable made
        (law.begins image slot answers (first_state no_definitions) law.first bytes taken),
    law.at_first source image slot answers (first_state no_definitions) made taken,
  );
  prints = λ text image source answers accepted encodable made bytes taken.
      prints.alike text image source (first_moment image answers) accepted encodable made
      (law.begins image slot answers (first_state no_definitions) law.first bytes taken);
  comes = comes;
  waits = waits;
}
