-- Runs of steps, one after another, and where they rest.
use Rattle.std.proofs.Common.{◌≡◌, ⊎_elim, ℕ, zero, suc, ◌+◌, ◌-◌, ◌<◌, ◌≤◌, Bool, true, false, Option, Some, None}
use Rattle.std.proofs.Common.{refl, sym, ap, ◌∙◌, arith, if◌then◌else◌}
use Rattle.std.specs.Prelude.{option_and_then}
use Rattle.std.proofs.lemmas.Bool.{cases_lt}
use Rattle.of_state.specs.State.{Calls, Outcome, State}
use Rattle.of_asking.specs.declared.query.Answer.{Answer}
use Rattle.of_asking.specs.declared.query.Query.{Query}
use Rattle.of_steps.specs.Steps.{replied, settled_of}
use Rattle.of_means.specs.Moments.{Moment, answered_step, asked_step, fitting, made, next_due, step_by, steps}
use Rattle.of_means.specs.Moments.{IsWaiting, with_state}

some_not_none : {A : Type 0} (x : A) (o : Option A) → o ≡ Some x → o ≡ None → ⊥
some_not_none x o e f = no (sym e ∙ f)
  where
    no : Some x ≡ None → ⊥
    no h = cc

some_one : {A : Type 0} (x y : A) (o : Option A) → o ≡ Some x → o ≡ Some y → x ≡ y
some_one x y o e f = same (sym e ∙ f)
  where
    same : Some x ≡ Some y → x ≡ y
    same h = cc

module _ {S : Type 0} (c : Calls S) where
  -- the machine comes from one moment to another
  abbrev pub Comes : Moment S → Moment S → Type 0
  Comes s t = (j : ℕ) × (steps c j s ≡ Some t)

  pub stays : (s : Moment S) → Comes s s
  stays s = (0, refl)

  pub one_step : (s t : Moment S) → made c s ≡ Some t → Comes s t
  one_step s t e = (1, ap (λ o. option_and_then (λ u. steps c 0 u) o) e)

  -- steps behind steps
  pub steps_on : (j k : ℕ) (s t : Moment S) → steps c j s ≡ Some t → steps c (j + k) s ≡ steps c k t
  steps_on zero k s t e =
      let n : zero + k ≡ k = omega arith in
      ap (λ i. steps c i s) n ∙ ap (steps c k) (some_one s t (Some s) refl e)
  steps_on (suc j) k s t e =
      let n : suc j + k ≡ suc (j + k) = omega arith in
      ap (λ i. steps c i s) n ∙ go (made c s) refl (λ u. steps_on j k u t)
    where
      go : (o : Option (Moment S)) → made c s ≡ o
          → ((u : Moment S) → steps c j u ≡ Some t → steps c (j + k) u ≡ steps c k t)
          → option_and_then (λ u. steps c (j + k) u) (made c s) ≡ steps c k t
      go None f more = absurd (some_not_none t _ e (ap (λ o. option_and_then (λ u. steps c j u) o) f))
      go (Some u) f more =
          ap (λ o. option_and_then (λ v. steps c (j + k) v) o) f
          ∙ more u (sym (ap (λ o. option_and_then (λ v. steps c j v) o) f) ∙ e)

  pub then_comes : (s t u : Moment S) → Comes s t → Comes t u → Comes s u
  then_comes s t u a b = (a.0 + b.0, steps_on a.0 b.0 s t a.1 ∙ b.1)

  pub step_then : (k : ℕ) (s t u : Moment S) → made c s ≡ Some t → steps c k t ≡ Some u → steps c (suc k) s ≡ Some u
  step_then k s t u e f = ap (λ o. option_and_then (λ v. steps c k v) o) e ∙ f

  -- where no step is made, a run that rests there makes none
  pub rests_at : (k : ℕ) (s t : Moment S) → made c s ≡ None → steps c k s ≡ Some t → s ≡ t
  rests_at zero s t e f = some_one s t (Some s) refl f
  rests_at (suc k) s t e f =
      absurd (some_not_none t _ f (ap (λ o. option_and_then (λ v. steps c k v) o) e))

  -- no longer run passes where one rests
  pub no_longer : (j k : ℕ) (s t u : Moment S) → steps c j s ≡ Some t → made c t ≡ None → steps c k s ≡ Some u → k ≤ j
  no_longer j k s t u a e b = ⊎_elim (λ lt. past lt) (λ le. le) (cases_lt j k)
    where
      stuck : (i : ℕ) → 0 < i → steps c i t ≡ Some u → k ≤ j
      stuck zero lt m = absurd (omega (arith, lt))
      stuck (suc i) lt m = absurd (some_not_none u _ m (ap (λ o. option_and_then (λ v. steps c i v) o) e))

      past : j < k → k ≤ j
      past lt =
          let n : j + (k - j) ≡ k = omega (arith, lt) in
          let more : steps c (k - j) t ≡ Some u = sym (steps_on j (k - j) s t a) ∙ ap (λ i. steps c i s) n ∙ b in
          stuck (k - j) (omega (arith, lt)) more

  -- two runs that rest, rest in the same
  pub one_rest : (j k : ℕ) (s t u : Moment S) → steps c j s ≡ Some t → made c t ≡ None → steps c k s ≡ Some u
      → made c u ≡ None → t ≡ u
  one_rest j k s t u a e b f =
      let le : k ≤ j = no_longer j k s t u a e b in
      let ge : j ≤ k = no_longer k j s u t b f a in
      let same : j ≡ k = omega (arith, le, ge) in
      some_one t u (steps c k s) (ap (λ i. steps c i s) (sym same) ∙ a) b

  -- ---- one step

  answered_same : (f g : State S → Outcome S) (m : Moment S) (q : Query) (o : Option Answer)
      → ((a : Answer) → f (replied a m.state) ≡ g (replied a m.state))
      → answered_step c f q o m ≡ answered_step c g q o m
  answered_same f g m q None h = refl
  answered_same f g m q (Some a) h =
      ap (λ (x : Outcome S). answered_step c (λ s. x) q (Some a) m) (h a)

  asked_same : (f g : State S → Outcome S) (m : Moment S) (o : Option Query) → f m.state ≡ g m.state
      → ((a : Answer) → f (replied a m.state) ≡ g (replied a m.state)) → asked_step c f o m ≡ asked_step c g o m
  asked_same f g m None e h = ap (λ (x : Outcome S). Some (with_state (settled_of c x) m)) e
  asked_same f g m (Some q) e h = answered_same f g m q (fitting q m.answers) h

  -- what does the same is the same step
  pub same_step : (f g : State S → Outcome S) (m : Moment S) → f m.state ≡ g m.state
      → ((a : Answer) → f (replied a m.state) ≡ g (replied a m.state)) → step_by c f m ≡ step_by c g m
  same_step f g m e h =
      asked_same f g m (f m.state).asks e h ∙ ap (λ (x : Outcome S). asked_step c g x.asks m) e

  -- what asks nothing is a step
  pub plain_step : (f : State S → Outcome S) (m : Moment S) (o : Outcome S) → f m.state ≡ o → o.asks ≡ None
      → step_by c f m ≡ Some (with_state (settled_of c o) m)
  plain_step f m o e n =
      ap (λ (x : Option Query). asked_step c f x m) (ap (λ (x : Outcome S). x.asks) e ∙ n)
      ∙ ap (λ (x : Outcome S). Some (with_state (settled_of c x) m)) e

  -- where a step isn't made, a question is open
  pub waits_on : (f : State S → Outcome S) (m : Moment S) → step_by c f m ≡ None
      → (q : Query) × ((f m.state).asks ≡ Some q) × (fitting q m.answers ≡ None)
  waits_on f m e = asked (f m.state).asks refl
    where
      none : (q : Query) → (f m.state).asks ≡ Some q → (o : Option Answer) → fitting q m.answers ≡ o
          → (r : Query) × ((f m.state).asks ≡ Some r) × (fitting r m.answers ≡ None)
      none q g None h = (q, g, h)
      none q g (Some a) h =
          absurd (some_not_none _ _
          (ap (λ (x : Option Query). asked_step c f x m) g ∙ ap (λ (x : Option Answer). answered_step c f q x m) h) e)

      asked : (o : Option Query) → (f m.state).asks ≡ o
          → (q : Query) × ((f m.state).asks ≡ Some q) × (fitting q m.answers ≡ None)
      asked None g = absurd (some_not_none _ _ (ap (λ (x : Option Query). asked_step c f x m) g) e)
      asked (Some q) g = none q g (fitting q m.answers) refl

  -- where something runs, the next step is that of what comes next
  pub made_by : (m : Moment S) → m.state.flow.is_running ≡ true → made c m ≡ step_by c (next_due c) m
  made_by m e = ap (λ (x : Bool). if x then step_by c (next_due c) m else None) e

  pub none_off : (m : Moment S) → m.state.flow.is_running ≡ false → made c m ≡ None
  none_off m e = ap (λ (x : Bool). if x then step_by c (next_due c) m else None) e

  -- where a question is open no step is made
  pub waiting_rests : (t : Moment S) → IsWaiting c t → made c t ≡ None
  waiting_rests t w = off t.state.flow.is_running refl
    where
      off : (b : Bool) → t.state.flow.is_running ≡ b → made c t ≡ None
      off false e = none_off t e
      off true e =
          made_by t e
          ∙ ap (λ (o : Option Query). asked_step c (next_due c) o t) w.1
          ∙ ap (λ (o : Option Answer). answered_step c (next_due c) w.0 o t) w.2
