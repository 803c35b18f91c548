-- From wherever a course stands before a part, the machine comes to where it stands behind: what comes together so.
use Rattle.std.proofs.Common.{◌≡◌, ℕ, zero, suc, ◌+◌, ◌-◌, ◌<◌, ◌≤◌, Bool, true, false, List, ◌∷◌, Option, Some, None}
use Rattle.std.proofs.Common.{refl, sym, ap, ◌∙◌, subst, arith, eqb-true, if◌then◌else◌}
use Rattle.std.specs.Prelude.{◌==◌}
use Rattle.std.proofs.lemmas.Bool.{eq-eqb, eqb-false}
use Rattle.std.proofs.Common.{inl, inr}
use Rattle.of_means.proofs.Level.{drop_any, drop_both}
use Rattle.of_stream.specs.declared.stream.OffsetSize.{OffsetSize}
use Rattle.of_stream.specs.Decoding.{Token, token_from}
use Rattle.of_source.specs.Nest.{Nest}
use Rattle.of_tok.specs.declared.place.Place.{Place}
use Rattle.of_tok.specs.Places.{behind}
use Rattle.of_tok.specs.Tokens.{first, others}
use Rattle.of_state.specs.State.{Calls, State}
use Rattle.of_eval_laws.specs.Returning.{is_back}
use Rattle.of_means.specs.Moments.{IsWaiting, Moment, exchanged, made, next_due, step_by, steps}
use Rattle.of_means.specs.Courses.{Course, On, Off, Out, Left, Thrown, Waits, Cut, Beyond, arrives, joins, on_if}
use Rattle.of_means.specs.Courses.{past_if}
use Rattle.of_means.specs.Courses.{past_loop, swaps, through}
use Rattle.of_means.specs.Means.{after_step, at, comes_back, over, token_at, word}
use Rattle.of_means.specs.Laws.{IsAt}
use Rattle.of_means.proofs.Steps.{Comes, made_by, one_step, stays, step_then, steps_on, then_comes, waits_on}
use Rattle.of_eval_laws.specs.Returning.{AreAmong, loop_ends}
use Rattle.of_means.proofs.Runs.{aim, aim_latest, aim_under, token_found}

module _ {S : Type 0} (c : Calls S) (own : Nest → Calls S) (image loops : List ℕ) (lo : ℕ) (z : OffsetSize)
    (Keeps : State S → Type 0)
  where
    abbrev pub Stands : Moment S → Type 0
    Stands m = IsAt c image loops Keeps m

    -- the machine stands at a position
    abbrev pub here : ℕ → Moment S → Moment S
    here k m = at (record { position = k; size = z }) m

    pub placed : (q : Place) (m : Moment S) → q.size ≡ z → at q m ≡ here q.position m
    placed q m e = ap (λ y. at (record { position = q.position; size = y }) m) e

    -- From a moment the machine comes to where a course stands: at position k what is through, where its branch leads
    -- what left by one of d, at `out` what left by an `endof`, where one can.
    abbrev pub Reached : ℕ → Moment S → ℕ → ℕ → List ℕ → Bool → ℕ → Course S → Type 0
    Reached n s0 k d aims cases out (On t) = Stands t × Comes c s0 (here k t)
    Reached n s0 k d aims cases out (Off b t) =
        (lo ≤ b) × (b < d) × Stands t × Comes c s0 (here (aim aims d b) t)
    Reached n s0 k d aims cases out (Out t) = (cases ≡ true) × Stands t × Comes c s0 (here out t)
    Reached n s0 k d aims cases out (Left e t) =
        Stands t × AreAmong (e ∷ loop_ends t.state.flow.items) loops × Comes c s0 (here e t)
    Reached n s0 k d aims cases out (Thrown t) = (t.state.flow.is_running ≡ false) × Comes c s0 t
    Reached n s0 k d aims cases out (Waits t) = IsWaiting c t × Comes c s0 t
    Reached n s0 k d aims cases out (Cut t) =
        (j : ℕ) × (u : Moment S) × (n ≤ j) × (steps c j s0 ≡ Some u) × (u.state.board ≡ t.state.board)
        × (exchanged u ≡ exchanged t)
    Reached n s0 k d aims cases out Beyond = Unit {0}

    -- what follows a stretch
    pub after_comes : (n : ℕ) (s0 s1 : Moment S) (k d : ℕ) (aims : List ℕ) (cases : Bool) (out : ℕ) (f : Course S)
        → Comes c s0 s1 → Reached n s1 k d aims cases out f → Reached n s0 k d aims cases out f
    after_comes n s0 s1 k d aims cases out (On t) l r = (r.0, then_comes c s0 s1 _ l r.1)
    after_comes n s0 s1 k d aims cases out (Off b t) l r = (r.0, r.1, r.2, then_comes c s0 s1 _ l r.3)
    after_comes n s0 s1 k d aims cases out (Out t) l r = (r.0, r.1, then_comes c s0 s1 _ l r.2)
    after_comes n s0 s1 k d aims cases out (Left e t) l r = (r.0, r.1, then_comes c s0 s1 _ l r.2)
    after_comes n s0 s1 k d aims cases out (Thrown t) l r = (r.0, then_comes c s0 s1 t l r.1)
    after_comes n s0 s1 k d aims cases out (Waits t) l r = (r.0, then_comes c s0 s1 t l r.1)
    after_comes n s0 s1 k d aims cases out (Cut t) l r =
        (l.0 + r.0, r.1, omega (arith, r.2), steps_on c l.0 r.0 s0 s1 l.1 ∙ r.3, r.4, r.5)
    after_comes n s0 s1 k d aims cases out Beyond l r = tt

    -- and what follows a step
    pub after_one : (n : ℕ) (s0 s1 : Moment S) (k d : ℕ) (aims : List ℕ) (cases : Bool) (out : ℕ) (f : Course S)
        → made c s0 ≡ Some s1 → Reached n s1 k d aims cases out f → Reached (suc n) s0 k d aims cases out f
    after_one n s0 s1 k d aims cases out (On t) e r = (r.0, then_comes c s0 s1 _ (one_step c s0 s1 e) r.1)
    after_one n s0 s1 k d aims cases out (Off b t) e r =
        (r.0, r.1, r.2, then_comes c s0 s1 _ (one_step c s0 s1 e) r.3)
    after_one n s0 s1 k d aims cases out (Out t) e r = (r.0, r.1, then_comes c s0 s1 _ (one_step c s0 s1 e) r.2)
    after_one n s0 s1 k d aims cases out (Left x t) e r = (r.0, r.1, then_comes c s0 s1 _ (one_step c s0 s1 e) r.2)
    after_one n s0 s1 k d aims cases out (Thrown t) e r = (r.0, then_comes c s0 s1 t (one_step c s0 s1 e) r.1)
    after_one n s0 s1 k d aims cases out (Waits t) e r = (r.0, then_comes c s0 s1 t (one_step c s0 s1 e) r.1)
    after_one n s0 s1 k d aims cases out (Cut t) e r =
        (suc r.0, r.1, omega (arith, r.2), step_then c r.0 s0 s1 r.1 e r.3, r.4, r.5)
    after_one n s0 s1 k d aims cases out Beyond e r = tt

    -- a lower bound
    pub fewer : (n m : ℕ) (s0 : Moment S) (k d : ℕ) (aims : List ℕ) (cases : Bool) (out : ℕ) (f : Course S) → n ≤ m
        → Reached m s0 k d aims cases out f → Reached n s0 k d aims cases out f
    fewer n m s0 k d aims cases out (On t) le r = r
    fewer n m s0 k d aims cases out (Off b t) le r = r
    fewer n m s0 k d aims cases out (Out t) le r = r
    fewer n m s0 k d aims cases out (Left e t) le r = r
    fewer n m s0 k d aims cases out (Thrown t) le r = r
    fewer n m s0 k d aims cases out (Waits t) le r = r
    fewer n m s0 k d aims cases out (Cut t) le r = (r.0, r.1, omega (arith, le, r.2), r.3, r.4, r.5)
    fewer n m s0 k d aims cases out Beyond le r = r

    pub step_on : (n : ℕ) (s0 s1 : Moment S) (k d : ℕ) (aims : List ℕ) (cases : Bool) (out : ℕ) (f : Course S)
        → made c s0 ≡ Some s1 → Reached n s1 k d aims cases out f → Reached n s0 k d aims cases out f
    step_on n s0 s1 k d aims cases out f e r =
        fewer n (suc n) s0 k d aims cases out f (omega arith) (after_one n s0 s1 k d aims cases out f e r)

    -- where no `endof` leaves, it matters not where it would lead
    pub widen : (n : ℕ) (s0 : Moment S) (k d : ℕ) (aims : List ℕ) (out : ℕ) (cases : Bool) (out' : ℕ) (f : Course S)
        → Reached n s0 k d aims false out f → Reached n s0 k d aims cases out' f
    widen n s0 k d aims out cases out' (On t) r = r
    widen n s0 k d aims out cases out' (Off b t) r = r
    widen n s0 k d aims out cases out' (Out t) r = absurd (no r.0)
      where
        no : false ≡ true → ⊥
        no h = cc
    widen n s0 k d aims out cases out' (Left e t) r = r
    widen n s0 k d aims out cases out' (Thrown t) r = r
    widen n s0 k d aims out cases out' (Waits t) r = r
    widen n s0 k d aims out cases out' (Cut t) r = r
    widen n s0 k d aims out cases out' Beyond r = r

    -- the branches that are open before lead where they lead behind
    abbrev pub Moves : ℕ → List ℕ → ℕ → List ℕ → Type 0
    Moves d aims d' aims' = (b : ℕ) → b < d → (b < d') × (aim aims d b ≡ aim aims' d' b)

    pub still : (d : ℕ) (aims : List ℕ) → Moves d aims d aims
    still d aims b lt = (lt, refl)

    -- what comes through goes on
    pub go_on : (n : ℕ) (s0 : Moment S) (k k' d d' : ℕ) (aims aims' : List ℕ) (cases : Bool) (out : ℕ) (f : Course S)
        (g : Moment S → Course S) → Moves d aims d' aims' → Reached n s0 k d aims cases out f
        → ((s : Moment S) → Stands s → Reached n (here k s) k' d' aims' cases out (g s))
        → Reached n s0 k' d' aims' cases out (through f g)
    go_on n s0 k k' d d' aims aims' cases out (On t) g m r h =
        after_comes n s0 (here k t) k' d' aims' cases out (g t) r.1 (h t r.0)
    go_on n s0 k k' d d' aims aims' cases out (Off b t) g m r h =
        let e = m b r.1 in (r.0, e.0, r.2, subst (λ (x : ℕ). Comes c s0 (here x t)) e.1 r.3)
    go_on n s0 k k' d d' aims aims' cases out (Out t) g m r h = r
    go_on n s0 k k' d d' aims aims' cases out (Left e t) g m r h = r
    go_on n s0 k k' d d' aims aims' cases out (Thrown t) g m r h = r
    go_on n s0 k k' d d' aims aims' cases out (Waits t) g m r h = r
    go_on n s0 k k' d d' aims aims' cases out (Cut t) g m r h = r
    go_on n s0 k k' d d' aims aims' cases out Beyond g m r h = r

    -- ---- what a word started

    abbrev pub Returned : ℕ → Moment S → Course S → Type 0
    Returned n s (On t) = Comes c s t
    Returned n s (Off b t) = ⊥
    Returned n s (Out t) = ⊥
    Returned n s (Left e t) = ⊥
    Returned n s (Thrown t) = (t.state.flow.is_running ≡ false) × Comes c s t
    Returned n s (Waits t) = IsWaiting c t × Comes c s t
    Returned n s (Cut t) = (j : ℕ) × (n ≤ j) × (steps c j s ≡ Some t)
    Returned n s Beyond = ⊥

    over_returned : (n : ℕ) (s : Moment S) (running home : Bool) (f : Course S) → s.state.flow.is_running ≡ running
        → (s.state.flow.is_running ≡ true → Returned n s f) → Returned n s (over running home s f)
    over_returned n s false home f e h = (e, stays c s)
    over_returned n s true true f e h = stays c s
    over_returned n s true false f e h = h e

    later : (n : ℕ) (s t : Moment S) (f : Course S) → made c s ≡ Some t → Returned n t f → Returned (suc n) s f
    later n s t (On u) e r = then_comes c s t u (one_step c s t e) r
    later n s t (Off b u) e r = r
    later n s t (Out u) e r = r
    later n s t (Left x u) e r = r
    later n s t (Thrown u) e r = (r.0, then_comes c s t u (one_step c s t e) r.1)
    later n s t (Waits u) e r = (r.0, then_comes c s t u (one_step c s t e) r.1)
    later n s t (Cut u) e r = (suc r.0, omega (arith, r.1), step_then c r.0 s t u e r.2)
    later n s t Beyond e r = r

    sooner : (n : ℕ) (s : Moment S) (f : Course S) → Returned (suc n) s f → Returned n s f
    sooner n s (On u) r = r
    sooner n s (Off b u) r = r
    sooner n s (Out u) r = r
    sooner n s (Left x u) r = r
    sooner n s (Thrown u) r = r
    sooner n s (Waits u) r = r
    sooner n s (Cut u) r = (r.0, omega (arith, r.1), r.2)
    sooner n s Beyond r = r

    -- a step, or a question that is open
    stepped_on : (n : ℕ) (s : Moment S) (o : Option (Moment S)) (g : Moment S → Course S)
        → s.state.flow.is_running ≡ true
        → made c s ≡ o → ((t : Moment S) → Returned n t (g t)) → Returned (suc n) s (after_step o s g)
    stepped_on n s None g r e h = (waits_on c (next_due c) s (sym (made_by c s r) ∙ e), stays c s)
    stepped_on n s (Some t) g r e h = later n s t (g t) e (h t)

    pub returned : (n : ℕ) (s : Moment S) → Returned n s (comes_back c n s)
    returned zero s =
        over_returned zero s s.state.flow.is_running (is_back s.state) (Cut s) refl (λ e. (0, omega arith, refl))
    returned (suc n) s =
        over_returned (suc n) s s.state.flow.is_running (is_back s.state)
        (after_step (made c s) s (λ t. comes_back c n t)) refl
        (λ e. stepped_on n s (made c s) (λ t. comes_back c n t) e refl (λ t. returned n t))

    came_behind : (n : ℕ) (s0 : Moment S) (q : Place) (d : ℕ) (aims : List ℕ) (cases : Bool) (out : ℕ) (f : Course S)
        → q.size ≡ z → Returned n s0 f → ((u : Moment S) → f ≡ On u → Stands u × (at q u ≡ u))
        → Reached n s0 q.position d aims cases out f
    came_behind n s0 q d aims cases out (On t) zq r h =
        let a = h t refl in
        let there : t ≡ here q.position t = sym a.1 ∙ placed q t zq in
        (a.0, subst (λ x. Comes c s0 x) there r)
    came_behind n s0 q d aims cases out (Off b t) zq r h = absurd r
    came_behind n s0 q d aims cases out (Out t) zq r h = absurd r
    came_behind n s0 q d aims cases out (Left x t) zq r h = absurd r
    came_behind n s0 q d aims cases out (Thrown t) zq r h = r
    came_behind n s0 q d aims cases out (Waits t) zq r h = r
    came_behind n s0 q d aims cases out (Cut t) zq r h = (r.0, t, r.1, r.2, refl, refl)
    came_behind n s0 q d aims cases out Beyond zq r h = absurd r

    -- a word that comes back, from its own place
    pub word_behind : (n : ℕ) (t : Token) (p : Place) (m : Moment S) (d : ℕ) (aims : List ℕ) (cases : Bool) (out : ℕ)
        → (behind t p).size ≡ z → Stands m → token_from image p.position p.size ≡ Some (t, (behind t p).position)
        → ((u : Moment S) → word c n t p m ≡ On u → Stands u × (at (behind t p) u ≡ u))
        → Reached n (at p m) (behind t p).position d aims cases out (word c n t p m)
    word_behind n t p m d aims cases out zq h found back =
        let q = behind t p in
        let step : made c (at p m) ≡ step_by c (token_at c t p q) m =
        token_found c image loops Keeps false p q t m h found refl in
        let r = stepped_on n (at p m) (step_by c (token_at c t p q) m) (λ u. comes_back c n u) h.running step
        (λ u. returned n u) in
        came_behind n (at p m) q d aims cases out (word c n t p m) zq (sooner n (at p m) (word c n t p m) r) back

    -- a word that comes back
    pub word_reached : (n : ℕ) (t : Token) (p : Place) (m : Moment S) (d : ℕ) (aims : List ℕ) (cases : Bool) (out : ℕ)
        → p.size ≡ z → (behind t p).size ≡ z → Stands m
        → token_from image p.position p.size ≡ Some (t, (behind t p).position)
        → ((u : Moment S) → word c n t p m ≡ On u → Stands u × (at (behind t p) u ≡ u))
        → Reached n (here p.position m) (behind t p).position d aims cases out (word c n t p m)
    word_reached n t p m d aims cases out e zq h found back =
        subst (λ (x : Moment S). Reached n x (behind t p).position d aims cases out (word c n t p m)) (placed p m e)
        (word_behind n t p m d aims cases out zq h found back)

    -- ---- where words close

    meets : (s0 : Moment S) (n q d b : ℕ) (aims : List ℕ) (cases : Bool) (out : ℕ) (t : Moment S) (v : Bool)
        → (b == d - 1) ≡ v → lo ≤ b → b < d → Stands t → Comes c s0 (here (if v then q else aim aims (d - 1) b) t)
        → Reached n s0 q (d - 1) aims cases out (on_if v b t)
    meets s0 n q d b aims cases out t true e lb lt h r = (h, r)
    meets s0 n q d b aims cases out t false e lb lt h r =
        let x = eqb-false b (d - 1) e in (lb, omega (arith, x, lt), h, r)

    pub arrive : (n : ℕ) (s0 : Moment S) (k q d : ℕ) (aims : List ℕ) (cases : Bool) (out : ℕ) (f : Course S)
        → ((s : Moment S) → Stands s → made c (here k s) ≡ Some (here q s))
        → Reached n s0 k d (q ∷ aims) cases out f → Reached n s0 q (d - 1) aims cases out (arrives (d - 1) f)
    arrive n s0 k q d aims cases out (On t) h r =
        (r.0, then_comes c s0 (here k t) (here q t) r.1 (one_step c (here k t) (here q t) (h t r.0)))
    arrive n s0 k q d aims cases out (Off b t) h r =
        meets s0 n q d b aims cases out t (b == d - 1) refl r.0 r.1 r.2 r.3
    arrive n s0 k q d aims cases out (Out t) h r = r
    arrive n s0 k q d aims cases out (Left e t) h r = r
    arrive n s0 k q d aims cases out (Thrown t) h r = r
    arrive n s0 k q d aims cases out (Waits t) h r = r
    arrive n s0 k q d aims cases out (Cut t) h r = r
    arrive n s0 k q d aims cases out Beyond h r = r

    crosses : (s0 : Moment S) (n q d b : ℕ) (aims : List ℕ) (cases : Bool) (out : ℕ) (t : Moment S) (v : Bool)
        → (b == d - 1) ≡ v → lo < d → lo ≤ b → b < d → Stands t
        → Comes c s0 (here (if v then q else aim (others aims) (d - 1) b) t)
        → Reached n s0 q d aims cases out (on_if v b t)
    crosses s0 n q d b aims cases out t true e p lb lt h r = (h, r)
    crosses s0 n q d b aims cases out t false e p lb lt h r =
        let x = eqb-false b (d - 1) e in
        let up : d - 1 + 1 ≡ d = omega (arith, p) in
        let same : aim (others aims) (d - 1) b ≡ aim aims d b =
        aim_under aims (d - 1) b (omega (arith, x, lt)) ∙ ap (λ (m : ℕ). aim aims m b) up in
        (lb, lt, h, subst (λ (y : ℕ). Comes c s0 (here y t)) same r)

    pub swap : (n : ℕ) (s0 : Moment S) (k q d : ℕ) (aims : List ℕ) (cases : Bool) (out : ℕ) (f : Course S) → lo < d
        → ((s : Moment S) → Stands s → made c (here k s) ≡ Some (here (first aims) s))
        → Reached n s0 k d (q ∷ others aims) cases out f → Reached n s0 q d aims cases out (swaps (d - 1) f)
    swap n s0 k q d aims cases out (On t) p h r =
        let up : d - 1 + 1 ≡ d = omega (arith, p) in
        let to : first aims ≡ aim aims d (d - 1) =
        sym (aim_latest aims (d - 1)) ∙ ap (λ (m : ℕ). aim aims m (d - 1)) up in (
          omega (arith, p),
          omega (arith, p),
          r.0,
          then_comes c s0 (here k t) _ r.1
              (one_step c (here k t) _ (h t r.0 ∙ ap (λ (y : ℕ). Some (here y t)) to)),
        )
    swap n s0 k q d aims cases out (Off b t) p h r =
        crosses s0 n q d b aims cases out t (b == d - 1) refl p r.0 r.1 r.2 r.3
    swap n s0 k q d aims cases out (Out t) p h r = r
    swap n s0 k q d aims cases out (Left e t) p h r = r
    swap n s0 k q d aims cases out (Thrown t) p h r = r
    swap n s0 k q d aims cases out (Waits t) p h r = r
    swap n s0 k q d aims cases out (Cut t) p h r = r
    swap n s0 k q d aims cases out Beyond p h r = r

    pub join_run : (n : ℕ) (s0 : Moment S) (q d : ℕ) (aims : List ℕ) (cases : Bool) (out : ℕ) (f : Course S)
        → Reached n s0 q d aims true q f → Reached n s0 q d aims cases out (joins f)
    join_run n s0 q d aims cases out (On t) r = r
    join_run n s0 q d aims cases out (Off b t) r = r
    join_run n s0 q d aims cases out (Out t) r = (r.1, r.2)
    join_run n s0 q d aims cases out (Left e t) r = r
    join_run n s0 q d aims cases out (Thrown t) r = r
    join_run n s0 q d aims cases out (Waits t) r = r
    join_run n s0 q d aims cases out (Cut t) r = r
    join_run n s0 q d aims cases out Beyond r = r

-- ---- out of a loop

-- What comes through the inside of a loop that ends at q goes on; what left that loop goes on behind it.
module _ {S : Type 0} (c : Calls S) (own : Nest → Calls S) (image loops : List ℕ) (lo : ℕ) (z : OffsetSize)
    (Keeps : State S → Type 0) (q d : ℕ) where
  abbrev Outer : ℕ → Moment S → ℕ → List ℕ → Bool → ℕ → Course S → Type 0
  Outer n s0 k aims cases out f = Reached c own image loops lo z Keeps n s0 k d aims cases out f

  abbrev Within : ℕ → Moment S → ℕ → List ℕ → ℕ → Course S → Type 0
  Within n s0 k aims out f = Reached c own image (q ∷ loops) d z Keeps n s0 k d aims false out f

  outside : (m : Moment S) → IsAt c image (q ∷ loops) Keeps m → AreAmong (loop_ends m.state.flow.items) loops
      → IsAt c image loops Keeps m
  outside m h a = record {
    running = h.running;
    next = h.next;
    compiles = h.compiles;
    defines = h.defines;
    opened = h.opened;
    level = h.level;
    among = a;
    bytes = h.bytes;
    kept = h.kept;
  }

  beyond : (e : ℕ) (xs ys : List ℕ) → (e == q) ≡ false → AreAmong (e ∷ xs) (q ∷ ys) → AreAmong (e ∷ xs) ys
  beyond e xs ys f (inl h) = absurd (no (sym f ∙ eq-eqb e q h.0))
    where
      no : false ≡ true → ⊥
      no g = cc
  beyond e xs ys f (inr h) = h

  leaves_loop : (n : ℕ) (s0 : Moment S) (e : ℕ) (aims : List ℕ) (cases : Bool) (out : ℕ) (t : Moment S) (v : Bool)
      → (e == q) ≡ v → IsAt c image (q ∷ loops) Keeps t → AreAmong (e ∷ loop_ends t.state.flow.items) (q ∷ loops)
      → Comes c s0 (here c own image loops lo z Keeps e t) → Outer n s0 q aims cases out (past_if v e t)
  leaves_loop n s0 e aims cases out t true same h a r = (
    outside t h (drop_both e (loop_ends t.state.flow.items) q loops a),
    subst (λ (x : ℕ). Comes c s0 (here c own image loops lo z Keeps x t)) (eqb-true e q same) r,
  )
  leaves_loop n s0 e aims cases out t false same h a r =
      let b = beyond e (loop_ends t.state.flow.items) loops same a in
      (outside t h (drop_any e (loop_ends t.state.flow.items) loops b), b, r)

  none_between : (b : ℕ) → d ≤ b → b < d → ⊥
  none_between b le lt = omega (arith, le, lt)

  pub cross : (n m : ℕ) (s0 : Moment S) (k : ℕ) (aims : List ℕ) (cases : Bool) (out out' : ℕ) (f : Course S)
      (g : Moment S → Course S) → n ≤ m → Within m s0 k aims out' f
      → ((t : Moment S) → IsAt c image (q ∷ loops) Keeps t
      → Outer n (here c own image loops lo z Keeps k t) q aims cases out (past_loop q (g t)))
      → Outer n s0 q aims cases out (past_loop q (through f g))
  cross n m s0 k aims cases out out' (On t) g le r h =
      after_comes c own image loops lo z Keeps n s0 (here c own image loops lo z Keeps k t) q d aims cases out
      (past_loop q (g t)) r.1 (h t r.0)
  cross n m s0 k aims cases out out' (Off b t) g le r h = absurd (none_between b r.0 r.1)
  cross n m s0 k aims cases out out' (Out t) g le r h = absurd (no r.0)
    where
      no : false ≡ true → ⊥
      no e = cc
  cross n m s0 k aims cases out out' (Left e t) g le r h =
      leaves_loop n s0 e aims cases out t (e == q) refl r.0 r.1 r.2
  cross n m s0 k aims cases out out' (Thrown t) g le r h = r
  cross n m s0 k aims cases out out' (Waits t) g le r h = r
  cross n m s0 k aims cases out out' (Cut t) g le r h = (r.0, r.1, omega (arith, le, r.2), r.3, r.4, r.5)
  cross n m s0 k aims cases out out' Beyond g le r h = r
