-- What a word of the source started comes back to it, over structured definitions.
use Rattle.std.proofs.Common.{◌≡◌, inl, inr, ℕ, zero, suc, Bool, true, false, List, length, Option, Some, None, refl}
use Rattle.std.proofs.Common.{sym}
use Rattle.std.proofs.Common.{ap, ◌∙◌, subst}
use Rattle.of_asking.specs.declared.query.Answer.{Answer}
use Rattle.of_stacks.specs.declared.return_item.Input.TheVariants as input
use Rattle.of_stacks.specs.declared.return_item.Reading.{Reading}
use Rattle.of_stream.specs.Decoding.{Token, token_from}
use Rattle.of_compile.specs.Structured.{Definitions}
use Rattle.of_tok.specs.declared.place.Place.{Place}
use Rattle.of_tok.specs.Places.{behind}
use Rattle.of_state.specs.State.{Calls, State}
use Rattle.of_state.specs.Settling.{thrown_in}
use Rattle.of_steps.specs.Steps.{replied}
use Rattle.of_eval_laws.specs.Placed.{StatesStayPlaced}
use Rattle.of_eval_laws.specs.Readings.{HasItsImages, ImagesAreReadings, is_image}
use Rattle.of_eval_laws.specs.Returning.{LeadsOn, StackLeadsBack, is_back, is_code}
use Rattle.of_eval_laws.specs.Running.{ImagesRun}
use Rattle.of_eval_laws.specs.Sound.{SpaceStaysSound}
use Rattle.of_eval_laws.specs.Structured.{structured_calls}
use Rattle.of_eval_laws.specs.Tokens.{TokensAreTyped}
use Rattle.of_means.specs.Moments.{Moment, made, step_by, with_state}
use Rattle.of_means.specs.Courses.{Course, On, Thrown, Waits, Cut}
use Rattle.of_means.specs.Means.{after_step, at, at_place, comes_back, over, token_at}
use Rattle.of_means.specs.Sources.{AtSource, IsWord}
use Rattle.of_means.specs.Kept.{IsKept}
use Rattle.of_means.specs.Laws.{IsAt, WordsComeBack}
use Rattle.of_means.proofs.Runs.{token_found}
use Rattle.of_means.proofs.Keeping.{IsLeft, IsStep, image_count, kept_on, made_leaves, stays_kept, step_leaves}
use Rattle.of_means.proofs.Leading.{reads_image, source_back}
use Rattle.of_means.proofs.Started.{starts}

on_is : {S : Type 0} (m u : Moment S) → On m ≡ On u → m ≡ u
on_is m u e = cc

not_thrown : {S : Type 0} (m u : Moment S) → Thrown m ≡ On u → ⊥
not_thrown m u e = cc

not_waiting : {S : Type 0} (m u : Moment S) → Waits m ≡ On u → ⊥
not_waiting m u e = cc

not_cut : {S : Type 0} (m u : Moment S) → Cut m ≡ On u → ⊥
not_cut m u e = cc

-- nothing else is asked of the source where a token begins
abbrev Free : {S : Type 0} → State S → Type 0
Free s = Unit {0}

free_source : {S : Type 0} (image loops : List ℕ) (Keeps : State S → Type 0) (s : State S)
    → AtSource image loops Keeps false s
    → AtSource image loops Free false s
free_source image loops Keeps s h = record {
  running = h.running;
  next = h.next;
  compiles = h.compiles;
  defines = h.defines;
  opened = h.opened;
  level = h.level;
  among = h.among;
  bytes = h.bytes;
  kept = λ p. tt;
}

free_answered : {S : Type 0} (image loops : List ℕ) (Keeps : State S → Type 0) (a : Answer) (s : State S)
    → AtSource image loops Keeps false s → AtSource image loops Free false (replied a s)
free_answered image loops Keeps a s h = record {
  running = h.running;
  next = h.next;
  compiles = h.compiles;
  defines = h.defines;
  opened = h.opened;
  level = h.level;
  among = h.among;
  bytes = h.bytes;
  kept = λ p. tt;
}

module _ (typing : TokensAreTyped) (back : StackLeadsBack Definitions) (placing : StatesStayPlaced)
    (sounding : SpaceStaysSound Definitions) (reading : ImagesAreReadings Definitions) (runs : ImagesRun Definitions)
    (image loops : List ℕ) where
  abbrev c : Calls Definitions
  c = structured_calls

  -- a step leads back
  leads_on : (outer : Reading) (s t : State Definitions) → IsLeft c s t → s.flow.is_running ≡ true
      → is_back s ≡ false → LeadsOn image loops outer s → t.flow.is_running ≡ true → LeadsOn image loops outer t
  leads_on outer s t (inl e) r away h running =
      subst (λ x. LeadsOn image loops outer x) (sym e)
      (back.step image loops outer c s r away h (ap (λ (x : State Definitions). x.flow.is_running) (sym e) ∙ running))
  leads_on outer s t (inr (a, e)) r away h running =
      subst (λ x. LeadsOn image loops outer x) (sym e)
      (back.step image loops outer c (replied a s) r away h
      (ap (λ (x : State Definitions). x.flow.is_running) (sym e) ∙ running))

  -- so does the step of a word's token
  starts_on : (t : Token) (p q : Place) (s u : State Definitions) → IsWord t
      → AtSource image loops (IsKept image) false s → IsStep c (token_at c t p q) s u → u.flow.is_running ≡ true
      → LeadsOn image loops (at_place q s).flow.reading u
  starts_on t p q s u is h (inl e) running =
      let o = token_at c t p q s in
      let leads = starts c image loops Free typing back t p q s (free_source image loops (IsKept image) s h) is in
      subst (λ x. LeadsOn image loops (at_place q s).flow.reading x) (sym e)
      (back.settled image loops (at_place q s).flow.reading c (thrown_in o.ended) o.state leads
      (ap (λ (x : State Definitions). x.flow.is_running) (sym e) ∙ running))
  starts_on t p q s u is h (inr (a, e)) running =
      let o = token_at c t p q (replied a s) in
      let leads = starts c image loops Free typing back t p q (replied a s)
      (free_answered image loops (IsKept image) a s h) is in
      subst (λ x. LeadsOn image loops (at_place q s).flow.reading x) (sym e)
      (back.settled image loops (at_place q s).flow.reading c (thrown_in o.ended) o.state leads
      (ap (λ (x : State Definitions). x.flow.is_running) (sym e) ∙ running))

  -- images stand while it leads back
  images_stand : (outer : Reading) (s : State Definitions) → is_image outer.input ≡ true → LeadsOn image loops outer s
      → HasItsImages s → length s.board.memory.images ≡ 0 → ⊥
  images_stand outer s o h k e =
      reads_image image loops outer s.flow.reading (is_code s.flow.next) None s.flow.items o h.0.1 (sym k.as_many ∙ e)

  module _ (q : Place) (outer : Reading) (i : outer.input ≡ input.Image q.size q.position) (o : outer.opened ≡ None)
      (u : Moment Definitions) where
    abbrev Home : Type 0
    Home = IsAt c image loops (IsKept image) u × (at q u ≡ u)

    home : (m : Moment Definitions) → On m ≡ On u → m.state.flow.is_running ≡ true → is_back m.state ≡ true
        → LeadsOn image loops outer m.state → IsKept image m.state → Home
    home m e r b h k =
        let stays = stays_kept placing sounding reading runs image in
        let there = source_back image loops (IsKept image) q outer m.state i o r b h k.placed.compiles k.images k.first
        (λ f p. stays.place q p m.state (subst (λ x. IsKept image x) (sym f) k)) in
        subst (λ (x : Moment Definitions). IsAt c image loops (IsKept image) x × (at q x ≡ x)) (on_is m u e)
        (there.0, ap (λ (x : State Definitions). with_state x m) there.1)

    come_on : (n : ℕ) (m : Moment Definitions) (r b : Bool) (f : Course Definitions) → m.state.flow.is_running ≡ r
        → is_back m.state ≡ b → over r b m f ≡ On u
        → (m.state.flow.is_running ≡ true → LeadsOn image loops outer m.state × IsKept image m.state)
        → (m.state.flow.is_running ≡ true → is_back m.state ≡ false → f ≡ On u → Home) → Home
    come_on n m false b f er eb e h go = absurd (not_thrown m u e)
    come_on n m true true f er eb e h go = home m e er eb (h er).0 (h er).1
    come_on n m true false f er eb e h go = go er eb e

    pub comes : (n : ℕ) (m : Moment Definitions)
        → (m.state.flow.is_running ≡ true → LeadsOn image loops outer m.state × IsKept image m.state)
        → comes_back c n m ≡ On u → Home
    comes zero m h e =
        come_on zero m m.state.flow.is_running (is_back m.state) (Cut m) refl refl e h
        (λ r b f. absurd (not_cut m u f))
    comes (suc n) m h e =
        come_on (suc n) m m.state.flow.is_running (is_back m.state)
        (after_step (made c m) m (λ t. comes_back c n t)) refl
        refl e h (λ r b f. next (made c m) refl f r b (λ t. comes n t))
      where
        next : (x : Option (Moment Definitions)) → made c m ≡ x → after_step x m (λ t. comes_back c n t) ≡ On u
            → m.state.flow.is_running ≡ true → is_back m.state ≡ false
            → ((t : Moment Definitions)
            → (t.state.flow.is_running ≡ true → LeadsOn image loops outer t.state × IsKept image t.state)
            → comes_back c n t ≡ On u → Home) → Home
        next None g f r b more = absurd (not_waiting m u f)
        next (Some t) g f r b more =
            let left = (made_leaves c m t g).1 in
            more t
            (λ r'.
            let leads = leads_on outer m.state t.state left r b (h r).0 r' in
            let counted = image_count placing sounding reading runs image m.state t.state left (h r).1 in (
              leads,
              kept_on placing sounding reading runs image m.state t.state left (h r).1
                  (images_stand outer t.state (ap is_image i) leads counted),
            ))
            f

  word_comes : (n : ℕ) (t : Token) (p : Place) (m u : Moment Definitions) → IsWord t
      → IsAt c image loops (IsKept image) m → token_from image p.position p.size ≡ Some (t, (behind t p).position)
      → (x : Option (Moment Definitions)) → step_by c (token_at c t p (behind t p)) m ≡ x
      → after_step x (at p m) (λ v. comes_back c n v) ≡ On u
      → IsAt c image loops (IsKept image) u × (at (behind t p) u ≡ u)
  word_comes n t p m u is h found None g e = absurd (not_waiting (at p m) u e)
  word_comes n t p m u is h found (Some v) g e =
      let q = behind t p in
      let outer = (at_place q m.state).flow.reading in
      let step : made c (at p m) ≡ Some v = token_found c image loops (IsKept image) false p q t m h found refl ∙ g in
      let left = (made_leaves c (at p m) v step).1 in
      let before = h.kept p in
      comes q outer refl h.opened u n v
      (λ r.
      let leads = starts_on t p q m.state v.state is h (step_leaves c (token_at c t p q) m v g) r in
      let counted = image_count placing sounding reading runs image (at p m).state v.state left before in (
        leads,
        kept_on placing sounding reading runs image (at p m).state v.state left before
            (images_stand outer v.state refl leads counted),
      ))
      e

  pub words_come_back : WordsComeBack c image loops (IsKept image)
  words_come_back n t p m u is h found e =
      word_comes n t p m u is h found (step_by c (token_at c t p (behind t p)) m) refl e
