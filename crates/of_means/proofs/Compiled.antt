-- The tokens of a definition are compiled one after another.
use Rattle.std.proofs.Common.{◌≡◌, inl, inr, ℕ, Bool, true, false, List, [], ◌∷◌, ◌++◌}
use Rattle.std.proofs.Common.{Some, refl, sym, ap, ◌∙◌, is_some}
use Rattle.of_fcodes.specs.declared.words.StreamWord.TheVariants as stream
use Rattle.of_fcodes.specs.declared.words.Word.TheVariants as word
use Rattle.of_fcodes.specs.Lookup.{word_numbered}
use Rattle.of_meaning.specs.Pairs.{offset16_code}
use Rattle.std.proofs.Common.{nat_eq, eqb-true, None, Ok}
use Rattle.std.proofs.lemmas.Bool.{eq-eqb}
use Rattle.of_stream.specs.Decoding.{Token, token_from}
use Rattle.of_control.specs.Element.{Element}
use Rattle.of_compile.specs.declared.element.PlainItem.{PlainItem}
use Rattle.of_compile.specs.declared.element.PlainItem.TheVariants as plain
use Rattle.of_compile.specs.Structured.{Definitions}
use Rattle.of_flow.specs.declared.control_state.Flow.{Flow}
use Rattle.of_flow.specs.Tokens.{typed_of}
use Rattle.of_tok.specs.declared.place.Place.{Place}
use Rattle.of_tok.specs.Laws.{HasTokens}
use Rattle.of_tok.specs.Places.{behind}
use Rattle.of_tok.specs.Tokens.{Written, token_of}
use Rattle.of_state.specs.State.{Calls, Outcome, State}
use Rattle.of_steps.specs.Steps.{settled_of}
use Rattle.of_eval_laws.specs.Placed.{StatesStayPlaced}
use Rattle.of_eval_laws.specs.Readings.{ImagesAreReadings}
use Rattle.of_eval_laws.specs.Running.{ImagesRun}
use Rattle.of_eval_laws.specs.Sound.{SpaceStaysSound}
use Rattle.of_eval_laws.specs.Structured.{structured_calls}
use Rattle.of_eval_laws.specs.Throws.{ThrowsSettle}
use Rattle.of_eval_laws.specs.Tokens.{TokensAreTyped}
use Rattle.of_meaning.specs.Elements.{control_element, elements_left, left_behind}
use Rattle.of_means.specs.Moments.{Moment, made, with_state}
use Rattle.of_means.specs.Courses.{Course, On, Off, Out, Left, Thrown, Waits, Cut, Beyond, through}
use Rattle.of_means.specs.Means.{at, at_place, compiled, is_executed, left_by, token_at, token_compiled, unless_thrown}
use Rattle.of_means.specs.Kept.{IsKept}
use Rattle.of_means.specs.Sources.{AtSource}
use Rattle.of_means.proofs.Steps.{Comes, one_step, plain_step, stays, then_comes}
use Rattle.of_means.proofs.Runs.{token_found}
use Rattle.of_means.proofs.Inner.{AreInner, IsInner}
use Rattle.of_means.proofs.Listing.{all_behind}
use Rattle.of_means.proofs.Elements.{control_left, first_left, plain_left, wide_bare, wide_left, with_first}
use Rattle.of_means.proofs.Compiling.{Adds, IsItem, control_adds, plain_adds, wide_keeps}
use Rattle.of_means.proofs.Standing.{StaysBehind, stands_on}

module _ (typing : TokensAreTyped) (wider : word_numbered offset16_code ≡ Some (word.Stream stream.Offset16))
    (settles : ThrowsSettle Definitions) (placing : StatesStayPlaced)
    (sounding : SpaceStaysSound Definitions) (reading : ImagesAreReadings Definitions) (runs : ImagesRun Definitions)
    (image loops : List ℕ) where
  abbrev c : Calls Definitions
  c = structured_calls

  abbrev pub Open : Moment Definitions → Type 0
  Open m = AtSource image loops (IsKept image) true m.state

  abbrev elements_of : Moment Definitions → List (Element PlainItem)
  elements_of m = m.state.code.elements

  -- a token is read, and leaves its element
  abbrev One : Token → Place → Moment Definitions → Course Definitions → Type 0
  One t p m (On u) =
      Open u × Comes c (at p m) (at (behind t p) u)
      × ((x : PlainItem)
      × (elements_of u ≡ left_behind (control_element t p.position) (λ t q. x) t p (elements_of m)))
  One t p m (Thrown u) = (u.state.flow.is_running ≡ false) × Comes c (at p m) u
  One t p m Beyond = Unit {0}
  One t p m (Off b u) = ⊥
  One t p m (Out u) = ⊥
  One t p m (Left e u) = ⊥
  One t p m (Waits u) = ⊥
  One t p m (Cut u) = ⊥

  adds_behind : (P : Element PlainItem → Type 0) (q : Place) (s : State Definitions) (o : Outcome Definitions)
      → AtSource image loops (IsKept image) true s → Adds P (at_place q s) o → StaysBehind q s true o.state
  adds_behind P q s o h a = record {
    items = ap (λ (f : Flow). f.items) a.0;
    reading = ap (λ (f : Flow). f.reading) a.0;
    next = ap (λ (f : Flow). f.next) a.0;
    running = ap (λ (f : Flow). f.is_running) a.0;
    compiles = ap (λ (f : Flow). f.is_compiling) a.0 ∙ h.compiles;
    defines = ap is_some a.1 ∙ h.defines;
  }

  one_left : (t : Token) (p : Place) (m : Moment Definitions) → Open m
      → token_from image p.position p.size ≡ Some (t, (behind t p).position)
      → let o = token_at c t p (behind t p) m.state in
      StaysBehind (behind t p) m.state true o.state → o.asks ≡ None
      → (o.ended ≡ Ok tt
      → (x : PlainItem) × (o.state.code.elements
      ≡ left_behind (control_element t p.position) (λ t q. x) t p (elements_of m)))
      → One t p m (left_by c o m)
  one_left t p m h found stays asks more = by_running v.state.flow.is_running refl
    where
      q : Place
      q = behind t p

      o : Outcome Definitions
      o = token_at c t p q m.state

      v : Moment Definitions
      v = with_state (settled_of c o) m

      step : made c (at p m) ≡ Some v
      step =
          token_found c image loops (IsKept image) true p q t m h found refl
          ∙ plain_step c (token_at c t p q) m o refl asks

      by_running : (b : Bool) → v.state.flow.is_running ≡ b → One t p m (unless_thrown b v)
      by_running false r = (r, one_step c (at p m) v step)
      by_running true r =
          let k = stands_on settles placing sounding reading runs image loops true true p q m v o h step refl stays r
          in
          let l = more k.0 in (
            k.2,
            one_step c (at p m) (at q v) (step ∙ ap (λ (y : Moment Definitions). Some y) (sym k.3)),
            (l.0, ap (λ (y : State Definitions). y.code.elements) k.1 ∙ l.1),
          )

  one_added : (P : Element PlainItem → Type 0) (t : Token) (p : Place) (m : Moment Definitions) → Open m
      → token_from image p.position p.size ≡ Some (t, (behind t p).position)
      → Adds P (at_place (behind t p) m.state) (token_at c t p (behind t p) m.state)
      → ((e : Element PlainItem) → P e
      → (x : PlainItem) × (e ∷ elements_of m
      ≡ left_behind (control_element t p.position) (λ t q. x) t p (elements_of m)))
      → One t p m (left_by c (token_at c t p (behind t p) m.state) m)
  one_added P t p m h found a back =
      one_left t p m h found (adds_behind P (behind t p) m.state _ h a) a.2
      (λ ok. let e = a.3 ok in let l = back e.0 e.1 in (l.0, e.2 ∙ l.1))

  one_token : (t : Token) (p : Place) (m : Moment Definitions) (b : Bool)
      → is_executed (typed_of t) m.state.words.table ≡ b → Open m → IsInner t
      → token_from image p.position p.size ≡ Some (t, (behind t p).position) → One t p m (token_compiled c b t p m)
  one_token t p m true i h inner found = tt
  one_token t p m false i h (inl is) found = by_size (nat_eq t.code.0 0x0cc) refl
    where
      no : false ≡ true → ⊥
      no e = cc

      item : PlainItem
      item = plain.Literal (record { 0 = 0 })

      by_size : (b : Bool) → nat_eq t.code.0 0x0cc ≡ b → One t p m (left_by c (token_at c t p (behind t p) m.state) m)
      by_size false e =
          let steady = λ (f : t.code.0 ≡ 0x0cc). no (sym e ∙ eq-eqb t.code.0 0x0cc f) in
          one_added IsItem t p m h found
          (plain_adds image loops (IsKept image) typing t.argument t.code p (behind t p) m.state h is steady i)
          (λ x k. (
            k.0,
            ap (λ (y : Element PlainItem). y ∷ elements_of m) k.1
                ∙ sym (plain_left (λ u q. k.0) t p (elements_of m) is steady),
          ))
      by_size true e =
          let k = eqb-true t.code.0 0x0cc e in
          let none = wide_bare t is k in
          let a = wide_keeps image loops (IsKept image) typing t p (behind t p) m.state h k none in
          one_left t p m h found
          (record {
            items = ap (λ (f : Flow). f.items) a.0;
            reading = ap (λ (f : Flow). f.reading) a.0;
            next = ap (λ (f : Flow). f.next) a.0;
            running = ap (λ (f : Flow). f.is_running) a.0;
            compiles = ap (λ (f : Flow). f.is_compiling) a.0 ∙ h.compiles;
            defines = ap is_some a.1 ∙ h.defines;
          })
          a.2
          (λ ok. (
            item,
            ap (λ (y : Definitions). y.elements) a.3
                ∙ sym (wide_left (λ u q. item) t p (elements_of m) wider k none).1,
          ))
  one_token t p m false i h (inr k) found =
      one_added (λ e. e ≡ k.left p.position) t p m h found
      (control_adds image loops (IsKept image) typing t k p (behind t p) m.state h)
      (λ e f.
      let none : PlainItem = plain.Literal (record { 0 = 0 }) in (
        none,
        ap (λ (y : Element PlainItem). y ∷ elements_of m) f
            ∙ sym (control_left (λ u q. none) t p (k.left p.position) (elements_of m) (k.listed p.position)),
      ))

  -- tokens are read, one after another
  abbrev pub Compiles : List Written → Place → Moment Definitions → Course Definitions → Type 0
  Compiles ws p m (On u) =
      Open u × Comes c (at p m) (at (all_behind ws p) u)
      × ((f : Token → Place → PlainItem) × (elements_of u ≡ elements_left f ws p (elements_of m)))
  Compiles ws p m (Thrown u) = (u.state.flow.is_running ≡ false) × Comes c (at p m) u
  Compiles ws p m Beyond = Unit {0}
  Compiles ws p m (Off b u) = ⊥
  Compiles ws p m (Out u) = ⊥
  Compiles ws p m (Left e u) = ⊥
  Compiles ws p m (Waits u) = ⊥
  Compiles ws p m (Cut u) = ⊥

  then_compiles : (w : Written) (ws : List Written) (p : Place) (m u : Moment Definitions) (f : Course Definitions)
      → One (token_of w) p m (On u) → Compiles ws (behind (token_of w) p) u f → Compiles (w ∷ ws) p m f
  then_compiles w ws p m u (On v) l r =
      let q = behind (token_of w) p in (
        r.0,
        then_comes c (at p m) (at q u) _ l.1 r.1,
        (
          with_first p.position l.2.0 r.2.0,
          r.2.1 ∙ ap (λ (y : List (Element PlainItem)). elements_left r.2.0 ws q y) l.2.1
              ∙ sym (first_left l.2.0 r.2.0 w ws p (elements_of m)),
        ),
      )
  then_compiles w ws p m u (Thrown v) l r = (r.0, then_comes c (at p m) (at (behind (token_of w) p) u) v l.1 r.1)
  then_compiles w ws p m u Beyond l r = r
  then_compiles w ws p m u (Off b v) l r = r
  then_compiles w ws p m u (Out v) l r = r
  then_compiles w ws p m u (Left e v) l r = r
  then_compiles w ws p m u (Waits v) l r = r
  then_compiles w ws p m u (Cut v) l r = r

  through_compiles : (w : Written) (ws : List Written) (p : Place) (m : Moment Definitions) (f : Course Definitions)
      (g : Moment Definitions → Course Definitions) → One (token_of w) p m f
      → ((u : Moment Definitions) → Open u → Compiles ws (behind (token_of w) p) u (g u))
      → Compiles (w ∷ ws) p m (through f g)
  through_compiles w ws p m (On u) g l h = then_compiles w ws p m u (g u) l (h u l.0)
  through_compiles w ws p m (Thrown u) g l h = l
  through_compiles w ws p m Beyond g l h = l
  through_compiles w ws p m (Off b u) g l h = absurd l
  through_compiles w ws p m (Out u) g l h = absurd l
  through_compiles w ws p m (Left e u) g l h = absurd l
  through_compiles w ws p m (Waits u) g l h = absurd l
  through_compiles w ws p m (Cut u) g l h = absurd l

  pub all_compiled : (vs ws : List Written) (p : Place) (m : Moment Definitions) → AreInner vs
      → HasTokens image p (vs ++ ws) → Open m → Compiles vs p m (compiled c vs p m)
  all_compiled [] ws p m i has h = (h, stays c (at p m), ((λ t q. plain.Literal (record { 0 = 0 })), refl))
  all_compiled (w ∷ vs) ws p m i has h =
      let t = token_of w in
      let b = is_executed (typed_of t) m.state.words.table in
      through_compiles w vs p m (token_compiled c b t p m) (λ u. compiled c vs (behind t p) u)
      (one_token t p m b refl h i.0 has.1)
      (λ u h'. all_compiled vs ws (behind t p) u i.1 has.3 h')
