-- The tokens of a definition are read up to its end, and its word gets the body of its nest.
use Rattle.std.proofs.Common.{◌≡◌, ℕ, Bool, true, false, List, [], ◌∷◌, ◌++◌, Some, None, refl, sym, ap, ◌∙◌}
use Rattle.std.proofs.Common.{subst}
use Rattle.of_stream.specs.Bytes.{token_bytes}
use Rattle.of_stream.specs.Decoding.{Argument, Nothing, Token, token_from}
use Rattle.of_control.specs.Element.{Element}
use Rattle.of_control.specs.Reading.{body_in}
use Rattle.of_compile.specs.declared.element.PlainItem.{PlainItem}
use Rattle.of_compile.specs.Structured.{Definitions}
use Rattle.of_source.specs.Items.{bare}
use Rattle.of_source.specs.Nest.{Nest, Stop, Plain, Definition, Defining, If, Else, Then, Begin, Do, Leave, Case, Of}
use Rattle.of_tok.specs.declared.place.Place.{Place}
use Rattle.of_tok.specs.Laws.{HasTokens, NestsEndAtTheirPlaces}
use Rattle.of_tok.specs.Places.{past}
use Rattle.of_tok.specs.Tokens.{Written, end_of, straight, written}
use Rattle.of_eval.specs.Defining.{semicolon_entry}
use Rattle.of_state.specs.State.{Calls, Outcome, State}
use Rattle.of_steps.specs.Steps.{settled_of}
use Rattle.of_eval_laws.specs.Placed.{StatesStayPlaced}
use Rattle.of_eval_laws.specs.Readings.{ImagesAreReadings}
use Rattle.of_eval_laws.specs.Running.{ImagesRun}
use Rattle.of_eval_laws.specs.Sound.{SpaceStaysSound}
use Rattle.of_eval_laws.specs.Structured.{structured_calls}
use Rattle.of_eval_laws.specs.Throws.{ThrowsSettle}
use Rattle.of_eval_laws.specs.Tokens.{TokensAreTyped}
use Rattle.of_meaning.specs.Elements.{ArePlain, control_element, element_by, elements_left}
use Rattle.of_fcodes.specs.declared.words.StreamWord.TheVariants as stream
use Rattle.of_fcodes.specs.declared.words.Word.{Word}
use Rattle.of_fcodes.specs.declared.words.Word.TheVariants as word
use Rattle.of_fcodes.specs.Lookup.{word_numbered}
use Rattle.of_source.specs.Plain.{IsPlain}
use Rattle.std.proofs.lemmas.Bool.{eq-eqb}
use Rattle.std.proofs.Common.{nat_eq, eqb-true, Option, Some, None}
use Rattle.of_meaning.specs.Laws.{BodyOfNest, in_definition}
use Rattle.of_meaning.specs.Pairs.{nest_body, offset16_code}
use Rattle.of_means.specs.Moments.{Moment, made, with_state}
use Rattle.of_means.specs.Courses.{Course, On, Off, Out, Left, Thrown, Waits, Cut, Beyond, through}
use Rattle.of_means.specs.Means.{at, at_place, compiled, defined, left_by, token_at, unless_thrown}
use Rattle.of_means.specs.Nested.{nest_calls}
use Rattle.of_means.specs.Kept.{IsKept}
use Rattle.of_means.specs.Sources.{AtSource, HasWords}
use Rattle.of_means.specs.Laws.{DefinitionsAreRead, IsAt, IsRead}
use Rattle.of_means.proofs.Steps.{Comes, one_step, plain_step, then_comes}
use Rattle.of_means.proofs.Runs.{token_found}
use Rattle.of_means.proofs.Alone.{alone}
use Rattle.of_means.proofs.Listing.{all_behind, before, ends_at}
use Rattle.of_means.proofs.Leading.{none_open}
use Rattle.of_means.proofs.Inner.{inner_all}
use Rattle.of_means.proofs.Elements.{plain_none, wide_bare}
use Rattle.of_means.proofs.Standing.{StaysBehind, stands_on}
use Rattle.of_means.proofs.Compiled.{Compiles, all_compiled}
use Rattle.of_means.proofs.Opening.{colon_turns, same_end, semicolon_at, semicolon_turns}

-- the plain words of a nest are plain there, too
word_none : word_numbered offset16_code ≡ Some (word.Stream stream.Offset16) → (t : Token) (position : ℕ) → IsPlain t
    → (b : Bool) → nat_eq t.code.0 0x0cc ≡ b → control_element t position ≡ None
word_none wider t position h true e =
    let k = eqb-true t.code.0 0x0cc e in
    ap (λ (x : Argument). element_by x (word_numbered t.code.0) position) (wide_bare t h k)
    ∙ ap (λ (n : ℕ). element_by Nothing (word_numbered n) position) k
    ∙ ap (λ (w : Option Word). element_by Nothing w position) wider
word_none wider t position h false e = plain_none t position h (λ f. no (sym e ∙ eq-eqb t.code.0 0x0cc f))
  where
    no : false ≡ true → ⊥
    no g = cc

words_plain : word_numbered offset16_code ≡ Some (word.Stream stream.Offset16) → (x : Nest) → HasWords x → ArePlain x
words_plain wider Stop h = tt
words_plain wider (Plain t r) h =
    ((λ n. word_none wider t n h.0 (nat_eq t.code.0 0x0cc) refl), words_plain wider r h.1)
words_plain wider (Definition m i r) h = (words_plain wider i h.0, words_plain wider r h.1)
words_plain wider (Defining m t r) h = words_plain wider r h.1
words_plain wider (If l r) h = words_plain wider r h
words_plain wider (Else l r) h = words_plain wider r h
words_plain wider (Then r) h = words_plain wider r h
words_plain wider (Begin i z l r) h = (words_plain wider i h.0, words_plain wider r h.1)
words_plain wider (Do v k i l m r) h = (words_plain wider i h.0, words_plain wider r h.1)
words_plain wider (Leave r) h = words_plain wider r h
words_plain wider (Case i r) h = (words_plain wider i h.0, words_plain wider r h.1)
words_plain wider (Of k i m r) h = (words_plain wider i h.0, words_plain wider r h.1)

module _ (typing : TokensAreTyped) (settles : ThrowsSettle Definitions) (placing : StatesStayPlaced)
    (sounding : SpaceStaysSound Definitions) (reading : ImagesAreReadings Definitions) (runs : ImagesRun Definitions)
    (ends : NestsEndAtTheirPlaces) (bodies : BodyOfNest) (image loops : List ℕ) where
  abbrev c : Calls Definitions
  c = structured_calls

  -- what is read from a moment on
  abbrev ReadFrom : Moment Definitions → Place → Course Definitions → Type 0
  ReadFrom x q (On t) = IsAt c image loops (IsKept image) t × Comes c x (at q t)
  ReadFrom x q (Thrown t) = (t.state.flow.is_running ≡ false) × Comes c x t
  ReadFrom x q Beyond = Unit {0}
  ReadFrom x q (Off b t) = ⊥
  ReadFrom x q (Out t) = ⊥
  ReadFrom x q (Left e t) = ⊥
  ReadFrom x q (Waits t) = ⊥
  ReadFrom x q (Cut t) = ⊥

  is_read : (p q : Place) (m : Moment Definitions) (f : Course Definitions) → ReadFrom (at p m) q f
      → IsRead c image loops (IsKept image) p q m f
  is_read p q m (On t) r = r
  is_read p q m (Thrown t) r = r
  is_read p q m Beyond r = r
  is_read p q m (Off b t) r = r
  is_read p q m (Out t) r = r
  is_read p q m (Left e t) r = r
  is_read p q m (Waits t) r = r
  is_read p q m (Cut t) r = r

  then_read : (x y : Moment Definitions) (q : Place) (f : Course Definitions) → Comes c x y → ReadFrom y q f
      → ReadFrom x q f
  then_read x y q (On t) l r = (r.0, then_comes c x y (at q t) l r.1)
  then_read x y q (Thrown t) l r = (r.0, then_comes c x y t l r.1)
  then_read x y q Beyond l r = r
  then_read x y q (Off b t) l r = r
  then_read x y q (Out t) l r = r
  then_read x y q (Left e t) l r = r
  then_read x y q (Waits t) l r = r
  then_read x y q (Cut t) l r = r

  abbrev Compiled : List Written → Place → Moment Definitions → Course Definitions → Type 0
  Compiled ws p m f = Compiles typing bodies.wider settles placing sounding reading runs image loops ws p m f

  through_read : (ws : List Written) (b q : Place) (v : Moment Definitions) (f : Course Definitions)
      (g : Moment Definitions → Course Definitions) → Compiled ws b v f
      → ((u : Moment Definitions) → Compiled ws b v (On u) → ReadFrom (at (all_behind ws b) u) q (g u))
      → ReadFrom (at b v) q (through f g)
  through_read ws b q v (On u) g r h = then_read (at b v) (at (all_behind ws b) u) q (g u) r.1 (h u r)
  through_read ws b q v (Thrown u) g r h = r
  through_read ws b q v Beyond g r h = r
  through_read ws b q v (Off x u) g r h = absurd r
  through_read ws b q v (Out u) g r h = absurd r
  through_read ws b q v (Left e u) g r h = absurd r
  through_read ws b q v (Waits u) g r h = absurd r
  through_read ws b q v (Cut u) g r h = absurd r

  -- ---- `b(;)`

  closes : (i : Nest) (e q : Place) (u : Moment Definitions) → AtSource image loops (IsKept image) true u.state
      → token_from image e.position e.size ≡ Some (bare 0x0c2, q.position) → q.size ≡ e.size
      → body_in 32 u.state.code.elements ≡ nest_body i u.state.code.elements
      → ReadFrom (at e u) q
      (left_by c (semicolon_entry (nest_calls i) u.state.words.defining (at_place q u.state)) u)
  closes i e q u h found size body =
      subst (λ (o : Outcome Definitions). ReadFrom (at e u) q (left_by c o u))
      (same_end image loops (IsKept image) settles typing i u.state.words.defining (at_place q u.state) body)
      (by_running v.state.flow.is_running refl)
    where
      o : Outcome Definitions
      o = semicolon_entry c u.state.words.defining (at_place q u.state)

      v : Moment Definitions
      v = with_state (settled_of c o) u

      turns : (o.asks ≡ None) × ((settled_of c o).flow.is_running ≡ true → StaysBehind q u.state false o.state)
      turns = semicolon_turns image loops (IsKept image) settles typing q u.state h

      step : made c (at e u) ≡ Some v
      step =
          token_found c image loops (IsKept image) true e q (bare 0x0c2) u h found size
          ∙ plain_step c (token_at c (bare 0x0c2) e q) u o
          (semicolon_at image loops (IsKept image) settles typing e q u.state h) turns.0

      by_running : (b : Bool) → v.state.flow.is_running ≡ b → ReadFrom (at e u) q (unless_thrown b v)
      by_running false r = (r, one_step c (at e u) v step)
      by_running true r =
          let k = stands_on settles placing sounding reading runs image loops true false e q u v o h step refl
          (turns.1 r) r in
          (k.2, one_step c (at e u) (at q v) (step ∙ ap (λ (y : Moment Definitions). Some y) (sym k.3)))

  -- ---- from `b(:)` on

  opens : (p b q : Place) (m : Moment Definitions) (g : Moment Definitions → Course Definitions)
      → IsAt c image loops (IsKept image) m → token_from image p.position p.size ≡ Some (bare 0x0b7, b.position)
      → b.size ≡ p.size
      → ((v : Moment Definitions) → AtSource image loops (IsKept image) true v.state → v.state.code.elements ≡ []
      → ReadFrom (at b v) q (g v))
      → ReadFrom (at p m) q (through (left_by c (token_at c (bare 0x0b7) p b m.state) m) g)
  opens p b q m g h found size more = by_running v.state.flow.is_running refl
    where
      o : Outcome Definitions
      o = token_at c (bare 0x0b7) p b m.state

      v : Moment Definitions
      v = with_state (settled_of c o) m

      turns : ((o.asks ≡ None) × ((settled_of c o).flow.is_running ≡ true → StaysBehind b m.state true o.state))
          × (o.state.code ≡ m.state.code)
      turns = colon_turns image loops (IsKept image) settles typing p b m.state h

      step : made c (at p m) ≡ Some v
      step =
          token_found c image loops (IsKept image) false p b (bare 0x0b7) m h found size
          ∙ plain_step c (token_at c (bare 0x0b7) p b) m o refl turns.0.0

      by_running : (x : Bool) → v.state.flow.is_running ≡ x → ReadFrom (at p m) q (through (unless_thrown x v) g)
      by_running false r = (r, one_step c (at p m) v step)
      by_running true r =
          let k = stands_on settles placing sounding reading runs image loops false true p b m v o h step refl
          (turns.0.1 r) r in
          let empty : m.state.code.elements
          ≡ [] = (h.kept p).placed.closed (none_open m.state.words.defining h.defines) in
          let elements : v.state.code.elements ≡ [] =
          ap (λ (y : State Definitions). y.code.elements) k.1 ∙ ap (λ (y : Definitions). y.elements) turns.1 ∙ empty in
          then_read (at p m) (at b v) q (g v)
          (one_step c (at p m) (at b v) (step ∙ ap (λ (y : Moment Definitions). Some y) (sym k.3)))
          (more v k.2 elements)

  pub definitions_are_read : DefinitionsAreRead c image loops (IsKept image) nest_calls
  unfolding token_bytes
  definitions_are_read i d p to out ws m words fits closed has h =
      let b = past 1 p in
      let e = end_of i b in
      let q = past 1 e in
      let vs = written i b [] 0 [] in
      let more = straight 0x0c2 e ∷ ws in
      let stand : HasTokens image b (vs ++ more) =
      subst (λ y. HasTokens image b y) (alone i d b to out more fits closed ∙ before i b [] 0 [] more) has.3 in
      let last : all_behind vs b ≡ e = ends_at i b [] 0 [] in
      let end = ends image i b to out more has.3 in
      let inner = inner_all typing i in_definition d d b [] 0 [] refl fits words tt in
      is_read p q m (defined c nest_calls i p m)
      (opens p b q m _ h has.1 refl
      (λ v opened none.
      through_read vs b q v (compiled c vs b v) _
      (all_compiled typing bodies.wider settles placing sounding reading runs image loops vs more b v inner stand
      opened)
      (λ u r.
      let es = elements_left r.2.0 vs b [] in
      let left : u.state.code.elements ≡ es =
      r.2.1 ∙ ap (λ (y : List (Element PlainItem)). elements_left r.2.0 vs b y) none in
      let body : body_in 32 u.state.code.elements ≡ nest_body i u.state.code.elements =
      subst (λ (y : List (Element PlainItem)). body_in 32 y ≡ nest_body i y) (sym left)
      (bodies.inside i d fits closed (words_plain bodies.wider i words) r.2.0 b [] 0) in
      subst (λ (y : Place). ReadFrom (at y u) q
      (left_by c (semicolon_entry (nest_calls i) u.state.words.defining (at_place q u.state)) u))
      (sym last) (closes i e q u r.0 end.1 refl body))))
