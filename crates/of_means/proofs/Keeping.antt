-- What is kept while a source runs over structured definitions stays so in a step.
use Rattle.std.proofs.Common.{◌≡◌, ◌⊎◌, inl, inr, ℕ, zero, suc, Bool, true, false, List, [], ◌∷◌, length}
use Rattle.std.proofs.Common.{drop, Option, Some, None, refl, sym, ap, ◌∙◌, subst, if◌then◌else◌}
use Rattle.of_asking.specs.declared.query.Answer.{Answer}
use Rattle.of_asking.specs.declared.query.Query.{Query}
use Rattle.of_stacks.specs.declared.return_item.Input.TheVariants as input
use Rattle.of_stacks.specs.declared.return_item.ReturnItem.{ReturnItem}
use Rattle.of_stacks.specs.declared.return_item.ReturnItem.TheVariants.{Return, Loop, User, Handler, Source, Caller}
use Rattle.of_stream.specs.declared.stream.OffsetSize.{OffsetSize}
use Rattle.of_memory.specs.DataSpace.{DataSpace}
use Rattle.of_compile.specs.Structured.{Definitions}
use Rattle.of_state.specs.State.{Calls, Outcome, State}
use Rattle.of_steps.specs.Steps.{due, replied, settled_of, stepped}
use Rattle.of_eval_laws.specs.Placed.{AllPlaced, StatesStayPlaced}
use Rattle.of_eval_laws.specs.Readings.{BeganInside, HasItsImages, ImagesAreReadings}
use Rattle.of_eval_laws.specs.Running.{GoOn, ImagesRun, RunningImage, SomeEnd, images_to, running}
use Rattle.of_eval_laws.specs.Sound.{HasSoundSpace, SpaceStaysSound}
use Rattle.of_eval_laws.specs.Structured.{structured_calls}
use Rattle.of_means.specs.Moments.{Moment, answered_step, asked_step, fitting, made, next_due, step_by}
use Rattle.of_means.specs.Kept.{BeganFirst, IsKept}
use Rattle.of_means.specs.Laws.{StaysKept}

-- ---- a step is one of the machine, or one with an answer

-- the state that a step leaves
abbrev pub IsLeft : {S : Type 0} → Calls S → State S → State S → Type 0
IsLeft c s t =
    (t ≡ stepped c s) ⊎ ((a : Answer) × (t ≡ record (stepped c (replied a s)) { reply = s.reply }))

some_is : {A : Type 0} (x y : A) → Some x ≡ Some y → x ≡ y
some_is x y e = cc

none_some : {A : Type 0} (x : A) → None ≡ Some x → ⊥
none_some x e = cc

false_true : false ≡ true → ⊥
false_true e = cc

-- and what a step leaves that does this
abbrev pub IsStep : {S : Type 0} → Calls S → (State S → Outcome S) → State S → State S → Type 0
IsStep c does s t =
    (t ≡ settled_of c (does s))
    ⊎ ((a : Answer) × (t ≡ record (settled_of c (does (replied a s))) { reply = s.reply }))

module _ {S : Type 0} (c : Calls S) where
  pub step_leaves : (does : State S → Outcome S) (m t : Moment S) → step_by c does m ≡ Some t
      → IsStep c does m.state t.state
  step_leaves does m t e = asked (does m.state).asks e
    where
      answered : (q : Query) (o : Option Answer) → answered_step c does q o m ≡ Some t
          → IsStep c does m.state t.state
      answered q None f = absurd (none_some t f)
      answered q (Some a) f = inr (a, sym (ap (λ (x : Moment S). x.state) (some_is _ t f)))

      asked : (o : Option Query) → asked_step c does o m ≡ Some t → IsStep c does m.state t.state
      asked None f = inl (sym (ap (λ (x : Moment S). x.state) (some_is _ t f)))
      asked (Some q) f = answered q (fitting q m.answers) f

  runs_on : (s : State S) → s.flow.is_running ≡ true → settled_of c (next_due c s) ≡ stepped c s
  unfolding stepped
  runs_on s e = sym (ap (λ (b : Bool). if b then settled_of c (due c s.flow.next s) else s) e)

  machine_step : (s t : State S) → s.flow.is_running ≡ true → IsStep c (next_due c) s t → IsLeft c s t
  machine_step s t r (inl e) = inl (e ∙ runs_on s r)
  machine_step s t r (inr (a, e)) =
      inr (a, e ∙ ap (λ (x : State S). record x { reply = s.reply }) (runs_on (replied a s) r))

  pub made_leaves : (m t : Moment S) → made c m ≡ Some t
      → (m.state.flow.is_running ≡ true) × IsLeft c m.state t.state
  made_leaves m t e = by_running m.state.flow.is_running refl
    where
      by_running : (b : Bool) → m.state.flow.is_running ≡ b
          → (m.state.flow.is_running ≡ true) × IsLeft c m.state t.state
      by_running false r =
          absurd (none_some t (sym (ap (λ (b : Bool). if b then step_by c (next_due c) m else None) r) ∙ e))
      by_running true r = (
        r,
        machine_step m.state t.state r
            (step_leaves (next_due c) m t
            (sym (ap (λ (b : Bool). if b then step_by c (next_due c) m else None) r) ∙ e)),
      )

-- ---- the images that run

-- of fewer images, the one that began first is the same
first_of_others : (image : List ℕ) (n : ℕ) (rs : List RunningImage) → BeganFirst image rs
    → (drop n rs ≡ [] → ⊥) → BeganFirst image (drop n rs)
first_of_others image zero rs h more = h
first_of_others image (suc n) [] h more = absurd h
first_of_others image (suc n) (r ∷ []) h more = absurd (more (none_left n))
  where
    none_left : (n : ℕ) → drop {A = RunningImage} n [] ≡ []
    none_left zero = refl
    none_left (suc n) = refl
first_of_others image (suc n) (r ∷ x ∷ rs) h more = first_of_others image n (x ∷ rs) h more

-- and of one more
first_of_more : (image : List ℕ) (r : RunningImage) (rs : List RunningImage) → BeganFirst image rs
    → BeganFirst image (r ∷ rs)
first_of_more image r [] h = absurd h
first_of_more image r (x ∷ rs) h = h

-- images stand where images run
none_run : (m : DataSpace) → running m ≡ [] → length m.images ≡ 0
none_run m e = none (m.images) e
  where
    not_none : (r : RunningImage) (rs : List RunningImage) → (r ∷ rs) ≡ [] → ⊥
    not_none r rs h = cc

    none : (ends : List ℕ) → images_to m ends ≡ [] → length ends ≡ 0
    none [] h = refl
    none (x ∷ xs) h = absurd (not_none _ _ h)

pub first_stays : (image : List ℕ) (m after : DataSpace) → SomeEnd m after ⊎ GoOn m after
    → BeganFirst image (running m)
    → (length after.images ≡ 0 → ⊥) → BeganFirst image (running after)
first_stays image m after (inl x) h some =
    subst (λ r. BeganFirst image r) (sym x.1)
    (first_of_others image x.0 (running m) h (λ e. some (none_run after (x.1 ∙ e))))
first_stays image m after (inr (inl x)) h some = subst (λ r. BeganFirst image r) (sym x) h
first_stays image m after (inr (inr x)) h some =
    subst (λ r. BeganFirst image r) (sym x.1) (first_of_more image x.0 (running m) h)

-- ---- what is kept

-- it doesn't depend on the answer at hand
images_too : {S : Type 0} (o : Option Answer) (s : State S) → HasItsImages s → HasItsImages (record s { reply = o })
images_too o s h = record { as_many = h.as_many; inside = h.inside; idle = h.idle }

-- nor on the position of what is read
began_at : (size other : OffsetSize) (p q : ℕ) (r : List ReturnItem) → BeganInside (input.Image size p) r
    → BeganInside (input.Image other q) r
began_at size other p q [] h = h
began_at size other p q (Source x ∷ r) h = h
began_at size other p q (Return to ∷ r) h = began_at size other p q r h
began_at size other p q (Loop l ∷ r) h = began_at size other p q r h
began_at size other p q (User x ∷ r) h = began_at size other p q r h
began_at size other p q (Handler x ∷ r) h = began_at size other p q r h
began_at size other p q (Caller d ∷ r) h = began_at size other p q r h

-- an image stands where one began
some_stand : (image : List ℕ) (m : DataSpace) → BeganFirst image (running m) → length m.images ≡ 0 → ⊥
some_stand image m h = none m.images h
  where
    not_none : (n : ℕ) → suc n ≡ 0 → ⊥
    not_none n e = cc

    none : (ends : List ℕ) → BeganFirst image (images_to m ends) → length ends ≡ 0 → ⊥
    none [] k e = absurd k
    none (x ∷ xs) k e = not_none (length xs) e

module _ (placing : StatesStayPlaced) (sounding : SpaceStaysSound Definitions)
    (reading : ImagesAreReadings Definitions) (runs : ImagesRun Definitions) (image : List ℕ) where
  placed_on : (s t : State Definitions) → IsLeft structured_calls s t → AllPlaced s → AllPlaced t
  placed_on s t (inl e) h = subst (λ x. AllPlaced x) (sym e) (placing.step s h)
  placed_on s t (inr (a, e)) h = subst (λ x. AllPlaced x) (sym e) (placing.step (replied a s) h)

  sound_on : (s t : State Definitions) → IsLeft structured_calls s t → HasSoundSpace s → HasSoundSpace t
  sound_on s t (inl e) h = subst (λ x. HasSoundSpace x) (sym e) (sounding.step structured_calls s h).sound
  sound_on s t (inr (a, e)) h =
      subst (λ x. HasSoundSpace x) (sym e) (sounding.step structured_calls (replied a s) h).sound

  images_on : (s t : State Definitions) → IsLeft structured_calls s t → HasSoundSpace s → HasItsImages s
      → HasItsImages t
  images_on s t (inl e) k h = subst (λ x. HasItsImages x) (sym e) (reading.step structured_calls s k h)
  images_on s t (inr (a, e)) k h =
      subst (λ x. HasItsImages x) (sym e)
      (images_too s.reply _ (reading.step structured_calls (replied a s) k (images_too (Some a) s h)))

  first_on : (s t : State Definitions) → IsLeft structured_calls s t → HasSoundSpace s
      → SomeEnd s.board.memory t.board.memory ⊎ GoOn s.board.memory t.board.memory
  first_on s t (inl e) k =
      subst (λ (x : State Definitions). SomeEnd s.board.memory x.board.memory ⊎ GoOn s.board.memory x.board.memory)
      (sym e)
      (runs.step structured_calls s k)
  first_on s t (inr (a, e)) k =
      subst (λ (x : State Definitions). SomeEnd s.board.memory x.board.memory ⊎ GoOn s.board.memory x.board.memory)
      (sym e)
      (runs.step structured_calls (replied a s) k)

  -- it is kept in a step behind which images stand
  pub kept_on : (s t : State Definitions) → IsLeft structured_calls s t → IsKept image s
      → (length t.board.memory.images ≡ 0 → ⊥) → IsKept image t
  kept_on s t e h some = record {
    placed = placed_on s t e h.placed;
    sound = sound_on s t e h.sound;
    images = images_on s t e h.sound h.images;
    first = first_stays image s.board.memory t.board.memory (first_on s t e h.sound) h.first some;
  }

  pub image_count : (s t : State Definitions) → IsLeft structured_calls s t → IsKept image s → HasItsImages t
  image_count s t e h = images_on s t e h.sound h.images

  pub stays_kept : StaysKept structured_calls (IsKept image)
  stays_kept = record {
    step = λ m t h e same.
        kept_on m.state t.state (made_leaves structured_calls m t e).1 h
        (λ none. some_stand image m.state.board.memory h.first
        (ap (λ (x : DataSpace). length x.images) (sym same) ∙ none));
    place = λ p q s h. record {
      placed = h.placed;
      sound = h.sound;
      images = record {
        as_many = h.images.as_many;
        inside = began_at p.size q.size p.position q.position s.flow.items h.images.inside;
        idle = h.images.idle;
      };
      first = h.first;
    };
  }
