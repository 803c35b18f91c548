-- Behind the token of a definition control stands at the source again, unless something is thrown.
use Rattle.std.proofs.Common.{◌≡◌, ℕ, suc, Bool, true, false, List}
use Rattle.std.proofs.Common.{Some, Result, Ok, Err, refl, sym, ap, ◌∙◌, subst, is_some}
use Rattle.of_stacks.specs.declared.throws.Throw.{Throw}
use Rattle.of_stacks.specs.declared.return_item.Input.{Input}
use Rattle.of_stacks.specs.declared.return_item.Input.TheVariants as input
use Rattle.of_stacks.specs.declared.return_item.Reading.{Reading}
use Rattle.of_stacks.specs.declared.return_item.ReturnItem.{ReturnItem}
use Rattle.of_compile.specs.Structured.{Definitions}
use Rattle.of_tok.specs.declared.place.Place.{Place}
use Rattle.of_state.specs.State.{Calls, Outcome, State}
use Rattle.of_state.specs.Settling.{settled, thrown_in}
use Rattle.of_steps.specs.Steps.{settled_of}
use Rattle.of_eval_laws.specs.Placed.{StatesStayPlaced}
use Rattle.of_eval_laws.specs.Readings.{ImagesAreReadings, is_image, kept_readings}
use Rattle.of_eval_laws.specs.Running.{ImagesRun}
use Rattle.of_eval_laws.specs.Sound.{SpaceStaysSound}
use Rattle.of_eval_laws.specs.Structured.{structured_calls}
use Rattle.of_eval_laws.specs.Throws.{ThrowsSettle, image_more}
use Rattle.of_means.specs.Moments.{Moment, made, with_state}
use Rattle.of_means.specs.Kept.{IsKept}
use Rattle.of_means.specs.Means.{at, at_place}
use Rattle.of_eval_laws.specs.Returning.{AreAmong, loop_ends}
use Rattle.of_means.specs.Sources.{AtSource, IsLevel}
use Rattle.of_means.proofs.Keeping.{image_count, kept_on, made_leaves, stays_kept}
use Rattle.of_means.proofs.Leading.{source_latest}
use Rattle.of_means.proofs.Level.{level_rests, level_unguarded}

not_both : true ≡ false → ⊥
not_both e = cc

more_than_none : (i : Input) (n : ℕ) → is_image i ≡ true → image_more i n ≡ 0 → ⊥
more_than_none input.Nothing n o e = not_both (sym o)
more_than_none (input.Text p) n o e = not_both (sym o)
more_than_none (input.Image size p) n o e = no e
  where
    no : suc n ≡ 0 → ⊥
    no h = cc

-- control stays behind the token, and words are compiled from now on or not
pub record StaysBehind (q : Place) (s : State Definitions) (b : Bool) (x : State Definitions) : Type 0 where
  pub items : x.flow.items ≡ s.flow.items
  pub reading : x.flow.reading ≡ (at_place q s).flow.reading
  pub next : x.flow.next ≡ s.flow.next
  pub running : x.flow.is_running ≡ s.flow.is_running
  pub compiles : x.flow.is_compiling ≡ b
  pub defines : is_some x.words.defining ≡ b

module _ (settles : ThrowsSettle Definitions) (placing : StatesStayPlaced) (sounding : SpaceStaysSound Definitions)
    (reading : ImagesAreReadings Definitions) (runs : ImagesRun Definitions) (image loops : List ℕ) where
  abbrev c : Calls Definitions
  c = structured_calls

  -- what was done without a throw is the state; what was thrown ends all that runs
  calm : (x : State Definitions) (e : Result (Unit {0}) Throw) → IsLevel image x.flow.items
      → (settled c x.flow.items (thrown_in e) x).flow.is_running ≡ true
      → (e ≡ Ok tt) × (settled c x.flow.items (thrown_in e) x ≡ x)
  calm x (Ok y) l r = (refl, settles.rests c x (level_rests image x.flow.items l))
  calm x (Err t) l r =
      absurd (not_both (sym r ∙ (settles.ends c t x (level_unguarded image x.flow.items l)).running))

  pub stands_on : (b b' : Bool) (p q : Place) (m v : Moment Definitions) (o : Outcome Definitions)
      → AtSource image loops (IsKept image) b m.state → made c (at p m) ≡ Some v → v ≡ with_state (settled_of c o) m
      → StaysBehind q m.state b' o.state → v.state.flow.is_running ≡ true
      → (o.ended ≡ Ok tt) × (v.state ≡ o.state) × AtSource image loops (IsKept image) b' v.state × (at q v ≡ v)
  stands_on b b' p q m v o h step e behind running =
      let s = m.state in
      let x = o.state in
      let level : IsLevel image x.flow.items =
      subst (λ (r : List ReturnItem). IsLevel image r) (sym behind.items) h.level in
      let k = calm x o.ended level (ap (λ (y : Moment Definitions). y.state.flow.is_running) (sym e) ∙ running) in
      let same : v.state ≡ x = ap (λ (y : Moment Definitions). y.state) e ∙ k.1 in
      let read : v.state.flow.reading ≡ (at_place q s).flow.reading =
      ap (λ (y : State Definitions). y.flow.reading) same ∙ behind.reading in
      let input_is : v.state.flow.reading.input ≡ input.Image q.size q.position = ap (λ (r : Reading). r.input) read in
      let there : at_place q v.state ≡ v.state =
      ap (λ (i : Input). record v.state {
        flow =
            record v.state.flow { reading = record v.state.flow.reading { input = i } };
      })
      (sym input_is) in
      let left = (made_leaves c (at p m) v step).1 in
      let images = image_count placing sounding reading runs image (at p m).state v.state left (h.kept p) in
      let keeps = kept_on placing sounding reading runs image (at p m).state v.state left (h.kept p)
      (λ none. more_than_none v.state.flow.reading.input (kept_readings v.state.flow.items) (ap is_image input_is)
      (sym images.as_many ∙ none)) in
      let level' : IsLevel image v.state.flow.items =
      subst (λ (y : State Definitions). IsLevel image y.flow.items) (sym same) level in
      let stays = stays_kept placing sounding reading runs image in (
        k.0,
        same,
        record {
          running = running;
          next = ap (λ (y : State Definitions). y.flow.next) same ∙ behind.next ∙ h.next;
          compiles = ap (λ (y : State Definitions). y.flow.is_compiling) same ∙ behind.compiles;
          defines = ap (λ (y : State Definitions). is_some y.words.defining) same ∙ behind.defines;
          opened = ap (λ (r : Reading). r.opened) read ∙ h.opened;
          level = level';
          among = subst (λ (r : List ReturnItem). AreAmong (loop_ends r) loops)
              (sym (ap (λ (y : State Definitions). y.flow.items) same ∙ behind.items)) h.among;
          bytes = source_latest image v.state level' (ap is_image input_is) keeps.images keeps.first;
          kept = λ p'. stays.place q p' v.state (subst (λ (y : State Definitions). IsKept image y) (sym there) keeps);
        },
        ap (λ (y : State Definitions). with_state y v) there,
      )
