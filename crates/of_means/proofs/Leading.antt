-- The return stack at the source leads back to it, and where control is back it is that of the source.
use Rattle.of_eval_laws.specs.Returning.{AreAmong, end_in, loop_ends}
use Rattle.of_means.proofs.Level.{drop_any}
use Rattle.std.proofs.Common.{◌≡◌, inl, inr, ℕ, suc, Bool, true, false, List, [], ◌∷◌, length, Option, Some, None}
use Rattle.std.proofs.Common.{refl, sym, ap, ◌∙◌, subst, is_some}
use Rattle.std.specs.Prelude.{◌-◌, ◌&&◌}
use Rattle.of_stacks.specs.declared.return_item.Continuation.{Continuation}
use Rattle.of_stacks.specs.declared.return_item.Continuation.TheVariants as continuation
use Rattle.of_stacks.specs.declared.return_item.Input.{Input}
use Rattle.of_stacks.specs.declared.return_item.Input.TheVariants as input
use Rattle.of_stacks.specs.declared.return_item.LoopExit.{LoopExit}
use Rattle.of_stacks.specs.declared.return_item.LoopExit.TheVariants as exit
use Rattle.of_stacks.specs.declared.return_item.Reading.{Reading}
use Rattle.of_stacks.specs.declared.return_item.ReturnItem.{ReturnItem}
use Rattle.of_stacks.specs.declared.return_item.ReturnItem.TheVariants.{Return, Loop, User, Handler, Source, Caller}
use Rattle.of_stacks.specs.Unwinding.{latest_source}
use Rattle.of_memory.specs.DataSpace.{DataSpace, bytes_from, free_after}
use Rattle.of_memory.specs.Images.{latest_image, latest_start}
use Rattle.of_tok.specs.declared.place.Place.{Place}
use Rattle.of_state.specs.State.{State}
use Rattle.of_eval_laws.specs.Readings.{BeganInside, HasItsImages, is_image, kept_readings, readings_over}
use Rattle.of_eval_laws.specs.Returning.{IsInside, IsPosition, IsSource, Leads, LeadsBack, LeadsOn}
use Rattle.of_eval_laws.specs.Returning.{is_back, is_code, is_outer, is_read_on, reads_nothing}
use Rattle.of_eval_laws.specs.Running.{images_to, running}
use Rattle.of_eval_laws.specs.Throws.{image_more}
use Rattle.of_means.specs.Kept.{BeganFirst}
use Rattle.of_means.specs.Means.{at_place}
use Rattle.of_means.specs.Sources.{AtSource, IsExit, IsLevel}

false_true : false ≡ true → ⊥
false_true e = cc

true_false : true ≡ false → ⊥
true_false e = cc

-- none is read, and none of the others
none_more : (i : Input) (n : ℕ) → image_more i n ≡ 0 → (n ≡ 0) × (is_image i ≡ false)
none_more input.Nothing n e = (e, refl)
none_more (input.Text p) n e = (e, refl)
none_more (input.Image size p) n e = absurd (no e)
  where
    no : suc n ≡ 0 → ⊥
    no k = cc

none_some : {A : Type 0} (x : A) → None ≡ Some x → ⊥
none_some x e = cc

source_not_nothing : (i : Input) → IsSource i → reads_nothing i ≡ true → ⊥
source_not_nothing input.Nothing h e = h
source_not_nothing (input.Text p) h e = false_true e
source_not_nothing (input.Image size p) h e = false_true e

exit_position : (image : List ℕ) (x : LoopExit) → IsExit image x → IsPosition x
exit_position image (exit.Position e) h = tt
exit_position image (exit.Code n) h = h

exit_inside : (image loops : List ℕ) (outer : Reading) (x : LoopExit) (r : List ReturnItem) → IsExit image x
    → AreAmong (end_in x ∷ loop_ends r) loops → IsInside image loops outer x r
exit_inside image loops outer (exit.Position e) r h a = (h, a)
exit_inside image loops outer (exit.Code n) r h a = h

inside_exit : (image loops : List ℕ) (outer : Reading) (x : LoopExit) (r : List ReturnItem)
    → IsInside image loops outer x r → IsExit image x × AreAmong (end_in x ∷ loop_ends r) loops
inside_exit image loops outer (exit.Position e) r h = h
inside_exit image loops outer (exit.Code n) r h = absurd h

module _ (image loops : List ℕ) (outer : Reading) where
  -- at the source the items lead back
  pub level_leads : (due : Option Continuation) (r : List ReturnItem) → IsLevel image r → AreAmong (loop_ends r) loops
      → LeadsBack image loops outer outer false due r
  level_leads due [] h a = absurd h
  level_leads due (Loop l ∷ r) h a = (
    (λ e. (exit_position image l.exit h.0, λ o. exit_inside image loops outer l.exit r h.0 a)),
    level_leads None r h.1 (drop_any (end_in l.exit) (loop_ends r) loops a),
  )
  level_leads due (User x ∷ r) h a = level_leads None r h a
  level_leads due (Source s ∷ r) h a = (refl, inl (h.0, refl, h.1))
  level_leads due (Return to ∷ r) h a = absurd h
  level_leads due (Handler f ∷ r) h a = absurd h
  level_leads due (Caller d ∷ r) h a = absurd h

  -- and where control is back, they are those of the source
  pub back_level : (now : Reading) (r : List ReturnItem) → is_outer r ≡ true
      → LeadsBack image loops outer now false None r → IsLevel image r × AreAmong (loop_ends r) loops × (now ≡ outer)
  unfolding latest_source
  back_level now [] o h = absurd h
  back_level now (Loop l ∷ r) o h =
      let rest = back_level now r o h.1 in
      let x = inside_exit image loops outer l.exit r ((h.0 refl).1 o) in
      ((x.0, rest.0), x.1, rest.2)
  back_level now (User x ∷ r) o h = back_level now r o h
  back_level now (Source s ∷ r) o (e, inl h) = ((h.0, h.2), tt, h.1)
  back_level now (Source s ∷ r) o (e, inr h) = absurd (source_not_nothing s.input h.0.0 o)
  back_level now (Return to ∷ r) o h = absurd (false_true h.0)
  back_level now (Handler f ∷ r) o h = absurd (none_some f.resume h.0)
  back_level now (Caller d ∷ r) o h = absurd (false_true h.1)

  -- while it is so, an image is read
  pub reads_image : (now : Reading) (code : Bool) (due : Option Continuation) (r : List ReturnItem)
      → is_image outer.input ≡ true → LeadsBack image loops outer now code due r → readings_over now.input r ≡ 0 → ⊥
  reads_image now code due [] o h e = h
  reads_image now code due (Loop l ∷ r) o h e = reads_image now code None r o h.1 e
  reads_image now code due (User x ∷ r) o h e = reads_image now code None r o h e
  reads_image now code due (Return to ∷ r) o h e = reads_image now (is_code to) (Some to) r o h.1 e
  reads_image now code due (Handler f ∷ r) o h e = reads_image now code due r o h.3 e
  reads_image now code due (Caller d ∷ r) o h e = reads_image now code due r o h.2 e
  reads_image now code due (Source s ∷ r) o (f, inl h) e =
      true_false (sym o ∙ ap (λ (x : Reading). is_image x.input) (sym h.1) ∙ (none_more now.input _ e).1)
  reads_image now code due (Source s ∷ r) o (f, inr h) e = reads_image s true None r o h.2 (none_more now.input _ e).0

-- ---- the source's image is the only one

-- at the source no other image is kept
none_kept : (image : List ℕ) (now : Input) (r : List ReturnItem) → IsLevel image r → BeganInside now r
    → kept_readings r ≡ 0
none_kept image now [] h b = absurd h
none_kept image now (Loop l ∷ r) h b = none_kept image now r h.1 b
none_kept image now (User x ∷ r) h b = none_kept image now r h b
none_kept image now (Return to ∷ r) h b = absurd h
none_kept image now (Handler f ∷ r) h b = absurd h
none_kept image now (Caller d ∷ r) h b = absurd h
none_kept image now (Source s ∷ r) h (inl e, b) = absurd (true_false (sym e ∙ h.1.1))
none_kept image now (Source s ∷ r) h (inr e, b) = e

only_one : (image : List ℕ) (m : DataSpace) (ends : List ℕ) → length ends ≡ 1 → BeganFirst image (images_to m ends)
    → bytes_from m (latest_start ends) (free_after ends - latest_start ends) ≡ image
only_one image m [] e h = absurd h
only_one image m (x ∷ []) e h = h
only_one image m (x ∷ y ∷ xs) e h = absurd (no (length xs) e)
  where
    no : (n : ℕ) → suc (suc n) ≡ 1 → ⊥
    no n k = cc

more_one : (i : Input) (n : ℕ) → is_image i ≡ true → n ≡ 0 → image_more i n ≡ 1
more_one input.Nothing n o e = absurd (false_true o)
more_one (input.Text p) n o e = absurd (false_true o)
more_one (input.Image size p) n o e = ap (λ (x : ℕ). suc x) e

-- so it is the latest
pub source_latest : {S : Type 0} (image : List ℕ) (s : State S) → IsLevel image s.flow.items
    → is_image s.flow.reading.input ≡ true → HasItsImages s → BeganFirst image (running s.board.memory)
    → latest_image s.board.memory ≡ image
source_latest image s level o h first =
    only_one image s.board.memory s.board.memory.images
    (h.as_many ∙ more_one s.flow.reading.input _ o (none_kept image s.flow.reading.input s.flow.items level h.inside))
    first

-- ---- control at the source

source_next : (to : Continuation) → is_read_on to ≡ true → to ≡ continuation.Source
source_next continuation.Source e = refl
source_next (continuation.Code n) e = absurd (false_true e)

pub both_first : (a b : Bool) → (a && b) ≡ true → a ≡ true
both_first true b e = refl
both_first false b e = absurd (false_true e)

pub both_second : (a b : Bool) → (a && b) ≡ true → b ≡ true
both_second true b e = e
both_second false b e = absurd (false_true e)

pub none_open : {A : Type 0} (o : Option A) → is_some o ≡ false → o ≡ None
none_open None e = refl
none_open (Some x) e = absurd (true_false e)

module _ {S : Type 0} (image loops : List ℕ) (Keeps : State S → Type 0) where
  -- it leads back behind a token
  pub source_leads : (q : Place) (s : State S) → AtSource image loops Keeps false s
      → Leads image loops (at_place q s).flow.reading (at_place q s)
  source_leads q s h = (
    (
      (tt, h.opened),
      subst (λ (to : Continuation). LeadsBack image loops (at_place q s).flow.reading (at_place q s).flow.reading
          (is_code to) (Some to) s.flow.items)
          (sym h.next) (level_leads image loops (at_place q s).flow.reading
          (Some continuation.Source) s.flow.items h.level h.among),
    ),
    (λ o. none_open s.words.defining h.defines),
  )

  -- where control is back, it is at the source again, behind the token
  pub source_back : (q : Place) (outer : Reading) (s : State S) → outer.input ≡ input.Image q.size q.position
      → outer.opened ≡ None → s.flow.is_running ≡ true → is_back s ≡ true → LeadsOn image loops outer s
      → (s.words.defining ≡ None → s.flow.is_compiling ≡ false) → HasItsImages s
      → BeganFirst image (running s.board.memory) → (at_place q s ≡ s → (p : Place) → Keeps (at_place p s))
      → AtSource image loops Keeps false s × (at_place q s ≡ s)
  source_back q outer s i o running back h compiles images first kept =
      let to = source_next s.flow.next (both_first (is_read_on s.flow.next) _ back) in
      let outermost : is_outer s.flow.items ≡ true = both_second (is_read_on s.flow.next) _ back in
      let leads : LeadsBack image loops outer s.flow.reading false None s.flow.items =
      subst (λ (x : Continuation). LeadsBack image loops outer s.flow.reading (is_code x) None s.flow.items) to h.0.1
      in
      let level = back_level image loops outer s.flow.reading s.flow.items outermost leads in
      let read : s.flow.reading.input ≡ input.Image q.size q.position =
      ap (λ (r : Reading). r.input) level.2 ∙ i in
      let closed = h.1 outermost in
      let there : at_place q s ≡ s =
      ap (λ (x : Input). record s { flow = record s.flow { reading = record s.flow.reading { input = x } } })
      (sym read) in (
        record {
          running = running;
          next = to;
          compiles = compiles closed;
          defines = ap is_some closed;
          opened = ap (λ (r : Reading). r.opened) level.2 ∙ o;
          level = level.0;
          among = level.1;
          bytes = source_latest image s level.0 (ap is_image read) images first;
          kept = kept there;
        },
        there,
      )
