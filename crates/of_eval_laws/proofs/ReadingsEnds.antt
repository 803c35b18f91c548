-- The law `images_are_readings`: what is cut and worked off at the end of a step, and at the end of an image.
use Rattle.std.proofs.Common.{◌≡◌, inl, inr, ℕ, suc, Bool, true, false, List, [], ◌∷◌, length, Option, Some, None}
use Rattle.std.specs.Prelude.{◌==◌}
use Rattle.of_cells.specs.declared.cells.Cell.{Cell}
use Rattle.std.proofs.Common.{refl, sym, ap, ◌∙◌, subst, arith, is_some, if◌then◌else◌}
use Rattle.of_stacks.specs.declared.throws.Throw.{Throw}
use Rattle.of_stacks.specs.declared.return_item.Due.{Due}
use Rattle.of_stacks.specs.declared.return_item.Due.TheVariants as due
use Rattle.of_stacks.specs.declared.return_item.ExceptionFrame.{ExceptionFrame}
use Rattle.of_stacks.specs.declared.return_item.Input.{Input}
use Rattle.of_stacks.specs.declared.return_item.Input.TheVariants as input
use Rattle.of_stacks.specs.declared.return_item.Reading.{Reading}
use Rattle.of_stacks.specs.declared.return_item.ReturnItem.{ReturnItem}
use Rattle.of_stacks.specs.declared.return_item.ReturnItem.TheVariants.{Return, Loop, User, Handler, Source, Caller}
use Rattle.of_stacks.specs.Throws.{stack_overflow}
use Rattle.of_stacks.specs.Unwinding.{beneath_source, latest_handler, latest_source}
use Rattle.of_memory.specs.DataSpace.{DataSpace}
use Rattle.of_memory.specs.Growth.{without_image}
use Rattle.of_flow.specs.declared.control_state.Flow.{Flow}
use Rattle.of_state.specs.State.{Calls, State, given_up, open_xt, with_items}
use Rattle.of_state.specs.Settling.{caught, due_left, fallen, given_back, going_back, is_full, is_same}
use Rattle.of_state.specs.Settling.{load_left, or_nothing, reading_on, resumed, settled, source_ended, uncaught}
use Rattle.of_state.specs.Settling.{due_throw, open_answered, released_in, worked_one}
use Rattle.of_eval_laws.specs.Readings.{BeganInside, is_image, kept_readings, readings}
use Rattle.of_eval_laws.specs.Returning.{is_return_top}
use Rattle.of_eval_laws.specs.Throws.{image_more}
use Rattle.of_eval_laws.proofs.Released.{all_leave, due_leaves, released_leaves}

-- ---- counting

-- as many images end at these addresses as are read, and each has its source
abbrev pub Counted : List ℕ → Input → List ReturnItem → Type 0
Counted ends now items =
    (length ends ≡ image_more now (kept_readings items)) × BeganInside now items

-- so many images are read, and none where nothing runs
abbrev pub Rests : Bool → ℕ → Type 0
Rests running n = running ≡ false → n ≡ 0

abbrev pub Reads : {S : Type 0} → State S → Type 0
Reads s =
    Counted s.board.memory.images s.flow.reading.input s.flow.items × Rests s.flow.is_running (readings s.flow)

-- something runs
abbrev pub Goes : {S : Type 0} → State S → Type 0
Goes s = Counted s.board.memory.images s.flow.reading.input s.flow.items × (s.flow.is_running ≡ true)

pub rests : {S : Type 0} (s : State S) → Goes s → Reads s
rests s (h, run) = (h, (λ e. absurd cc))

-- so many images without the latest
popped : (m : DataSpace) (ends : List ℕ) (n : ℕ) → length ends ≡ suc n → length (without_image m ends).images ≡ n
popped m [] n e = absurd cc
popped m (end ∷ ends) n e = omega (arith, e)

back_counted : (i : Input) (m : DataSpace) (n : ℕ) → length m.images ≡ image_more i n
    → length (given_back i m).images ≡ n
back_counted input.Nothing m n e = e
back_counted (input.Text position) m n e = e
back_counted (input.Image size position) m n e = popped m m.images n e

-- what is no image counts for none
pub none_more : (i : Input) (n : ℕ) → is_image i ≡ false → image_more i n ≡ n
none_more input.Nothing n e = refl
none_more (input.Text position) n e = refl
none_more (input.Image size position) n e = absurd cc

none_beneath : (i : Input) (n : ℕ) → image_more i n ≡ 0 → n ≡ 0
none_beneath input.Nothing n e = e
none_beneath (input.Text position) n e = e
none_beneath (input.Image size position) n e = absurd cc

-- ---- the end of an image

-- what was read ends where its source is, or nothing is read
source_cut : (m : DataSpace) (now : Input) (items : List ReturnItem) → Counted m.images now items
    → Counted (given_back now m).images (or_nothing (latest_source items)).input (beneath_source items)
unfolding latest_source beneath_source
source_cut m now [] h = (back_counted now m 0 h.0, refl)
source_cut m now (Source r ∷ items) h = (back_counted now m (image_more r.input (kept_readings items)) h.0, h.1.1)
source_cut m now (Return to ∷ items) h = source_cut m now items h
source_cut m now (Loop l ∷ items) h = source_cut m now items h
source_cut m now (User x ∷ items) h = source_cut m now items h
source_cut m now (Handler f ∷ items) h = source_cut m now items h
source_cut m now (Caller d ∷ items) h = source_cut m now items h

-- where control doesn't go back to a return, no image is read
source_rests : (now : Input) (items : List ReturnItem) → BeganInside now items
    → is_return_top (beneath_source items) ≡ false
    → image_more (or_nothing (latest_source items)).input (kept_readings (beneath_source items)) ≡ 0
unfolding latest_source beneath_source
source_rests now [] h e = refl
source_rests now (Source r ∷ items) (inl top, h) e = absurd cc
source_rests now (Source r ∷ items) (inr none, h) e = none
source_rests now (Return to ∷ items) h e = source_rests now items h e
source_rests now (Loop l ∷ items) h e = source_rests now items h e
source_rests now (User x ∷ items) h e = source_rests now items h e
source_rests now (Handler f ∷ items) h e = source_rests now items h e
source_rests now (Caller d ∷ items) h e = source_rests now items h e

abbrev Back : List ℕ → Flow → Type 0
Back ends f = Counted ends f.reading.input f.items × Rests f.is_running (readings f)

back_reads : (ends : List ℕ) (items : List ReturnItem) (f : Flow) → Counted ends f.reading.input items
    → f.is_running ≡ true
    → (is_return_top items ≡ false → image_more f.reading.input (kept_readings items) ≡ 0)
    → Back ends (going_back items f)
back_reads ends [] f h run none = (h, (λ e. none refl))
back_reads ends (Return to ∷ items) f h run none = (h, (λ e. absurd cc))
back_reads ends (Source r ∷ items) f h run none = (h, (λ e. none refl))
back_reads ends (Loop l ∷ items) f h run none = (h, (λ e. none refl))
back_reads ends (User x ∷ items) f h run none = (h, (λ e. none refl))
back_reads ends (Handler i ∷ items) f h run none = (h, (λ e. none refl))
back_reads ends (Caller d ∷ items) f h run none = (h, (λ e. none refl))

pub source_reads : {S : Type 0} (s : State S) → Goes s → Reads (source_ended s)
source_reads s h =
    let o = reading_on (or_nothing (latest_source s.flow.items)) s in
    back_reads o.board.memory.images (beneath_source s.flow.items) o.flow
    (source_cut s.board.memory s.flow.reading.input s.flow.items h.0) h.1
    (source_rests s.flow.reading.input s.flow.items h.0.1)

-- ---- items that are cut or worked off

-- the return stack has these items, and as many images stand as are read
abbrev IsAt : {S : Type 0} → List ReturnItem → State S → Type 0
IsAt items s =
    (s.flow.items ≡ items) × Counted s.board.memory.images s.flow.reading.input items
    × Rests s.flow.is_running (image_more s.flow.reading.input (kept_readings items))

reads_at : {S : Type 0} (items : List ReturnItem) (s : State S) → IsAt items s → Reads s
reads_at items s h =
    subst
    (λ r. Counted s.board.memory.images s.flow.reading.input r
    × Rests s.flow.is_running (image_more s.flow.reading.input (kept_readings r)))
    (sym h.0) (h.1, h.2)

either : {S : Type 0} (items : List ReturnItem) (b : Bool) (x y : State S) → IsAt items x → IsAt items y
    → IsAt items (if b then x else y)
either items true x y h k = h
either items false x y h k = k

given_up_at : {S : Type 0} (c : Calls S) (items : List ReturnItem) (s : State S) → IsAt items s
    → IsAt items (given_up c s)
given_up_at c items s h = either items (is_some s.words.defining) _ s h h

pub given_up_reads : {S : Type 0} (c : Calls S) (s : State S) → Reads s → Reads (given_up c s)
given_up_reads c s h = reads_at s.flow.items (given_up c s) (given_up_at c s.flow.items s (refl, h.0, h.1))

caught_at : {S : Type 0} (c : Calls S) (f : ExceptionFrame) (t : Throw) (items : List ReturnItem) (s : State S)
    → IsAt items s → IsAt items (caught c f t s)
caught_at c f t items s h =
    let r = resumed f t s in
    let going : IsAt items r = (h.0, h.1, h.2) in
    either items (is_same (open_xt r) f.opened) r (given_up c r) going (given_up_at c items r going)

load_at : {S : Type 0} (d : Due) (items : List ReturnItem) (s : State S) → IsAt items s → IsAt items (load_left d s)
load_at (due.Load active me instance count) items s h =
    let same = (due_leaves (due.Load active me instance count) s.board).0 in
    (h.0, subst (λ ends. Counted ends s.flow.reading.input items) (sym same) h.1, h.2)
load_at (due.Method me) items s h = h
load_at (due.Open me instance) items s h = h
load_at (due.Close me instance) items s h = h

released_at : {S : Type 0} (ih : Cell) (items : List ReturnItem) (s : State S) → IsAt items s
    → IsAt items (released_in ih s)
released_at ih items s h =
    let same = (released_leaves s.board.instances s.board.memory ih).0 in
    (h.0, subst (λ ends. Counted ends s.flow.reading.input items) (sym same) h.1, h.2)

answered_at : {S : Type 0} (ih : Cell) (cells : List Cell) (items : List ReturnItem) (s : State S) → IsAt items s
    → IsAt items (open_answered ih cells s)
answered_at ih [] items s h = h
answered_at ih (x ∷ cells) items s h = either items (x.0 == 0) _ _ (released_at ih items s h) h

due_at : {S : Type 0} (d : Due) (items : List ReturnItem) (s : State S) → IsAt items s → IsAt items (due_left d s)
due_at (due.Load active me instance count) items s h = load_at (due.Load active me instance count) items s h
due_at (due.Close me instance) items s h = released_at instance items s h
due_at (due.Method me) items s h = h
due_at (due.Open me instance) items s h = answered_at instance s.board.stack items s h

handler_at : {S : Type 0} (c : Calls S) (f : ExceptionFrame) (items : List ReturnItem) (s : State S) → IsAt items s
    → IsAt items (worked_one c (Handler f) s)
handler_at c f items s h = either items (is_full s) _ _ (caught_at c f stack_overflow items s h) h

-- what was read first of all is no image, so where all is cut none is left
fallen_at : {S : Type 0} (t : Throw) (s : State S) → IsAt [] s → IsAt [] (fallen t s)
fallen_at t s h =
    let same = ap length (all_leave s.board).0 in
    (refl, (same ∙ h.1.0 ∙ none_more s.flow.reading.input 0 h.1.1, refl), (λ e. refl))

source_at : {S : Type 0} (r : Reading) (items : List ReturnItem) (s : State S) → IsAt (Source r ∷ items) s
    → IsAt items (reading_on r (with_items items s))
source_at r items s h = (
  refl,
  (
    back_counted s.flow.reading.input s.board.memory (image_more r.input (kept_readings items)) h.1.0,
    h.1.1.1,
  ),
  (λ e. none_beneath s.flow.reading.input (image_more r.input (kept_readings items)) (h.2 e)),
)

-- what is due is worked off, and what is thrown is caught
settles : {S : Type 0} (c : Calls S) (items : List ReturnItem) (thrown : Option Throw) (s : State S) → IsAt items s
    → Reads (settled c items thrown s)
unfolding settled
settles c [] None s h = reads_at [] s h
settles c (Handler f ∷ items) None s h =
    settles c items None (worked_one c (Handler f) (with_items items s))
    (handler_at c f items (with_items items s) (refl, h.1, h.2))
settles c (Caller d ∷ items) None s h =
    settles c items (due_throw d s) (worked_one c (Caller d) (with_items items s))
    (due_at d items _ (refl, h.1, h.2))
settles c (Source r ∷ items) None s h = reads_at (Source r ∷ items) s h
settles c (Return to ∷ items) None s h = reads_at (Return to ∷ items) s h
settles c (Loop l ∷ items) None s h = reads_at (Loop l ∷ items) s h
settles c (User x ∷ items) None s h = reads_at (User x ∷ items) s h
settles c [] (Some t) s h = reads_at [] (uncaught c t s) (given_up_at c [] (fallen t s) (fallen_at t s h))
settles c (Return to ∷ items) (Some t) s h = settles c items (Some t) (with_items items s) (refl, h.1, h.2)
settles c (Loop l ∷ items) (Some t) s h = settles c items (Some t) (with_items items s) (refl, h.1, h.2)
settles c (User x ∷ items) (Some t) s h = settles c items (Some t) (with_items items s) (refl, h.1, h.2)
settles c (Handler f ∷ items) (Some t) s h =
    settles c items None (caught c f t (with_items items s))
    (caught_at c f t items (with_items items s) (refl, h.1, h.2))
settles c (Source r ∷ items) (Some t) s h =
    settles c items (Some t) (reading_on r (with_items items s)) (source_at r items s h)
settles c (Caller d ∷ items) (Some t) s h =
    settles c items (Some t) (load_left d (with_items items s))
    (load_at d items (with_items items s) (refl, h.1, h.2))

pub settled_reads : {S : Type 0} (c : Calls S) (thrown : Option Throw) (s : State S) → Reads s
    → Reads (settled c s.flow.items thrown s)
settled_reads c thrown s h = settles c s.flow.items thrown s (refl, h.0, h.1)

-- ---- a throw that none takes

-- no image stands
abbrev IsBare : {S : Type 0} → State S → Type 0
IsBare s = s.board.memory.images ≡ []

none_long : (ends : List ℕ) → length ends ≡ 0 → ends ≡ []
none_long [] e = refl
none_long (end ∷ ends) e = absurd cc

bare_if : {S : Type 0} (b : Bool) (x y : State S) → IsBare x → IsBare y → IsBare (if b then x else y)
bare_if true x y h k = h
bare_if false x y h k = k

all_cut : {S : Type 0} (c : Calls S) (items : List ReturnItem) (t : Throw) (s : State S) → IsAt items s
    → latest_handler items ≡ None → IsBare (settled c items (Some t) s)
unfolding settled latest_handler
all_cut c [] t s h e =
    let none = none_long (fallen t s).board.memory.images (fallen_at t s h).1.0 in
    bare_if (is_some s.words.defining) _ (fallen t s) none none
all_cut c (Return to ∷ items) t s h e = all_cut c items t (with_items items s) (refl, h.1, h.2) e
all_cut c (Loop l ∷ items) t s h e = all_cut c items t (with_items items s) (refl, h.1, h.2) e
all_cut c (User x ∷ items) t s h e = all_cut c items t (with_items items s) (refl, h.1, h.2) e
all_cut c (Handler f ∷ items) t s h e = absurd cc
all_cut c (Source r ∷ items) t s h e =
    all_cut c items t (reading_on r (with_items items s)) (source_at r items s h) e
all_cut c (Caller d ∷ items) t s h e =
    all_cut c items t (load_left d (with_items items s)) (load_at d items (with_items items s) (refl, h.1, h.2)) e

pub none_left : {S : Type 0} (c : Calls S) (t : Throw) (s : State S) → Reads s → latest_handler s.flow.items ≡ None
    → (settled c s.flow.items (Some t) s).board.memory.images ≡ []
none_left c t s h e = all_cut c s.flow.items t s (refl, h.0, h.1) e
