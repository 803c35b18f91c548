-- The law `images_run`: what is worked off and what a throw cuts at the end of a step leave of the images that run.
use Rattle.std.proofs.Common.{◌≡◌, ℕ, suc, ◌+◌, Bool, true, false, List, [], ◌∷◌, drop, Option, Some}
use Rattle.std.proofs.Common.{None, refl, ap, subst, sym, ◌∙◌, arith, is_some, if◌then◌else◌}
use Rattle.std.specs.Prelude.{◌&&◌, ◌==◌}
use Rattle.std.proofs.lemmas.List.{drop-drop}
use Rattle.of_cells.specs.declared.cells.Cell.{Cell}
use Rattle.of_stacks.specs.declared.throws.Throw.{Throw}
use Rattle.of_stacks.specs.declared.return_item.Due.{Due}
use Rattle.of_stacks.specs.declared.return_item.Due.TheVariants as due
use Rattle.of_stacks.specs.declared.return_item.ExceptionFrame.{ExceptionFrame}
use Rattle.of_stacks.specs.declared.return_item.Input.{Input}
use Rattle.of_stacks.specs.declared.return_item.Input.TheVariants as input
use Rattle.of_stacks.specs.declared.return_item.ReturnItem.{ReturnItem}
use Rattle.of_stacks.specs.declared.return_item.ReturnItem.TheVariants.{Return, Loop, User, Handler, Source, Caller}
use Rattle.of_stacks.specs.Returns.{is_due}
use Rattle.of_stacks.specs.Throws.{stack_overflow, stack_underflow}
use Rattle.of_memory.specs.DataSpace.{DataSpace, IsSound}
use Rattle.of_memory.specs.Growth.{image_popped}
use Rattle.of_state.specs.State.{Calls, State, given_up, open_xt, with_items}
use Rattle.of_state.specs.Settling.{caught, due_left, fallen, given_back, given_up_since, is_full, is_same, load_left}
use Rattle.of_state.specs.Settling.{is_empty, open_answered, reading_on, settled, thrown_at, uncaught, worked_one}
use Rattle.of_eval_laws.specs.Running.{EndLeaves, LatestEnd, SomeEnd, running, throws_late}
use Rattle.of_board.specs.declared.board.Board.{Board}
use Rattle.of_eval_laws.specs.Throws.{image_more, images_ended, left_by, left_through}
use Rattle.of_eval_laws.proofs.Released.{all_stand, due_leaves, released_leaves}
use Rattle.of_nodes.specs.Stored.{AreStored}
use Rattle.of_eval_laws.proofs.FramedSpace.{Laws, Stands, by_space, by_state, stays, then_stands}
use Rattle.of_eval_laws.proofs.RunningBytes.{all_run, popped}

-- ---- definitions that are given up

-- a state in which the images stand
abbrev pub StateStands : {S : Type 0} → Board → State S → Type 0
StateStands w s = Stands w s.board

either : {S : Type 0} (w : Board) (b : Bool) (x y : State S) → StateStands w x → StateStands w y
    → StateStands w (if b then x else y)
either w true x y hx hy = hx
either w false x y hx hy = hy

pub given_up_stands : {S : Type 0} (l : Laws) (c : Calls S) (s : State S) → IsSound s.board.memory
    → StateStands s.board (given_up c s)
given_up_stands l c s sound =
    either s.board (is_some s.words.defining) _ s (by_space l s.board _ sound (by_state l s.board.memory false sound))
    (stays s.board sound)

since_stands : {S : Type 0} (l : Laws) (c : Calls S) (o : Option Cell) (s : State S) → IsSound s.board.memory
    → StateStands s.board (given_up_since c o s)
since_stands l c o s sound =
    either s.board (is_same (open_xt s) o) s (given_up c s) (stays s.board sound)
    (given_up_stands l c s sound)

caught_stands : {S : Type 0} (l : Laws) (c : Calls S) (h : ExceptionFrame) (t : Throw) (s : State S)
    → IsSound s.board.memory → StateStands s.board (caught c h t s)
caught_stands l c h t s sound = since_stands l c h.opened _ sound

load_stands : {S : Type 0} (l : Laws) (d : Due) (s : State S) → IsSound s.board.memory
    → StateStands s.board (load_left d s)
load_stands l (due.Load active me instance count) s sound =
    by_space l s.board _ sound ((due_leaves (due.Load active me instance count) s.board).1 l sound)
load_stands l (due.Method me) s sound = stays s.board sound
load_stands l (due.Open me instance) s sound = stays s.board sound
load_stands l (due.Close me instance) s sound = stays s.board sound

answered_stands : {S : Type 0} (l : Laws) (ih : Cell) (cells : List Cell) (s : State S) → IsSound s.board.memory
    → StateStands s.board (open_answered ih cells s)
answered_stands l ih [] s sound = stays s.board sound
answered_stands l ih (x ∷ cells) s sound =
    either s.board (x.0 == 0) _ _
    (by_space l s.board _ sound ((released_leaves s.board.instances s.board.memory ih).1 l sound))
    (stays s.board sound)

due_stands : {S : Type 0} (l : Laws) (d : Due) (s : State S) → IsSound s.board.memory
    → StateStands s.board (due_left d s)
due_stands l (due.Load active me instance count) s sound = load_stands l (due.Load active me instance count) s sound
due_stands l (due.Close me instance) s sound =
    by_space l s.board _ sound ((released_leaves s.board.instances s.board.memory instance).1 l sound)
due_stands l (due.Method me) s sound = stays s.board sound
due_stands l (due.Open me instance) s sound = answered_stands l instance s.board.stack s sound

-- ---- what is due

worked_stands : {S : Type 0} (l : Laws) (c : Calls S) (item : ReturnItem) (s : State S)
    → IsSound s.board.memory → StateStands s.board (worked_one c item s)
worked_stands l c (Handler h) s sound =
    either s.board (is_full s) _ _ (caught_stands l c h stack_overflow s sound)
    (stays s.board sound)
worked_stands l c (Caller d) s sound = due_stands l d _ sound
worked_stands l c (Source r) s sound = stays s.board sound
worked_stands l c (Return to) s sound = stays s.board sound
worked_stands l c (Loop x) s sound = stays s.board sound
worked_stands l c (User x) s sound = stays s.board sound

-- ---- where nothing is thrown late

is_full_if : {S : Type 0} (b : Bool) (x y : State S) → is_empty x.board.stack ≡ false → is_empty y.board.stack ≡ false
    → is_empty (if b then x else y).board.stack ≡ false
is_full_if true x y hx hy = hx
is_full_if false x y hx hy = hy

since_full : {S : Type 0} (c : Calls S) (o : Option Cell) (s : State S) → is_empty s.board.stack ≡ false
    → is_empty (given_up_since c o s).board.stack ≡ false
since_full c o s h =
    is_full_if (is_same (open_xt s) o) s (given_up c s) h (is_full_if (is_some s.words.defining) _ s h h)

answered_full : {S : Type 0} (ih : Cell) (cells : List Cell) (s : State S) → is_empty s.board.stack ≡ false
    → is_empty (open_answered ih cells s).board.stack ≡ false
answered_full ih [] s h = h
answered_full ih (x ∷ cells) s h = is_full_if (x.0 == 0) _ _ h refl

due_full : {S : Type 0} (d : Due) (s : State S) → is_empty s.board.stack ≡ false
    → is_empty (due_left d s).board.stack ≡ false
due_full (due.Load active me instance count) s h = h
due_full (due.Close me instance) s h = h
due_full (due.Method me) s h = h
due_full (due.Open me instance) s h = answered_full instance s.board.stack s h

handler_full : {S : Type 0} (c : Calls S) (h : ExceptionFrame) (s : State S)
    → is_empty (worked_one c (Handler h) s).board.stack ≡ false
handler_full c h s = is_full_if (is_full s) _ _ (since_full c h.opened _ refl) refl

worked_full : {S : Type 0} (c : Calls S) (item : ReturnItem) (s : State S) → is_empty s.board.stack ≡ false
    → is_empty (worked_one c item s).board.stack ≡ false
worked_full c (Handler h) s f = handler_full c h s
worked_full c (Caller d) s f = due_full d _ f
worked_full c (Source r) s f = f
worked_full c (Return to) s f = f
worked_full c (Loop l) s f = f
worked_full c (User x) s f = f

no_late : (b e : Bool) (t : Throw) → e ≡ false → (if b && e then Some t else None) ≡ None
no_late true true t h = absurd cc
no_late true false t h = refl
no_late false e t h = refl

-- where the data stack has a cell, none is missing
full_late : {S : Type 0} (item : ReturnItem) (s : State S) → is_empty s.board.stack ≡ false → thrown_at item s ≡ None
full_late (Handler h) s f = refl
full_late (Source r) s f = refl
full_late (Return to) s f = refl
full_late (Loop l) s f = refl
full_late (User x) s f = refl
full_late (Caller (due.Load active me instance count)) s f = refl
full_late (Caller (due.Close me instance)) s f = refl
full_late (Caller (due.Method me)) s f = refl
full_late (Caller (due.Open me instance)) s f =
    no_late s.flow.is_running (is_empty s.board.stack) stack_underflow f

full_off : {S : Type 0} (l : Laws) (c : Calls S) (items : List ReturnItem) (s : State S)
    → is_empty s.board.stack ≡ false → IsSound s.board.memory → StateStands s.board (settled c items None s)
unfolding settled
full_off l c [] s f r = stays s.board r
full_off l c (item ∷ items) s f r =
    let next = worked_one c item (with_items items s) in
    let kept = worked_stands l c item (with_items items s) r in
    let rest : StateStands next.board (settled c items (thrown_at item s) next) =
    subst (λ t. StateStands next.board (settled c items t next)) (sym (full_late item s f))
    (full_off l c items next (worked_full c item (with_items items s) f) kept.1) in
    either s.board (is_due item) (settled c items (thrown_at item s) next) s
    (then_stands s.board next.board (settled c items (thrown_at item s) next).board kept rest)
    (stays s.board r)

-- a caller that isn't that of `open`
called_off : {S : Type 0} (c : Calls S) (items : List ReturnItem) (s next : State S)
    → StateStands s.board next → StateStands next.board (settled c items None next)
    → StateStands s.board (settled c items None next)
called_off c items s next kept rest =
    then_stands s.board next.board (settled c items None next).board kept rest

pub worked_off : {S : Type 0} (l : Laws) (c : Calls S) (items : List ReturnItem) (s : State S)
    → throws_late items s.board.stack ≡ false → IsSound s.board.memory
    → StateStands s.board (settled c items None s)
unfolding settled
worked_off l c [] s e r = stays s.board r
worked_off l c (Handler h ∷ items) s e r =
    let next = worked_one c (Handler h) (with_items items s) in
    let kept = worked_stands l c (Handler h) (with_items items s) r in
    called_off c items s next kept (full_off l c items next (handler_full c h (with_items items s)) kept.1)
worked_off l c (Caller (due.Open me instance) ∷ items) s e r =
    full_off l c (Caller (due.Open me instance) ∷ items) s e r
worked_off l c (Caller (due.Method me) ∷ items) s e r =
    let next = worked_one c (Caller (due.Method me)) (with_items items s) in
    let kept = worked_stands l c (Caller (due.Method me)) (with_items items s) r in
    called_off c items s next kept (worked_off l c items next e kept.1)
worked_off l c (Caller (due.Close me instance) ∷ items) s e r =
    let next = worked_one c (Caller (due.Close me instance)) (with_items items s) in
    let kept = worked_stands l c (Caller (due.Close me instance)) (with_items items s) r in
    called_off c items s next kept (worked_off l c items next e kept.1)
worked_off l c (Caller (due.Load active me instance count) ∷ items) s e r =
    let load = Caller (due.Load active me instance count) in
    let next = worked_one c load (with_items items s) in
    let kept = worked_stands l c load (with_items items s) r in
    called_off c items s next kept (worked_off l c items next e kept.1)
worked_off l c (Source x ∷ items) s e r = stays s.board r
worked_off l c (Return to ∷ items) s e r = stays s.board r
worked_off l c (Loop x ∷ items) s e r = stays s.board r
worked_off l c (User x ∷ items) s e r = stays s.board r

-- ---- what is thrown

-- some have ended, the data space is sound, and properties are stored if they were
abbrev pub SomeEnded : Board → Board → Type 0
SomeEnded w after =
    IsSound after.memory × (AreStored w.memory w.tree → AreStored after.memory after.tree)
    × SomeEnd w.memory after.memory

none_end : (w after : Board) → IsSound w.memory → Stands w after → SomeEnded w after
none_end w after s h = (h.1, h.2, (0, all_run w.memory after.memory s.images h.0))

-- some end, and then others
pub then_end : (m after last : DataSpace) (k : ℕ) → running after ≡ drop k (running m) → SomeEnd after last
    → SomeEnd m last
then_end m after last k e h =
    (k + h.0, h.1 ∙ ap (λ x. drop h.0 x) e ∙ drop-drop h.0 k (running m))

back_sound : (l : Laws) (i : Input) (m : DataSpace) → IsSound m → IsSound (given_back i m)
back_sound l input.Nothing m s = s
back_sound l (input.Text n) m s = s
back_sound l (input.Image size n) m s = l.sound.by_pop m s

-- what giving back an image and then more leaves
back_ends : (l : Laws) (i : Input) (w last : Board) → IsSound w.memory
    → SomeEnded (record w { memory = given_back i w.memory }) last → SomeEnded w last
back_ends l input.Nothing w last s h = h
back_ends l (input.Text n) w last s h = h
back_ends l (input.Image size n) w last s h = (
  h.0,
  (λ a. h.1 (l.stored.by_others w.memory (image_popped w.memory) w.tree s (l.properties.by_pop w.memory s) a)),
  then_end w.memory (image_popped w.memory) last.memory 1 (popped w.memory s) h.2,
)

-- what stands, and then some end
stood_ends : (w after last : Board) → IsSound w.memory → Stands w after → SomeEnded after last → SomeEnded w last
stood_ends w after last sound kept rest = (
  rest.0,
  (λ a. rest.1 (kept.2 a)),
  then_end w.memory after.memory last.memory 0 (all_run w.memory after.memory sound.images kept.0) rest.2,
)

uncaught_ends : {S : Type 0} (l : Laws) (c : Calls S) (t : Throw) (s : State S) → IsSound s.board.memory
    → SomeEnded s.board (uncaught c t s).board
uncaught_ends l c t s r =
    let kept = all_stand l s.board r in
    stood_ends s.board (fallen t s).board (uncaught c t s).board r kept
    (none_end (fallen t s).board (uncaught c t s).board kept.1 (given_up_stands l c (fallen t s) kept.1))

ends_if : {S : Type 0} (w : Board) (b : Bool) (x y : State S) → SomeEnded w x.board → SomeEnded w y.board
    → SomeEnded w (if b then x else y).board
ends_if w true x y hx hy = hx
ends_if w false x y hx hy = hy

pub settles_ends : {S : Type 0} (l : Laws) (c : Calls S) (items : List ReturnItem) (thrown : Option Throw) (s : State S)
    → IsSound s.board.memory → SomeEnded s.board (settled c items thrown s).board
unfolding settled
settles_ends l c [] None s r = none_end s.board s.board r (stays s.board r)
settles_ends l c (item ∷ items) None s r =
    let next = worked_one c item (with_items items s) in
    let kept = worked_stands l c item (with_items items s) r in
    ends_if s.board (is_due item) (settled c items (thrown_at item s) next) s
    (stood_ends s.board next.board (settled c items (thrown_at item s) next).board r kept
    (settles_ends l c items (thrown_at item s) next kept.1))
    (none_end s.board s.board r (stays s.board r))
settles_ends l c [] (Some t) s r = uncaught_ends l c t s r
settles_ends l c (Return to ∷ items) (Some t) s r = settles_ends l c items (Some t) (with_items items s) r
settles_ends l c (Loop x ∷ items) (Some t) s r = settles_ends l c items (Some t) (with_items items s) r
settles_ends l c (User x ∷ items) (Some t) s r = settles_ends l c items (Some t) (with_items items s) r
settles_ends l c (Handler h ∷ items) (Some t) s r =
    let next = caught c h t (with_items items s) in
    let kept = caught_stands l c h t (with_items items s) r in
    stood_ends s.board next.board (settled c items None next).board r kept (settles_ends l c items None next kept.1)
settles_ends l c (Source x ∷ items) (Some t) s r =
    let i = s.flow.reading.input in
    let next = reading_on x (with_items items s) in
    back_ends l i s.board (settled c items (Some t) next).board r
    (settles_ends l c items (Some t) next (back_sound l i s.board.memory r))
settles_ends l c (Caller d ∷ items) (Some t) s r =
    let next = load_left d (with_items items s) in
    let kept = load_stands l d (with_items items s) r in
    stood_ends s.board next.board (settled c items (Some t) next).board r kept
    (settles_ends l c items (Some t) next kept.1)

-- ---- so many images

back_one : (now : Input) (m last : DataSpace) (n : ℕ) → IsSound m → LatestEnd n (given_back now m) last
    → LatestEnd (image_more now n) m last
back_one input.Nothing m last n r e = e
back_one (input.Text position) m last n r e = e
back_one (input.Image size position) m last n r e =
    let count : 1 + n ≡ suc n = omega arith in
    e ∙ ap (λ x. drop n x) (popped m r) ∙ drop-drop n 1 (running m) ∙ ap (λ k. drop k (running m)) count

pub left_ends : (l : Laws) (now : Input) (items : List ReturnItem) (b : Board) → IsSound b.memory
    → LatestEnd (images_ended now items) b.memory (left_through now items b).memory
left_ends l now [] b r = refl
left_ends l now (Source x ∷ items) b r =
    let freed : Board = record b { memory = given_back now b.memory } in
    back_one now b.memory (left_through x.input items freed).memory (images_ended x.input items) r
    (left_ends l x.input items freed (back_sound l now b.memory r))
left_ends l now (Caller d ∷ items) b r =
    let kept = (due_leaves d b).1 l r in
    left_ends l now items (left_by d b) kept.sound
    ∙ ap (λ x. drop (images_ended now items) x) (all_run b.memory (left_by d b).memory r.images kept.images)
left_ends l now (Return to ∷ items) b r = left_ends l now items b r
left_ends l now (Loop x ∷ items) b r = left_ends l now items b r
left_ends l now (User x ∷ items) b r = left_ends l now items b r
left_ends l now (Handler h ∷ items) b r = left_ends l now items b r

-- ---- the end of a step

pub end_leaves : {S : Type 0} (l : Laws) (c : Calls S) (items : List ReturnItem) (thrown : Option Throw) (s : State S)
    → IsSound s.board.memory
    → EndLeaves (throws_late items s.board.stack) s.board.memory (settled c items thrown s).board.memory thrown
end_leaves l c items None s r = (
  (λ e. all_run s.board.memory (settled c items None s).board.memory r.images (worked_off l c items s e r).0),
  (settles_ends l c items None s r).2,
)
end_leaves l c items (Some t) s r = (settles_ends l c items (Some t) s r).2
