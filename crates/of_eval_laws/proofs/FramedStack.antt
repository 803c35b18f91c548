-- The law `frames_hold`: what executing a word leaves of control.
use Rattle.std.proofs.Common.{◌≡◌, ◌⊎◌, inl, inr, ℕ, Bool, true, List, [], ◌∷◌, Result, Ok, Err, refl, ap}
use Rattle.of_cells.specs.declared.cells.Cell.{Cell}
use Rattle.of_stacks.specs.declared.return_item.Continuation.{Continuation}
use Rattle.of_stacks.specs.declared.return_item.Continuation.TheVariants as continuation
use Rattle.of_stacks.specs.declared.return_item.Due.{Due}
use Rattle.of_stacks.specs.declared.return_item.ReturnItem.{ReturnItem}
use Rattle.of_stacks.specs.declared.return_item.ReturnItem.TheVariants.{Caller, Handler, Loop, Return, Source, User}
use Rattle.of_stacks.specs.declared.throws.Throw.{Throw}
use Rattle.of_stacks.specs.Returns.{has_due_top, return_on_top}
use Rattle.of_flow.specs.declared.control_state.Flow.{Flow}
use Rattle.of_board.specs.declared.board.Board.{Board}
use Rattle.of_asking.specs.Devices.{devices_entry}
use Rattle.of_asking.specs.Keys.{keys_entry}
use Rattle.of_asking.specs.Questions.{Asking, Asks, Gives}
use Rattle.of_eval.specs.Acts.{Move, To, WordAct, front_of}
use Rattle.of_eval.specs.Acts as act
use Rattle.of_eval.specs.Doing.{appended, executed, worked}
use Rattle.of_eval.specs.Executing.{entered, execution, frame_of, furnished, guarded, plan_in}
use Rattle.of_state.specs.State.{Calls, State, by_asking, by_board, with_stack}
use Rattle.of_words.specs.Words.{word_entry}
use Rattle.of_eval_laws.specs.Returning.{IsCall}
use Rattle.of_eval_laws.specs.Frames.{ExecutingLeaves, drops_item, last_word}
use Rattle.of_eval_laws.proofs.WalkFree.{keeping}
use Rattle.of_eval_laws.proofs.WalkWords.{IsCellOnTop, IsLoopOnTop, IsWork, Rules, execution_works}

-- words push no loops
abbrev NoLoop : ReturnItem → Type 0
NoLoop (Loop l) = ⊥
NoLoop (Return to) = Unit {0}
NoLoop (User x) = Unit {0}
NoLoop (Handler h) = Unit {0}
NoLoop (Source r) = Unit {0}
NoLoop (Caller d) = Unit {0}

-- an item may be dropped, or a handler is on top, which no word drops; no word of control runs
abbrev stacking : (S : Type 0) → Bool → Rules S
stacking S d = record (keeping S (λ s. Unit {0}) ((λ cells d ih s k p. (tt, tt, tt)), (λ x s o p. tt))) {
  Item = λ s i. NoLoop i;
  Drops = λ s. (d ≡ true) ⊎ (has_due_top s.flow.items ≡ true);
  Aims = λ s n. ⊥;
  aims = λ n s a. tt;
  drops_taken = λ cells s h. h;
  drops_guarded = λ cells s p. inr refl;
  drops_entered = λ cells d ih s p. inr refl;
  drops_furnished = λ x s h. h;
}

-- what is dropped isn't due
no_due : (r : List ReturnItem) → has_due_top r ≡ true → IsCellOnTop r ⊎ IsLoopOnTop r → ⊥
no_due [] e t = absurd cc
no_due (User x ∷ r) e t = absurd cc
no_due (Loop l ∷ r) e t = absurd cc
no_due (Return to ∷ r) e t = absurd cc
no_due (Source s ∷ r) e t = absurd cc
no_due (Handler h ∷ r) e (inl (x, f)) = absurd cc
no_due (Handler h ∷ r) e (inr (x, f)) = absurd cc
no_due (Caller d ∷ r) e (inl (x, f)) = absurd cc
no_due (Caller d ∷ r) e (inr (x, f)) = absurd cc

no_return : (r : List ReturnItem) (to : Continuation) → has_due_top r ≡ true → return_on_top r ≡ Ok to → ⊥
no_return [] to e f = absurd cc
no_return (User x ∷ r) to e f = absurd cc
no_return (Loop l ∷ r) to e f = absurd cc
no_return (Return x ∷ r) to e f = absurd cc
no_return (Source s ∷ r) to e f = absurd cc
no_return (Handler h ∷ r) to e f = absurd cc
no_return (Caller d ∷ r) to e f = absurd cc

may_drop : (d : Bool) (r : List ReturnItem) → (d ≡ true) ⊎ (has_due_top r ≡ true)
    → (has_due_top r ≡ true → ⊥) → d ≡ true
may_drop d r (inl e) h = e
may_drop d r (inr e) h = absurd (h e)

-- without a `catch`
abbrev Leaves : {S : Type 0} → Bool → State S → State S → Type 0
Leaves d s u = ExecutingLeaves d s.flow u.flow

stays : {S : Type 0} (d : Bool) (s u : State S) → u.flow ≡ s.flow → Leaves d s u
stays d s u e = (
  [],
  tt,
  inl (ap (λ (f : Flow). f.items) e, ap (λ (f : Flow). f.next) e, ap (λ (f : Flow). f.reading) e),
)

board_flow : {S : Type 0} (m : Result Board Throw) (s : State S) → (by_board m s).state.flow ≡ s.flow
board_flow (Ok x) s = refl
board_flow (Err t) s = refl

asking_flow : {S : Type 0} (x : Asking Board) (s : State S) → (by_asking x s).state.flow ≡ s.flow
asking_flow (Gives r) s = board_flow r s
asking_flow (Asks q) s = refl

appended_flow : {S : Type 0} (code : S) (ended : Result (Unit {0}) Throw) (cells : List Cell) (s : State S)
    → (appended (record { code = code; ended = ended }) cells s).state.flow ≡ s.flow
appended_flow code (Ok x) cells s = refl
appended_flow code (Err t) cells s = refl

moved_leaves : {S : Type 0} (d : Bool) (cells : List Cell) (m : Move) (to : To) (c : Calls S) (s : State S)
    → IsWork (stacking S d) s (act.Moves cells m to) → Leaves d s (worked c (act.Moves cells m to) s).state
unfolding worked
moved_leaves d cells act.Keeps act.Behind c s h = ([], tt, inl (refl, refl, refl))
moved_leaves d cells act.Keeps (act.Next continuation.Source) c s h = absurd h.2.0
moved_leaves d cells act.Keeps (act.Next (continuation.Code n)) c s h = absurd h.2.0
moved_leaves d cells (act.Pushes (User x)) act.Behind c s h = ([], tt, inr (inl (x, refl, refl, refl)))
moved_leaves d cells (act.Pushes (Loop l)) act.Behind c s h = absurd h.0
moved_leaves d cells (act.Pushes (Return to)) act.Behind c s h = absurd h.2
moved_leaves d cells (act.Pushes (Handler f)) act.Behind c s h = absurd h.2
moved_leaves d cells (act.Pushes (Source x)) act.Behind c s h = absurd h.2
moved_leaves d cells (act.Pushes (Caller x)) act.Behind c s h = absurd h.2
moved_leaves d cells (act.Pushes (Return to)) (act.Next (continuation.Code n)) c s h =
    ([], tt, inr (inr (inl (ap (λ (x : Continuation). Return x ∷ s.flow.items) h.2, refl, refl))))
moved_leaves d cells (act.Pushes (Return to)) (act.Next continuation.Source) c s h = absurd h.2.1
moved_leaves d cells (act.Pushes (User x)) (act.Next to) c s h = absurd h.2.1
moved_leaves d cells (act.Pushes (Loop l)) (act.Next to) c s h = absurd h.2.1
moved_leaves d cells (act.Pushes (Handler f)) (act.Next to) c s h = absurd h.2.1
moved_leaves d cells (act.Pushes (Source x)) (act.Next to) c s h = absurd h.2.1
moved_leaves d cells (act.Pushes (Caller x)) (act.Next to) c s h = absurd h.2.1
moved_leaves d cells act.Drops act.Behind c s (drops, t, top) =
    let may = may_drop d s.flow.items drops (λ e. no_due s.flow.items e top) in
    ([], tt, inr (inr (inr (inr (may, (refl, inl refl, refl))))))
moved_leaves d cells act.Drops (act.Next to) c s (drops, t, inl e) =
    let may = may_drop d s.flow.items drops (λ f. no_return s.flow.items to f e) in
    ([], tt, inr (inr (inr (inr (may, (refl, inr e, refl))))))
moved_leaves d cells act.Drops (act.Next continuation.Source) c s (drops, t, inr f) = absurd f.0
moved_leaves d cells act.Drops (act.Next (continuation.Code n)) c s (drops, t, inr f) = absurd f.0
moved_leaves d cells (act.Turns l) act.Behind c s h = absurd h.2
moved_leaves d cells (act.Turns l) (act.Next continuation.Source) c s h = absurd h.2.0
moved_leaves d cells (act.Turns l) (act.Next (continuation.Code n)) c s h = absurd h.2.0

-- and with one more
guards : {S : Type 0} (d : Bool) (cells : List Cell) (s u : State S) → Leaves d (guarded cells s) u → Leaves d s u
guards d cells s u (kept, all, h) = (Handler (frame_of cells s) ∷ kept, (refl, all), h)

enters : {S : Type 0} (drops : Bool) (cells : List Cell) (d : Due) (ih : Cell) (s u : State S) → IsCall d
    → Leaves drops (entered cells d ih s) u → Leaves drops s u
enters drops cells d ih s u call (kept, all, h) = (Caller d ∷ kept, (call, all), h)

worked_leaves : {S : Type 0} (d : Bool) (c : Calls S) (a : WordAct) (s : State S) → IsWork (stacking S d) s a
    → Leaves d s (worked c a s).state
unfolding worked
worked_leaves d c (act.Fails t) s h = stays d s s refl
worked_leaves d c (act.Raises t cells) s h = stays d s (with_stack cells s) refl
worked_leaves d c (act.Leaves cells) s h = stays d s (with_stack cells s) refl
worked_leaves d c (act.Works w) s h =
    stays d s (by_board (word_entry w s.board) s).state (board_flow (word_entry w s.board) s)
worked_leaves d c (act.Listens w) s h =
    let x = keys_entry w s.reply s.board in stays d s (by_asking x s).state (asking_flow x s)
worked_leaves d c (act.Reaches w) s h =
    let x = devices_entry w s.reply s.board in stays d s (by_asking x s).state (asking_flow x s)
worked_leaves d c (act.Moves cells move to) s h = moved_leaves d cells move to c s h
worked_leaves d c (act.Knows w cells) s h = stays d s (worked c (act.Knows w cells) s).state refl
worked_leaves d c (act.Stores m cells) s h = stays d s (worked c (act.Stores m cells) s).state refl
worked_leaves d c act.Compiles s h = ([], tt, inl (refl, refl, refl))
worked_leaves d c (act.Prints text) s h = ([], tt, inl (refl, refl, refl))
worked_leaves d c (act.Appends e cells) s h =
    stays d s (appended (c.element e s.code) cells s).state
    (appended_flow (c.element e s.code).code (c.element e s.code).ended cells s)
worked_leaves d c (act.Loads size m cells) s h = ([], tt, inr (inr (inr (inl (refl, refl, tt)))))
worked_leaves d c (act.Reads text cells) s h = ([], tt, inr (inr (inr (inl (refl, refl, tt)))))
worked_leaves d c (act.Takes cells a) s h = worked_leaves d c a (with_stack cells s) h
worked_leaves d c (act.Guards cells a) s h =
    guards d cells s (worked c a (guarded cells s)).state (worked_leaves d c a (guarded cells s) h)
worked_leaves drops c (act.Enters cells d ih a) s h =
    enters drops cells d ih s (worked c a (entered cells d ih s)).state h.0
    (worked_leaves drops c a (entered cells d ih s) h.1)
worked_leaves d c (act.Opens x a) s h = worked_leaves d c a (furnished x s) h.2
worked_leaves d c (act.Refuses t) s h = stays d s s refl

pub executed_leaves : {S : Type 0} (c : Calls S) (xt : ℕ) (s : State S)
    → Leaves (drops_item (last_word (plan_in s xt))) s (executed c xt s).state
executed_leaves {S} c xt s =
    let d = drops_item (last_word (plan_in s xt)) in
    worked_leaves d c (execution xt (front_of s)) s
    (execution_works (stacking S d) tt xt s tt (λ e. inl e) (λ x e. tt))
