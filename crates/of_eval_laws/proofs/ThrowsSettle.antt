-- The law `throws_settle`: what a throw gives back of each item that it cuts, and what is left where it ends.
use Rattle.std.proofs.Common.{◌≡◌, ℕ, Bool, true, false, ◌&&◌, not, List, [], ◌∷◌, ◌++◌, Option, Some, None}
use Rattle.std.proofs.Common.{is_some, refl, sym, ap, ◌∙◌, subst, if◌then◌else◌}
use Rattle.std.proofs.lemmas.List.{append-nil}
use Rattle.of_stacks.specs.declared.throws.Throw.{Throw}
use Rattle.of_stacks.specs.declared.return_item.Due.{Due}
use Rattle.of_stacks.specs.declared.return_item.Due.TheVariants as due
use Rattle.of_stacks.specs.declared.return_item.ExceptionFrame.{ExceptionFrame}
use Rattle.of_stacks.specs.declared.return_item.Input.{Input}
use Rattle.of_stacks.specs.declared.return_item.Reading.{Reading}
use Rattle.of_stacks.specs.declared.return_item.ReturnItem.{ReturnItem}
use Rattle.of_stacks.specs.declared.return_item.ReturnItem.TheVariants.{Return, Loop, User, Handler, Source, Caller}
use Rattle.of_stacks.specs.Returns.{has_due_top}
use Rattle.of_stacks.specs.Throws.{stack_overflow}
use Rattle.of_stacks.specs.Unwinding.{latest_handler, latest_source, number_cell, to_depth}
use Rattle.of_board.specs.Active.{all_finished, finished_from, with_self}
use Rattle.of_board.specs.Text.{fault_printed}
use Rattle.of_board.specs.declared.active.NewDevice.{NewDevice}
use Rattle.of_board.specs.declared.board.Board.{Board}
use Rattle.of_compile.specs.Defining.{abandoned, dropped}
use Rattle.of_compile.specs.Words.{WordsState}
use Rattle.of_state.specs.State.{Calls, State, open_xt, with_board, with_compiling, with_items}
use Rattle.of_state.specs.Settling.{caller_self, caught, fallen, given_back, is_full, is_same, reading_on}
use Rattle.of_state.specs.Settling.{due_left, due_throw, resumed, settled, uncaught}
use Rattle.of_eval_laws.specs.Throws.{EndsAll, GoesOnBehind, IsCaught, LeavesDefinition, ThrowsSettle, above_left}
use Rattle.of_eval_laws.specs.Throws.{all_left, is_opened_since, is_passed, left_by, left_through, texts_through}

-- ---- nothing is due

nothing_due : {S : Type 0} (c : Calls S) (items : List ReturnItem) (s : State S) → has_due_top items ≡ false
    → settled c items None s ≡ s
unfolding settled
nothing_due c [] s h = refl
nothing_due c (item ∷ r) s h = rw h refl

-- ---- what is read

-- what is read on with where these items are cut
abbrev reading_then : List ReturnItem → Reading → Reading
reading_then [] now = now
reading_then (Source r ∷ items) now = reading_then items r
reading_then (Return to ∷ items) now = reading_then items now
reading_then (Loop l ∷ items) now = reading_then items now
reading_then (User x ∷ items) now = reading_then items now
reading_then (Handler h ∷ items) now = reading_then items now
reading_then (Caller d ∷ items) now = reading_then items now

reads_on : (items : List ReturnItem) (now : Reading) → latest_source items ≡ None → reading_then items now ≡ now
unfolding latest_source
reads_on [] now e = refl
reads_on (Source r ∷ items) now e = absurd cc
reads_on (Return to ∷ items) now e = reads_on items now e
reads_on (Loop l ∷ items) now e = reads_on items now e
reads_on (User x ∷ items) now e = reads_on items now e
reads_on (Handler h ∷ items) now e = reads_on items now e
reads_on (Caller d ∷ items) now e = reads_on items now e

reads_lowest : (higher lower : List ReturnItem) (r now : Reading) → latest_source lower ≡ None
    → reading_then (higher ++ Source r ∷ lower) now ≡ r
reads_lowest [] lower r now e = reads_on lower r e
reads_lowest (Source x ∷ higher) lower r now e = reads_lowest higher lower r x e
reads_lowest (Return to ∷ higher) lower r now e = reads_lowest higher lower r now e
reads_lowest (Loop l ∷ higher) lower r now e = reads_lowest higher lower r now e
reads_lowest (User x ∷ higher) lower r now e = reads_lowest higher lower r now e
reads_lowest (Handler h ∷ higher) lower r now e = reads_lowest higher lower r now e
reads_lowest (Caller d ∷ higher) lower r now e = reads_lowest higher lower r now e

-- ---- items that are cut

-- the state without these items, over the rest
abbrev cut_state : {S : Type 0} → List ReturnItem → List ReturnItem → State S → State S
cut_state above rest s = record s {
  board = above_left above s;
  flow = record s.flow {
    items = rest;
    reading = reading_then above s.flow.reading;
    texts = texts_through s.flow.reading.input above s.flow.texts;
  };
}

-- what a cut leaves of the board as it was
record IsKept (b after : Board) : Type 0 where
  pub stack : after.stack ≡ b.stack
  pub pictured : after.pictured ≡ b.pictured
  pub console : after.console ≡ b.console
  pub tree : after.tree ≡ b.tree

all_kept : (b : Board) → IsKept b b
all_kept b = record { stack = refl; pictured = refl; console = refl; tree = refl }

then_kept : (a b c : Board) → IsKept a b → IsKept b c → IsKept a c
then_kept a b c h k = record {
  stack = k.stack ∙ h.stack;
  pictured = k.pictured ∙ h.pictured;
  console = k.console ∙ h.console;
  tree = k.tree ∙ h.tree;
}

left_kept : (d : Due) (b : Board) → IsKept b (left_by d b)
left_kept (due.Load active me instance count) b = record { stack = refl; pictured = refl; console = refl; tree = refl }
left_kept (due.Method me) b = all_kept b
left_kept (due.Open me instance) b = all_kept b
left_kept (due.Close me instance) b = all_kept b

cut_kept : (now : Input) (items : List ReturnItem) (b : Board) → IsKept b (left_through now items b)
cut_kept now [] b = all_kept b
cut_kept now (Source r ∷ items) b =
    let freed : Board = record b { memory = given_back now b.memory } in
    then_kept b freed (left_through r.input items freed)
    (record { stack = refl; pictured = refl; console = refl; tree = refl }) (cut_kept r.input items freed)
cut_kept now (Caller d ∷ items) b =
    then_kept b (left_by d b) (left_through now items (left_by d b)) (left_kept d b) (cut_kept now items (left_by d b))
cut_kept now (Return to ∷ items) b = cut_kept now items b
cut_kept now (Loop l ∷ items) b = cut_kept now items b
cut_kept now (User x ∷ items) b = cut_kept now items b
cut_kept now (Handler h ∷ items) b = cut_kept now items b

finished_kept : (b : Board) (ds : List NewDevice) → IsKept b (finished_from b ds)
finished_kept b [] = all_kept b
finished_kept b (d ∷ ds) = record { stack = refl; pictured = refl; console = refl; tree = refl }

all_left_kept : {S : Type 0} (s : State S) → IsKept s.board (all_left s)
all_left_kept s =
    let cut = left_through s.flow.reading.input s.flow.items s.board in
    then_kept s.board cut (all_finished cut) (cut_kept s.flow.reading.input s.flow.items s.board)
    (finished_kept cut cut.active.new_devices.opened)

cuts_through : {S : Type 0} (c : Calls S) (above rest : List ReturnItem) (t : Throw) (s : State S)
    → latest_handler above ≡ None → s.flow.items ≡ above ++ rest
    → settled c (above ++ rest) (Some t) s ≡ settled c rest (Some t) (cut_state above rest s)
unfolding settled latest_handler
cuts_through c [] rest t s none e = ap (λ r. settled c rest (Some t) (with_items r s)) e
cuts_through c (Return to ∷ above) rest t s none e =
    cuts_through c above rest t (with_items (above ++ rest) s) none refl
cuts_through c (Loop l ∷ above) rest t s none e = cuts_through c above rest t (with_items (above ++ rest) s) none refl
cuts_through c (User x ∷ above) rest t s none e = cuts_through c above rest t (with_items (above ++ rest) s) none refl
cuts_through c (Handler h ∷ above) rest t s none e = absurd cc
cuts_through c (Source r ∷ above) rest t s none e =
    cuts_through c above rest t (reading_on r (with_items (above ++ rest) s)) none refl
cuts_through c (Caller (due.Load active me instance count) ∷ above) rest t s none e =
    let load = Caller (due.Load active me instance count) ∷ [] in
    cuts_through c above rest t (cut_state load (above ++ rest) s) none refl
cuts_through c (Caller (due.Method me) ∷ above) rest t s none e =
    cuts_through c above rest t (with_items (above ++ rest) s) none refl
cuts_through c (Caller (due.Open me instance) ∷ above) rest t s none e =
    cuts_through c above rest t (with_items (above ++ rest) s) none refl
cuts_through c (Caller (due.Close me instance) ∷ above) rest t s none e =
    cuts_through c above rest t (with_items (above ++ rest) s) none refl

-- ---- the open definition

-- the state without the open definition
abbrev closed : {S : Type 0} → Calls S → State S → State S
closed c s = with_compiling false (record s { words = abandoned s.words; code = c.abandon s.code })

-- what is so of both is so of either
either : {S : Type 0} {A : Type 0} (f : State S → A) (b : Bool) (x y : State S) (v : A) → f x ≡ v → f y ≡ v
    → f (if b then x else y) ≡ v
either f true x y v ex ey = ex
either f false x y v ex ey = ey

branches : {S : Type 0} {A : Type 0} (f : State S → A) (b : Bool) (x y : State S) (v w : A) → f x ≡ v → f y ≡ w
    → f (if b then x else y) ≡ (if b then v else w)
branches f true x y v w ex ey = ex
branches f false x y v w ex ey = ey

chosen : {S : Type 0} (b d : Bool) (x y : State S)
    → (if b then y else if d then x else y) ≡ (if d && not b then x else y)
chosen true true x y = refl
chosen true false x y = refl
chosen false true x y = refl
chosen false false x y = refl

-- a definition that is given up is open no more
given_closed : (b : Bool) (o : Option ℕ) (w : WordsState) → w.defining ≡ o
    → (if is_some o && not b then dropped o w else w).defining ≡ (if b then o else None)
given_closed true None w e = e
given_closed true (Some n) w e = e
given_closed false None w e = e
given_closed false (Some n) w e = refl

all_closed : (o : Option ℕ) (w : WordsState) → w.defining ≡ o
    → (if is_some o then dropped o w else w).defining ≡ None
all_closed None w e = e
all_closed (Some n) w e = refl

-- what is left of a state whose words, code and compiling are those from before, and whose data space this is
leaves : {S : Type 0} (c : Calls S) (b : Bool) (s m : State S) → m.words ≡ s.words → m.code ≡ s.code
    → m.flow.is_compiling ≡ s.flow.is_compiling
    → LeavesDefinition c b m.board.memory s (if b then closed c m else m)
leaves c b s m ew ec ef = record {
  words = branches (λ x. x.words) b _ _ _ _ (ap abandoned ew) ew;
  code = branches (λ x. x.code) b _ _ _ _ (ap c.abandon ec) ec;
  compiling = branches (λ x. x.flow.is_compiling) b _ _ _ _ refl ef;
  memory = branches (λ x. x.board.memory) b _ _ _ _ refl refl;
}

-- ---- a throw that none takes

ends_all : {S : Type 0} (c : Calls S) (t : Throw) (s : State S)
    → EndsAll c t s (uncaught c t (cut_state s.flow.items [] s))
ends_all c t s =
    let m = fallen t (cut_state s.flow.items [] s) in
    let b = is_some s.words.defining in
    let left = leaves c b s m refl refl refl in
    let kept = all_left_kept s in
    let cut = cut_kept s.flow.reading.input s.flow.items s.board in
    record {
      stack = either (λ x. x.board.stack) b (closed c m) m _ refl refl;
      items = either (λ x. x.flow.items) b (closed c m) m _ refl refl;
      running = either (λ x. x.flow.is_running) b (closed c m) m _ refl refl;
      next = either (λ x. x.flow.next) b (closed c m) m _ refl refl;
      reading = either (λ x. x.flow.reading) b (closed c m) m _ refl refl;
      texts = either (λ x. x.flow.texts) b (closed c m) m _ refl refl;
      closed = ap (λ w. w.defining) left.words ∙ all_closed s.words.defining s.words refl;
      console =
          let said = ap (λ x. fault_printed x t) cut.console in
          either (λ x. x.board.console) b (closed c m) m _ said said;
      active = either (λ x. x.board.active) b (closed c m) m _ refl refl;
      instances = either (λ x. x.board.instances) b (closed c m) m _ refl refl;
      tree = either (λ x. x.board.tree) b (closed c m) m _ kept.tree kept.tree;
      pictured = either (λ x. x.board.pictured) b (closed c m) m _ kept.pictured kept.pictured;
      definition = left;
    }

none_takes : {S : Type 0} (c : Calls S) (t : Throw) (s : State S) → latest_handler s.flow.items ≡ None
    → settled c s.flow.items (Some t) s ≡ uncaught c t (cut_state s.flow.items [] s)
unfolding settled
none_takes c t s none =
    let whole : s.flow.items ≡ s.flow.items ++ [] = sym (append-nil s.flow.items) in
    ap (λ r. settled c r (Some t) s) whole ∙ cuts_through c s.flow.items [] t s none whole

-- ---- a throw that a `catch` takes

lowest : (above higher lower : List ReturnItem) (r now : Reading) → above ≡ higher ++ Source r ∷ lower
    → latest_source lower ≡ None → reading_then above now ≡ r
lowest above higher lower r now e none =
    ap (λ x. reading_then x now) e ∙ reads_lowest higher lower r now none

goes_on : {S : Type 0} (c : Calls S) (t : Throw) (above : List ReturnItem) (h : ExceptionFrame)
    (beneath : List ReturnItem) (s : State S)
    → GoesOnBehind c t above h beneath s
    (if is_opened_since h.opened s then closed c (resumed h t (cut_state above beneath s))
    else resumed h t (cut_state above beneath s))
goes_on c t above h beneath s =
    let m = resumed h t (cut_state above beneath s) in
    let b = is_opened_since h.opened s in
    let left = leaves c b s m refl refl refl in
    let kept = cut_kept s.flow.reading.input above s.board in
    let depth = ap (λ x. number_cell t ∷ to_depth h.depth x) kept.stack in
    record {
      stack = either (λ x. x.board.stack) b (closed c m) m _ depth depth;
      items = either (λ x. x.flow.items) b (closed c m) m _ refl refl;
      next = either (λ x. x.flow.next) b (closed c m) m _ refl refl;
      running = either (λ x. x.flow.is_running) b (closed c m) m _ refl refl;
      reading = λ higher lower r e none.
          let found = lowest above higher lower r s.flow.reading e none in
          either (λ x. x.flow.reading) b (closed c m) m r found found;
      reads_on = λ none.
          let kept = reads_on above s.flow.reading none in
          either (λ x. x.flow.reading) b (closed c m) m s.flow.reading kept kept;
      texts = either (λ x. x.flow.texts) b (closed c m) m _ refl refl;
      opened =
          ap (λ w. w.defining) left.words
          ∙ given_closed (is_same (open_xt s) h.opened) s.words.defining s.words refl;
      active = either (λ x. x.board.active) b (closed c m) m _ refl refl;
      instances = either (λ x. x.board.instances) b (closed c m) m _ refl refl;
      console = either (λ x. x.board.console) b (closed c m) m _ kept.console kept.console;
      tree = either (λ x. x.board.tree) b (closed c m) m _ kept.tree kept.tree;
      pictured = either (λ x. x.board.pictured) b (closed c m) m _ kept.pictured kept.pictured;
      definition = left;
    }

caught_is : {S : Type 0} (c : Calls S) (t : Throw) (above : List ReturnItem) (h : ExceptionFrame)
    (beneath : List ReturnItem) (s : State S)
    → caught c h t (cut_state above beneath s)
    ≡ (if is_opened_since h.opened s then closed c (resumed h t (cut_state above beneath s))
    else resumed h t (cut_state above beneath s))
caught_is c t above h beneath s = chosen (is_same (open_xt s) h.opened) (is_some s.words.defining) _ _

takes : {S : Type 0} (c : Calls S) (t : Throw) (above : List ReturnItem) (h : ExceptionFrame)
    (beneath : List ReturnItem) (s : State S) → s.flow.items ≡ above ++ Handler h ∷ beneath
    → latest_handler above ≡ None
    → settled c s.flow.items (Some t) s ≡ settled c beneath None (caught c h t (cut_state above beneath s))
unfolding settled
takes c t above h beneath s e none =
    ap (λ r. settled c r (Some t) s) e ∙ cuts_through c above (Handler h ∷ beneath) t s none e

is_caught : {S : Type 0} (c : Calls S) (t : Throw) (above : List ReturnItem) (h : ExceptionFrame)
    (beneath : List ReturnItem) (s after : State S)
    → after ≡ settled c beneath None (caught c h t (cut_state above beneath s)) → IsCaught c t above h beneath s after
is_caught c t above h beneath s after e = record {
  behind = _;
  goes_on = goes_on c t above h beneath s;
  worked_off = e ∙ ap (λ x. settled c beneath None x) (caught_is c t above h beneath s);
}

-- ---- one item

full_caught : {S : Type 0} (c : Calls S) (h : ExceptionFrame) (r : List ReturnItem) (s : State S) → is_full s ≡ true
    → settled c (Handler h ∷ r) None s ≡ settled c r None (caught c h stack_overflow (cut_state [] r s))
unfolding settled
full_caught c h r s e = rw e refl

nought_left : {S : Type 0} (c : Calls S) (h : ExceptionFrame) (r : List ReturnItem) (s : State S) → is_full s ≡ false
    → settled c (Handler h ∷ r) None s
    ≡ settled c r None
    (record (with_items r s) { board = record s.board { stack = record { 0 = 0 } ∷ s.board.stack } })
unfolding settled
nought_left c h r s e = rw e refl

called_back : {S : Type 0} (c : Calls S) (d : Due) (r : List ReturnItem) (s : State S)
    → settled c (Caller d ∷ r) None s
    ≡ settled c r (due_throw d s) (due_left d (with_board (with_self s.board (caller_self d)) (with_items r s)))
unfolding settled
called_back c d r s = refl

passes : {S : Type 0} (c : Calls S) (item : ReturnItem) (r : List ReturnItem) (t : Throw) (s : State S)
    → is_passed item ≡ true → settled c (item ∷ r) (Some t) s ≡ settled c r (Some t) (with_items r s)
unfolding settled
passes c (Return to) r t s e = refl
passes c (Loop l) r t s e = refl
passes c (User x) r t s e = refl
passes c (Handler h) r t s e = absurd cc
passes c (Source x) r t s e = absurd cc
passes c (Caller d) r t s e = absurd cc

-- ---- the law

pub throws_settle : (S : Type 0) → ThrowsSettle S
throws_settle S = record {
  rests = λ c s h. nothing_due c s.flow.items s h;
  leaves_nought = λ c h r s e. nought_left c h r s e;
  no_room = λ c h r s e. is_caught c stack_overflow [] h r s _ (full_caught c h r s e);
  brings_back = λ c d r s. called_back c d r s;
  passes = λ c item r t s e. passes c item r t s e;
  ends = λ c t s none. subst (λ x. EndsAll c t s x) (sym (none_takes c t s none)) (ends_all c t s);
  caught = λ c t above beneath h s e none. is_caught c t above h beneath s _ (takes c t above h beneath s e none);
}
