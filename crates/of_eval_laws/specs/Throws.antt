-- What a throw ends, and where control goes on when it is caught (Forth 2012, 9.6.1.0875, 9.6.1.2275; IEEE 1275-1994,
-- 5.3.3.1).
use Rattle.std.specs.Prelude.{◌≡◌, ℕ, suc, Bool, true, false, ◌&&◌, not, is_some, List, [], ◌∷◌, ◌++◌}
use Rattle.std.specs.Prelude.{Option, Some, None, if◌then◌else◌}
use Rattle.of_cells.specs.declared.cells.Cell.{Cell}
use Rattle.of_stacks.specs.declared.throws.Throw.{Throw}
use Rattle.of_stacks.specs.declared.return_item.Continuation.TheVariants as continuation
use Rattle.of_stacks.specs.declared.return_item.Due.{Due}
use Rattle.of_stacks.specs.declared.return_item.Due.TheVariants as due
use Rattle.of_stacks.specs.declared.return_item.ExceptionFrame.{ExceptionFrame}
use Rattle.of_stacks.specs.declared.return_item.Input.{Input}
use Rattle.of_stacks.specs.declared.return_item.Input.TheVariants as input
use Rattle.of_stacks.specs.declared.return_item.Reading.{Reading}
use Rattle.of_stacks.specs.declared.return_item.ReturnItem.{ReturnItem}
use Rattle.of_stacks.specs.declared.return_item.ReturnItem.TheVariants.{Return, Loop, User, Handler, Source, Caller}
use Rattle.of_stacks.specs.Returns.{has_due_top}
use Rattle.of_stacks.specs.Throws.{stack_overflow}
use Rattle.of_stacks.specs.Unwinding.{latest_handler, latest_source, number_cell, to_depth}
use Rattle.of_memory.specs.DataSpace.{DataSpace}
use Rattle.of_memory.specs.Growth.{with_state}
use Rattle.of_compile.specs.Defining.{abandoned}
use Rattle.of_board.specs.Active.{all_finished, image_left, no_self, with_self}
use Rattle.of_board.specs.declared.board.Board.{Board}
use Rattle.of_board.specs.Text.{fault_printed}
use Rattle.of_state.specs.State.{Calls, State, open_xt, with_board, with_items}
use Rattle.of_state.specs.Settling.{caller_self, given_back, is_full, is_same, due_left, due_throw, nothing_read}
use Rattle.of_state.specs.Settling.{package_of, settled, texts_left}

-- ---- what a throw cuts

-- whether a throw drops the item and does nothing for it
abbrev pub is_passed : ReturnItem → Bool
is_passed (Return to) = true
is_passed (Loop l) = true
is_passed (User x) = true
is_passed (Handler h) = false
is_passed (Source r) = false
is_passed (Caller d) = false

-- one more, if what is read is an image
abbrev pub image_more : Input → ℕ → ℕ
image_more input.Nothing n = n
image_more (input.Text position) n = n
image_more (input.Image size position) n = suc n

-- how many images end where these items are cut, by what is read above them: each source ends what is read above it
abbrev pub images_ended : Input → List ReturnItem → ℕ
images_ended now [] = 0
images_ended now (Source r ∷ items) = image_more now (images_ended r.input items)
images_ended now (Return to ∷ items) = images_ended now items
images_ended now (Loop l ∷ items) = images_ended now items
images_ended now (User x ∷ items) = images_ended now items
images_ended now (Handler h ∷ items) = images_ended now items
images_ended now (Caller d ∷ items) = images_ended now items

-- the board after a caller was cut: the load of an image brings back where words worked before, and releases its
-- instance and those of the `new-device`s that were opened in it
abbrev pub left_by : Due → Board → Board
left_by (due.Load active me instance count) b = image_left b count (package_of active) instance
left_by (due.Method me) b = b
left_by (due.Open me instance) b = b
left_by (due.Close me instance) b = b

-- And after these items were cut, the first of them first, by what is read above them: each source gives back the image
-- that is read above it.
abbrev pub left_through : Input → List ReturnItem → Board → Board
left_through now [] b = b
left_through now (Source r ∷ items) b = left_through r.input items (record b { memory = given_back now b.memory })
left_through now (Caller d ∷ items) b = left_through now items (left_by d b)
left_through now (Return to ∷ items) b = left_through now items b
left_through now (Loop l ∷ items) b = left_through now items b
left_through now (User x ∷ items) b = left_through now items b
left_through now (Handler h ∷ items) b = left_through now items b

-- the texts that are read when these items were cut: each source ends the text that is read above it
abbrev pub texts_through : Input → List ReturnItem → List (List ℕ) → List (List ℕ)
texts_through now [] texts = texts
texts_through now (Source r ∷ items) texts = texts_through r.input items (texts_left now texts)
texts_through now (Caller d ∷ items) texts = texts_through now items texts
texts_through now (Return to ∷ items) texts = texts_through now items texts
texts_through now (Loop l ∷ items) texts = texts_through now items texts
texts_through now (User x ∷ items) texts = texts_through now items texts
texts_through now (Handler h ∷ items) texts = texts_through now items texts

-- ---- the open definition

-- whether a definition is open that was opened since
abbrev pub is_opened_since : {S : Type 0} → Option Cell → State S → Bool
is_opened_since opened s = is_some s.words.defining && not (is_same (open_xt s) opened)

-- What is left of the open definition, if it is given up, and of the memory, of which images and blocks of instances
-- have been given back.
pub record LeavesDefinition {S : Type 0} (c : Calls S) (given_up : Bool) (freed : DataSpace) (before after : State S)
    : Type 0 where
  -- a definition that is given up is no word any more
  pub words : after.words ≡ (if given_up then abandoned before.words else before.words)
  -- and has no code
  pub code : after.code ≡ (if given_up then c.abandon before.code else before.code)
  -- words are executed then
  pub compiling : after.flow.is_compiling ≡ (if given_up then false else before.flow.is_compiling)
  -- and `state` is false; but for that the memory is as it was then
  pub memory : after.board.memory ≡ (if given_up then with_state freed false else freed)

-- ---- a throw that none takes

-- the board after all items were cut and each open `new-device` was finished
abbrev pub all_left : {S : Type 0} → State S → Board
all_left s = all_finished (left_through s.flow.reading.input s.flow.items s.board)

-- All that runs has ended.
pub record EndsAll {S : Type 0} (c : Calls S) (t : Throw) (before after : State S) : Type 0 where
  -- both stacks are empty
  pub stack : after.board.stack ≡ []
  pub items : after.flow.items ≡ []
  -- nothing runs
  pub running : after.flow.is_running ≡ false
  pub next : after.flow.next ≡ continuation.Source
  -- nothing is read
  pub reading : after.flow.reading ≡ nothing_read
  pub texts : after.flow.texts ≡ []
  -- no definition is open
  pub closed : after.words.defining ≡ None
  -- the console has the text of the throw
  pub console : after.board.console ≡ fault_printed before.board.console t
  -- each open `new-device` is finished, and no instance is current
  pub active : after.board.active ≡ (with_self (all_left before) no_self).active
  -- their instances are released, and those of the loads
  pub instances : after.board.instances ≡ (all_left before).instances
  -- the tree and the pictured text are as they were
  pub tree : after.board.tree ≡ before.board.tree
  pub pictured : after.board.pictured ≡ before.board.pictured
  -- the open definition is given up, and so are the images whose reading ended
  pub definition :
      LeavesDefinition c (is_some before.words.defining) (all_left before).memory before after

-- ---- a throw that a `catch` takes

-- the board after these items were cut
abbrev pub above_left : {S : Type 0} → List ReturnItem → State S → Board
above_left above s = left_through s.flow.reading.input above s.board

-- Control goes on behind a `catch`; above its handler stood these items, and these stand beneath.
pub record GoesOnBehind {S : Type 0} (c : Calls S) (t : Throw) (above : List ReturnItem) (h : ExceptionFrame)
    (beneath : List ReturnItem) (before after : State S) : Type 0 where
  -- the data stack has the depth that it had without the token that `catch` took, with the number of the throw on top
  pub stack : after.board.stack ≡ number_cell t ∷ to_depth h.depth before.board.stack
  -- the handler and what stood above it are gone
  pub items : after.flow.items ≡ beneath
  -- control goes on behind the `catch`
  pub next : after.flow.next ≡ h.resume
  -- and what ran runs on
  pub running : after.flow.is_running ≡ before.flow.is_running
  -- what is read is what the lowest source that was cut set aside
  pub reading :
      (higher lower : List ReturnItem) (r : Reading) → above ≡ higher ++ Source r ∷ lower →
      latest_source lower ≡ None → after.flow.reading ≡ r
  -- or as it was where none was cut
  pub reads_on : latest_source above ≡ None → after.flow.reading ≡ before.flow.reading
  -- and no text is read any more whose reading ended
  pub texts : after.flow.texts ≡ texts_through before.flow.reading.input above before.flow.texts
  -- a definition that was open at the `catch` is open, and no other
  pub opened :
      after.words.defining ≡ (if is_same (open_xt before) h.opened then before.words.defining else None)
  -- words work where they did before the loads that were cut, for the instance that was current at the `catch`
  pub active : after.board.active ≡ (with_self (above_left above before) h.my_self).active
  -- the instances of these loads are released
  pub instances : after.board.instances ≡ (above_left above before).instances
  -- the console, the tree and the pictured text are as they were
  pub console : after.board.console ≡ before.board.console
  pub tree : after.board.tree ≡ before.board.tree
  pub pictured : after.board.pictured ≡ before.board.pictured
  -- a definition that was opened since is given up, and so are the images whose reading ended
  pub definition :
      LeavesDefinition c (is_opened_since h.opened before) (above_left above before).memory before after

-- A state comes of what is due beneath the `catch` behind which control goes on.
pub record IsCaught {S : Type 0} (c : Calls S) (t : Throw) (above : List ReturnItem) (h : ExceptionFrame)
    (beneath : List ReturnItem) (before after : State S) : Type 0 where
  -- the state behind the `catch`
  pub behind : State S
  pub goes_on : GoesOnBehind c t above h beneath before behind
  -- what is due beneath it is worked off from there
  pub worked_off : after ≡ settled c beneath None behind

-- ---- the law

-- What is due and what is thrown at the end of a step, over any code of definitions.
pub record ThrowsSettle (S : Type 0) : Type 0 where
  -- Where nothing was thrown and nothing is due on top, the state is as it was.
  pub rests :
      (c : Calls S) (s : State S) → has_due_top s.flow.items ≡ false → settled c s.flow.items None s ≡ s
  -- A `catch` whose word has ended leaves 0, if there is room.
  pub leaves_nought :
      (c : Calls S) (h : ExceptionFrame) (r : List ReturnItem) (s : State S) → is_full s ≡ false →
      settled c (Handler h ∷ r) None s
      ≡ settled c r None
      (record (with_items r s) { board = record s.board { stack = record { 0 = 0 } ∷ s.board.stack } })
  -- Where there is none, it catches that.
  pub no_room :
      (c : Calls S) (h : ExceptionFrame) (r : List ReturnItem) (s : State S) → is_full s ≡ true →
      IsCaught c stack_overflow [] h r s (settled c (Handler h ∷ r) None s)
  -- A caller brings back the current instance, and the load of an image where words worked before; an instance that was
  -- closed is released, and one that was opened is what its `open` answers. Where that has left nothing, it is thrown.
  pub brings_back :
      (c : Calls S) (d : Due) (r : List ReturnItem) (s : State S) →
      settled c (Caller d ∷ r) None s
      ≡ settled c r (due_throw d s)
      (due_left d (with_board (with_self s.board (caller_self d)) (with_items r s)))
  -- A throw passes returns, loops and cells of the program: what lies beneath decides.
  pub passes :
      (c : Calls S) (item : ReturnItem) (r : List ReturnItem) (t : Throw) (s : State S) → is_passed item ≡ true →
      settled c (item ∷ r) (Some t) s ≡ settled c r (Some t) (with_items r s)
  -- Where no `catch` waits, a throw ends all that runs.
  pub ends :
      (c : Calls S) (t : Throw) (s : State S) → latest_handler s.flow.items ≡ None →
      EndsAll c t s (settled c s.flow.items (Some t) s)
  -- Else the latest `catch` takes it.
  pub caught :
      (c : Calls S) (t : Throw) (above beneath : List ReturnItem) (h : ExceptionFrame) (s : State S) →
      s.flow.items ≡ above ++ Handler h ∷ beneath → latest_handler above ≡ None →
      IsCaught c t above h beneath s (settled c s.flow.items (Some t) s)
