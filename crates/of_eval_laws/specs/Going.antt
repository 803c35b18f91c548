-- Where control goes on, and what stays as it was: items of definitions, `execute` and `catch`, the end of an image,
-- and an image that begins, a sentence a field (Forth 2012, 3.2.3.3, 6.1.0140, 6.1.1240, 6.1.1370, 6.1.1800, 6.2.0620,
-- 6.2.0873, 9.6.1.0875; IEEE 1275-1994, 5.2.2.5, 5.3.3.1).
use Rattle.std.specs.Prelude.{◌≡◌, ℕ, ◌<◌, ◌≤◌, true, false, List, [], ◌∷◌, ◌++◌, length, Some, None, Ok, Err}
use Rattle.std.specs.Prelude.{if◌then◌else◌}
use Rattle.of_cells.specs.declared.cells.Cell.{Cell}
use Rattle.of_cells.specs.Arithmetic.{plus}
use Rattle.of_code.specs.declared.item.Item.{Item}
use Rattle.of_code.specs.declared.item.Item.TheVariants as item
use Rattle.of_code.specs.declared.item.Place.{Place}
use Rattle.of_stacks.specs.declared.return_item.Continuation.{Continuation}
use Rattle.of_stacks.specs.declared.return_item.Continuation.TheVariants as continuation
use Rattle.of_stacks.specs.declared.return_item.ExceptionFrame.{ExceptionFrame}
use Rattle.of_stacks.specs.declared.return_item.LoopExit.TheVariants as exit
use Rattle.of_stacks.specs.declared.return_item.LoopParameters.{LoopParameters}
use Rattle.of_stacks.specs.declared.return_item.Reading.{Reading}
use Rattle.of_stacks.specs.declared.return_item.ReturnItem.{ReturnItem}
use Rattle.of_stacks.specs.declared.return_item.ReturnItem.TheVariants.{Handler, Loop, Return, Source}
use Rattle.of_stacks.specs.declared.throws.Throw.{Throw}
use Rattle.of_stacks.specs.Loops.{loop_on_top, passes_limit}
use Rattle.of_stacks.specs.Returns.{return_on_top}
use Rattle.of_stacks.specs.Throws.{bad_handle, compiler_nesting, loop_unavailable, return_stack_imbalance}
use Rattle.of_stacks.specs.Throws.{return_stack_overflow, stack_underflow}
use Rattle.of_stacks.specs.Unwinding.{latest_source}
use Rattle.of_fcodes.specs.declared.words.ReturnsWord.TheVariants as returns
use Rattle.of_fcodes.specs.declared.words.ThrowsWord.TheVariants as throws
use Rattle.of_fcodes.specs.declared.words.Word.{Word}
use Rattle.of_fcodes.specs.declared.words.Word.TheVariants as word
use Rattle.of_fcodes.specs.Finding.{word_with_xt}
use Rattle.of_ihandles.specs.Table.{InstanceTable}
use Rattle.of_memory.specs.DataSpace.{DataSpace}
use Rattle.of_memory.specs.Growth.{image_pushed}
use Rattle.of_nodes.specs.declared.phandles.Phandle.{Phandle}
use Rattle.of_control.specs.Running.{Point, step_from}
use Rattle.of_compile.specs.declared.element.PlainItem.{PlainItem}
use Rattle.of_compile.specs.Structured.{Definitions, Spot, is_return, point_place, taken_item}
use Rattle.of_compile.specs.Coding.{past}
use Rattle.of_compile.specs.RunsLaw.{IsReached}
use Rattle.of_compile.specs.Words.{is_word}
use Rattle.of_eval.specs.Doing.{executed}
use Rattle.of_flow.specs.Turns.{loop_item, one}
use Rattle.of_state.specs.Loading.{begun_by, image_copied, load_caller}
use Rattle.of_state.specs.Settling.{ended, ends_inside, is_line, source_ended}
use Rattle.of_state.specs.State.{Calls, State, done, failed, given_up, open_xt, with_items, with_next, with_stack}
use Rattle.of_steps.specs.Steps.{due, item_done}
use Rattle.of_eval_laws.specs.Structured.{structured_calls}
use Rattle.of_own.specs.Defers.{executable}

-- a state with these cells on the data stack and these items on the return stack
abbrev pub on : {S : Type 0} → List Cell → List ReturnItem → State S → State S
on cells r s = with_stack cells (with_items r s)

-- control goes on at a place of a definition
abbrev pub gone : {S : Type 0} → Place → State S → State S
gone to s = with_next (continuation.Code to.cell) s

-- an item makes this of a state, or throws and changes nothing
abbrev pub Makes : {S : Type 0} → Calls S → Item → State S → State S → Type 0
Makes c i s n = item_done c i s ≡ done n

abbrev pub Throws : {S : Type 0} → Calls S → Item → State S → Throw → Type 0
Throws c i s t = item_done c i s ≡ failed t s

-- ---- items of definitions

-- What each item of control makes of both stacks, and where control goes on: at its target only where it is said so.
pub record ItemsGo (S : Type 0) : Type 0 where
  -- a branch goes to its target
  pub branch : (c : Calls S) (to : Place) (s : State S) → Makes c (item.Branch to) s (gone to s)
  -- one on zero takes a cell, and goes there where that is 0
  pub on_zero :
      (c : Calls S) (to : Place) (s : State S) (x : Cell) (cells : List Cell) → x.0 ≡ 0 →
      Makes c (item.BranchIfZero to) (with_stack (x ∷ cells) s) (gone to (with_stack cells s))
  pub not_zero :
      (c : Calls S) (to : Place) (s : State S) (x : Cell) (cells : List Cell) → (x.0 ≡ 0 → ⊥) →
      Makes c (item.BranchIfZero to) (with_stack (x ∷ cells) s) (with_stack cells s)
  -- `do` begins a loop, whose exit is its target
  pub begins :
      (c : Calls S) (to : Place) (s : State S) (index limit : Cell) (cells : List Cell) (r : List ReturnItem) →
      length r < 256 →
      Makes c (item.Do to) (on (index ∷ limit ∷ cells) r s)
      (on cells (loop_item index limit (exit.Code to.cell) ∷ r) s)
  -- so does `?do` of two numbers that aren't equal
  pub asks :
      (c : Calls S) (to : Place) (s : State S) (index limit : Cell) (cells : List Cell) (r : List ReturnItem) →
      (index.0 ≡ limit.0 → ⊥) → length r < 256 →
      Makes c (item.QuestionDo to) (on (index ∷ limit ∷ cells) r s)
      (on cells (loop_item index limit (exit.Code to.cell) ∷ r) s)
  -- `?do` of equal numbers goes past its loop
  pub skips :
      (c : Calls S) (to : Place) (s : State S) (index limit : Cell) (cells : List Cell) → index.0 ≡ limit.0 →
      Makes c (item.QuestionDo to) (with_stack (index ∷ limit ∷ cells) s) (gone to (with_stack cells s))
  -- a loop that goes on goes to its target, with the next index
  pub repeats :
      (c : Calls S) (to : Place) (s : State S) (l : LoopParameters) (r : List ReturnItem) →
      passes_limit l.index l.limit one ≡ false →
      Makes c (item.Loop to) (with_items (Loop l ∷ r) s)
      (gone to (with_items (Loop (record l { index = plus l.index one }) ∷ r) s))
  -- one that passes its limit ends
  pub ends :
      (c : Calls S) (to : Place) (s : State S) (l : LoopParameters) (r : List ReturnItem) →
      passes_limit l.index l.limit one ≡ true →
      Makes c (item.Loop to) (with_items (Loop l ∷ r) s) (with_items r s)
  -- the same with a step that is taken from the data stack
  pub repeats_by :
      (c : Calls S) (to : Place) (s : State S) (l : LoopParameters) (step : Cell) (cells : List Cell)
      (r : List ReturnItem) →
      passes_limit l.index l.limit step ≡ false →
      Makes c (item.PlusLoop to) (on (step ∷ cells) (Loop l ∷ r) s)
      (gone to (on cells (Loop (record l { index = plus l.index step }) ∷ r) s))
  pub ends_by :
      (c : Calls S) (to : Place) (s : State S) (l : LoopParameters) (step : Cell) (cells : List Cell)
      (r : List ReturnItem) →
      passes_limit l.index l.limit step ≡ true →
      Makes c (item.PlusLoop to) (on (step ∷ cells) (Loop l ∷ r) s) (on cells r s)
  -- `leave` drops the loop on top, and goes to its own target, whatever the exit of that loop
  pub leaves :
      (c : Calls S) (to : Place) (s : State S) (l : LoopParameters) (r : List ReturnItem) →
      Makes c (item.Leave to) (with_items (Loop l ∷ r) s) (gone to (with_items r s))
  -- `of` drops two equal numbers and goes on; else it drops the upper one and goes to its target
  pub same :
      (c : Calls S) (to : Place) (s : State S) (y x : Cell) (cells : List Cell) → x.0 ≡ y.0 →
      Makes c (item.Of to) (with_stack (y ∷ x ∷ cells) s) (with_stack cells s)
  pub another :
      (c : Calls S) (to : Place) (s : State S) (y x : Cell) (cells : List Cell) → (x.0 ≡ y.0 → ⊥) →
      Makes c (item.Of to) (with_stack (y ∷ x ∷ cells) s) (gone to (with_stack (x ∷ cells) s))
  -- `endof` goes to its target, and `endcase` drops a cell
  pub arm : (c : Calls S) (to : Place) (s : State S) → Makes c (item.EndOf to) s (gone to s)
  pub case :
      (c : Calls S) (s : State S) (x : Cell) (cells : List Cell) →
      Makes c item.EndCase (with_stack (x ∷ cells) s) (with_stack cells s)
  -- a return goes where the return on top says
  pub returned :
      (c : Calls S) (to : Continuation) (s : State S) (r : List ReturnItem) →
      Makes c item.Return (with_items (Return to ∷ r) s) (with_next to (with_items r s))

-- What they throw: -4 with too few cells, whatever stands on the return stack, -26 without a loop on top, -25 without a
-- return on top, and -5 where the return stack is full.
pub record ItemsThrow (S : Type 0) : Type 0 where
  pub no_flag :
      (c : Calls S) (to : Place) (s : State S) →
      Throws c (item.BranchIfZero to) (with_stack [] s) stack_underflow
  pub no_step : (c : Calls S) (to : Place) (s : State S) → Throws c (item.PlusLoop to) (with_stack [] s) stack_underflow
  pub no_case : (c : Calls S) (s : State S) → Throws c item.EndCase (with_stack [] s) stack_underflow
  pub no_loop :
      (c : Calls S) (to : Place) (s : State S) → loop_on_top s.flow.items ≡ Err loop_unavailable →
      Throws c (item.Loop to) s loop_unavailable
  pub no_loop_by :
      (c : Calls S) (to : Place) (s : State S) (step : Cell) (cells : List Cell) →
      loop_on_top s.flow.items ≡ Err loop_unavailable →
      Throws c (item.PlusLoop to) (with_stack (step ∷ cells) s) loop_unavailable
  pub no_loop_left :
      (c : Calls S) (to : Place) (s : State S) → loop_on_top s.flow.items ≡ Err loop_unavailable →
      Throws c (item.Leave to) s loop_unavailable
  pub no_return :
      (c : Calls S) (s : State S) → return_on_top s.flow.items ≡ Err return_stack_imbalance →
      Throws c item.Return s return_stack_imbalance
  pub full :
      (c : Calls S) (to : Place) (s : State S) (index limit : Cell) (cells : List Cell) → 256 ≤ length s.flow.items →
      Throws c (item.Do to) (with_stack (index ∷ limit ∷ cells) s) return_stack_overflow

-- A definition runs as its structure reads: where control stands at the place of a point that is reached in the body of
-- a finished word, the item is done that the structure takes there, behind which control goes on at the next point.
pub record DefinitionsRun : Type 0 where
  pub points :
      (s : State Definitions) (cell : ℕ) (w : Spot) (q : Point PlainItem) (qs : List (Point PlainItem)) →
      IsReached s.code cell w q qs →
      let t = step_from w.body q in
      due structured_calls (continuation.Code (point_place w q).cell) s
      ≡ item_done structured_calls (taken_item (point_place w) t.taken)
      (gone (if is_return t.taken then past (point_place w q) 1 else point_place w t.next) s)

-- ---- `execute` and `catch`

-- the word of an execution token is this written one, behind the defers
abbrev pub Is : {S : Type 0} → State S → ℕ → Word → Type 0
Is s xt x = (k : ℕ) × (executable s.words s.board xt ≡ Ok k) × (word_with_xt k ≡ Some x)

-- What `execute` and `catch` do before the word of the cell that they take.
pub record CatchKeeps (S : Type 0) : Type 0 where
  -- `execute` takes the cell of a word, and runs that; a number that is no word is refused, and stays
  pub runs :
      (c : Calls S) (xt : ℕ) (x : Cell) (cells : List Cell) (s : State S) →
      Is (with_stack (x ∷ cells) s) xt (word.Returns returns.Execute) → is_word s.words.dictionary x.0 ≡ true →
      executed c xt (with_stack (x ∷ cells) s) ≡ executed c x.0 (with_stack cells s)
  pub refuses :
      (c : Calls S) (xt : ℕ) (x : Cell) (cells : List Cell) (s : State S) →
      Is (with_stack (x ∷ cells) s) xt (word.Returns returns.Execute) → is_word s.words.dictionary x.0 ≡ false →
      executed c xt (with_stack (x ∷ cells) s) ≡ failed bad_handle (with_stack (x ∷ cells) s)
  -- `catch` takes any cell and keeps, beneath what its word pushes, the depth of the data stack without it, the current
  -- instance, the open definition, and where control goes on; all else is as it was
  pub keeps :
      (c : Calls S) (xt : ℕ) (x : Cell) (cells : List Cell) (s : State S) →
      Is (with_stack (x ∷ cells) s) xt (word.Throws throws.Catch) → length s.flow.items < 256 →
      (h : ExceptionFrame)
      × (executed c xt (with_stack (x ∷ cells) s) ≡ executed c x.0 (on cells (Handler h ∷ s.flow.items) s))
      × (h.depth ≡ length cells) × (h.my_self ≡ s.board.active.my_self) × (h.opened ≡ open_xt s)
      × (h.resume ≡ s.flow.next)
  -- where the return stack is full it throws -5
  pub full :
      (c : Calls S) (xt : ℕ) (x : Cell) (cells : List Cell) (s : State S) →
      Is (with_stack (x ∷ cells) s) xt (word.Throws throws.Catch) → 256 ≤ length s.flow.items →
      executed c xt (with_stack (x ∷ cells) s) ≡ failed return_stack_overflow (with_stack (x ∷ cells) s)
  -- without a cell both throw -4
  pub no_execute :
      (c : Calls S) (xt : ℕ) (s : State S) → Is (with_stack [] s) xt (word.Returns returns.Execute) →
      executed c xt (with_stack [] s) ≡ failed stack_underflow (with_stack [] s)
  pub no_catch :
      (c : Calls S) (xt : ℕ) (s : State S) → Is (with_stack [] s) xt (word.Throws throws.Catch) →
      executed c xt (with_stack [] s) ≡ failed stack_underflow (with_stack [] s)

-- ---- the end of an image

-- `end0`: the items above the latest source are dropped, and control goes on behind what began the image, with what
-- was read there; all that words work on is as it was. Where what is read ends inside a definition, that is given up,
-- and -29 thrown; a console line, which began where nothing was read, leaves it open.
pub record EndsGoBack (S : Type 0) : Type 0 where
  pub back :
      (c : Calls S) (s : State S) (above beneath : List ReturnItem) (r : Reading) (to : Continuation) →
      s.flow.items ≡ above ++ Source r ∷ Return to ∷ beneath → latest_source above ≡ None → ends_inside s ≡ false →
      let o = ended c s in
      (o.ended ≡ Ok tt) × (o.state.flow.items ≡ beneath) × (o.state.flow.next ≡ to) × (o.state.flow.reading ≡ r)
      × (o.state.flow.is_running ≡ s.flow.is_running) × (o.state.board.stack ≡ s.board.stack)
      × (o.state.board.pictured ≡ s.board.pictured) × (o.state.board.console ≡ s.board.console)
      × (o.state.board.tree ≡ s.board.tree) × (o.state.board.active ≡ s.board.active) × (o.state.words ≡ s.words)
      × (o.state.code ≡ s.code)
  pub gives_up : (c : Calls S) (s : State S) → ends_inside s ≡ true → ended c s ≡ failed compiler_nesting (given_up c s)
  pub stays_open :
      (c : Calls S) (s : State S) → is_line s.flow.reading.input s.flow.items ≡ true → ended c s ≡ done (source_ended s)

-- ---- an image that begins

-- It changes only the memory, the console's room, the active package with the current instance, and what runs and is
-- read: beneath it stands what its end brings back. No definition was opened in it.
pub record LoadsBegin (S : Type 0) : Type 0 where
  pub begun :
      (image : List ℕ) (node : Phandle) (instance : Cell) (t : InstanceTable) (m : DataSpace) (s : State S) →
      let o = begun_by image node (Ok (instance, (t, m))) s in
      (o.flow.items ≡ Source s.flow.reading ∷ load_caller instance s ∷ []) × (o.board.active.«package» ≡ Some node)
      × (o.board.active.my_self ≡ instance) × (o.board.instances ≡ t)
      × (o.board.memory ≡ image_copied (image_pushed m image) m)
      × (o.flow.is_running ≡ true) × (o.flow.next ≡ continuation.Source)
      × (o.board.stack ≡ s.board.stack) × (o.board.pictured ≡ s.board.pictured) × (o.board.tree ≡ s.board.tree)
      × (o.board.console.text ≡ s.board.console.text) × (o.words ≡ s.words) × (o.code ≡ s.code)
      × (o.flow.is_compiling ≡ s.flow.is_compiling) × (o.flow.home ≡ s.flow.home)
      × (o.board.active.new_devices ≡ s.board.active.new_devices)
      × (ends_inside o ≡ false)
