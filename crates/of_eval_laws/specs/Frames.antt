-- What board of a step leave as it was: what is read, with which size of offsets, and the return stack (IEEE 1275-1994,
-- 5.2.2, 5.3.3.1; Forth 2012, 3.2.3.3).
use Rattle.std.specs.Prelude.{◌≡◌, ◌⊎◌, ℕ, Bool, true, false, List, [], ◌∷◌, drop, Option, Some, None, Ok}
use Rattle.of_cells.specs.declared.cells.Cell.{Cell}
use Rattle.of_code.specs.declared.item.Item.{Item}
use Rattle.of_stacks.specs.declared.return_item.Continuation.{Continuation}
use Rattle.of_stacks.specs.declared.return_item.Continuation.TheVariants as continuation
use Rattle.of_stacks.specs.declared.return_item.Input.{Input}
use Rattle.of_stacks.specs.declared.return_item.Input.TheVariants as input
use Rattle.of_stacks.specs.declared.return_item.LoopExit.{LoopExit}
use Rattle.of_stacks.specs.declared.return_item.Reading.{Reading}
use Rattle.of_stacks.specs.declared.return_item.ReturnItem.{ReturnItem}
use Rattle.of_stacks.specs.declared.return_item.ReturnItem.TheVariants.{Caller, Handler, Loop, Return}
use Rattle.of_stacks.specs.declared.return_item.ReturnItem.TheVariants.{Source, User}
use Rattle.of_stacks.specs.declared.throws.Throw.{Throw}
use Rattle.of_stacks.specs.Returns.{return_on_top, top_item}
use Rattle.of_stacks.specs.Throws.{image_ended}
use Rattle.of_fcodes.specs.declared.words.ReturnsWord.TheVariants as returns
use Rattle.of_fcodes.specs.declared.words.StreamWord.TheVariants as stream
use Rattle.of_fcodes.specs.declared.words.Word.{Word}
use Rattle.of_fcodes.specs.declared.words.Word.TheVariants as word
use Rattle.of_fcodes.specs.Lookup.{word_numbered}
use Rattle.of_stream.specs.declared.stream.OffsetSize.{OffsetSize}
use Rattle.of_stream.specs.Decoding.{Token, token_from}
use Rattle.of_stream.specs.Sizes.{size_behind}
use Rattle.of_memory.specs.Images.{latest_image}
use Rattle.of_flow.specs.declared.control.ControlWord.{ControlWord}
use Rattle.of_flow.specs.declared.control.ControlWord.TheVariants as control
use Rattle.of_flow.specs.declared.control_state.Flow.{Flow}
use Rattle.of_text.specs.declared.words.TextWord.{TextWord}
use Rattle.of_text.specs.declared.words.TextWord.TheVariants as text
use Rattle.of_interpret.specs.Reading.{text_due, word_at}
use Rattle.of_eval.specs.Acts.{Act, Does, Fails, Goes, Moves, Next}
use Rattle.of_eval.specs.Doing.{executed}
use Rattle.of_eval.specs.Executing.{Call, Catch, Declines, Execute, Open, Own, Plan, Stops, Written, plan_in}
use Rattle.of_eval.specs.Items.{Target, control_act}
use Rattle.of_state.specs.State.{Calls, State}
use Rattle.of_eval.specs.Reading.{token_due}
use Rattle.of_steps.specs.Steps.{item_done}
use Rattle.of_eval_laws.specs.Returning.{IsCall, IsSource, is_code}

-- ---- the target of a word of control

-- what a word of control comes to whose target isn't in the image, by what it would come to if it were
abbrev pub without_target : Act → Act
without_target (Goes cells move n) = Does (Fails image_ended)
without_target (Does (Moves cells move (Next to))) = Does (Fails image_ended)
without_target a = a

-- what it throws, if it does
abbrev pub thrown_by : Act → Option Throw
thrown_by (Does (Fails t)) = Some t
thrown_by a = None

-- Where a target counts.
pub record TargetsCountLast : Type 0 where
  -- the target of a word of control counts only where control goes there, and after all else
  pub turns :
      (w : ControlWord) (to : Target) (e : LoopExit) (s : List Cell) (r : List ReturnItem) →
      control_act w None e s r ≡ without_target (control_act w (Some to) e s r)
  -- what a word leaves whose target isn't in the image it leaves with any
  pub left :
      (w : ControlWord) (to : Option Target) (e : LoopExit) (s : List Cell) (r : List ReturnItem) (a : Act) →
      control_act w None e s r ≡ a → thrown_by a ≡ None →
      control_act w to e s r ≡ a
  -- and what it throws it throws with any, unless that is the fault of the target
  pub thrown :
      (w : ControlWord) (to : Option Target) (e : LoopExit) (s : List Cell) (r : List ReturnItem) (t : Throw) →
      (t ≡ image_ended → ⊥) →
      control_act w None e s r ≡ Does (Fails t) →
      control_act w to e s r ≡ Does (Fails t)
  -- that of `do` never counts
  pub entering :
      (to : Option Target) (e : LoopExit) (s : List Cell) (r : List ReturnItem) →
      control_act control.Do None e s r ≡ control_act control.Do to e s r

-- ---- what is read

-- it is read on, or set aside, on top of the return stack, for an image or a text that begins inside it
abbrev pub KeepsReading : Reading → Flow → Type 0
KeepsReading r f = (f.reading ≡ r) ⊎ (top_item f.items ≡ Some (Source r))

-- the size of the offsets in the image that is read, if one is
abbrev pub size_in : Input → Option OffsetSize
size_in (input.Image size position) = Some size
size_in (input.Text position) = None
size_in input.Nothing = None

-- and in one that is set aside
abbrev pub size_aside : Option ReturnItem → Option OffsetSize
size_aside (Some (Source r)) = size_in r.input
size_aside item = None

-- an image is read on, or set aside so, whose offsets have this size
abbrev pub KeepsSize : OffsetSize → Flow → Type 0
KeepsSize size f = (size_in f.reading.input ≡ Some size) ⊎ (size_aside (top_item f.items) ≡ Some size)

-- the image ends at `end0` and `end1`
abbrev pub ends_image : Option Word → Bool
ends_image (Some (word.Stream stream.End0)) = true
ends_image (Some (word.Stream stream.End1)) = true
ends_image w = false

-- a text ends where none of its words is left
abbrev pub is_text_end : TextWord → Bool
is_text_end text.End = true
is_text_end w = false

-- ---- the return stack

-- these items with others pushed on them, one after another
abbrev pub pushed_on : List ReturnItem → List ReturnItem → List ReturnItem
pushed_on [] r = r
pushed_on (item ∷ items) r = pushed_on items (item ∷ r)

-- a handler, behind which control goes on there, or the caller of a method
abbrev pub IsKept : Continuation → ReturnItem → Type 0
IsKept next (Handler h) = h.resume ≡ next
IsKept next (Caller d) = IsCall d
IsKept next (Return to) = ⊥
IsKept next (Loop l) = ⊥
IsKept next (User x) = ⊥
IsKept next (Source r) = ⊥

abbrev pub AllKept : Continuation → List ReturnItem → Type 0
AllKept next [] = Unit {0}
AllKept next (item ∷ items) = IsKept next item × AllKept next items

-- nothing of control changes
abbrev pub Stays : Flow → Flow → Type 0
Stays f after = (after.items ≡ f.items) × (after.next ≡ f.next) × (after.reading ≡ f.reading)

-- a cell of the program is pushed
abbrev pub PushesCell : Flow → Flow → Type 0
PushesCell f after =
    (x : Cell) × (after.items ≡ User x ∷ f.items) × (after.next ≡ f.next) × (after.reading ≡ f.reading)

-- a definition begins, and control goes on behind the word when it has ended
abbrev pub BeginsDefinition : Flow → Flow → Type 0
BeginsDefinition f after =
    (after.items ≡ Return f.next ∷ f.items) × (is_code after.next ≡ true) × (after.reading ≡ f.reading)

-- an image or a text begins; when it has ended, control goes on behind the word, in what was read
abbrev pub BeginsSource : Flow → Flow → Type 0
BeginsSource f after =
    (after.items ≡ Source f.reading ∷ Return f.next ∷ f.items) × (after.next ≡ continuation.Source)
    × IsSource after.reading.input

-- the item on top is dropped; control goes on behind the word, or where that says, if it is a return
abbrev pub DropsItem : Flow → Flow → Type 0
DropsItem f after =
    (after.items ≡ drop 1 f.items) × ((after.next ≡ f.next) ⊎ (return_on_top f.items ≡ Ok after.next))
    × (after.reading ≡ f.reading)

-- what a word leaves of control, which may drop an item or not
abbrev pub WordLeaves : Bool → Flow → Flow → Type 0
WordLeaves drops f after =
    Stays f after
    ⊎ (PushesCell f after ⊎ (BeginsDefinition f after ⊎ (BeginsSource f after ⊎ ((drops ≡ true) × DropsItem f after))))

-- each `catch` pushes a handler, each word that calls a method a caller, and on these the word that runs at last leaves
-- that
abbrev pub ExecutingLeaves : Bool → Flow → Flow → Type 0
ExecutingLeaves drops f after =
    (kept : List ReturnItem) × AllKept f.next kept
    × WordLeaves drops (record f { items = pushed_on kept f.items }) after

-- the written word that runs at last, if one does; what `catch` and words that call a method run, runs within them
abbrev pub last_word : Plan → Option Word
last_word (Stops t) = None
last_word (Written w) = Some w
last_word (Own xt) = None
last_word (Execute cells p) = last_word p
last_word (Catch cells p) = None
last_word (Call cells d ih p) = None
last_word (Open x p) = last_word p
last_word (Declines t) = None

-- `r>`, `unloop` and `exit` drop an item
abbrev pub drops_item : Option Word → Bool
drops_item (Some (word.Returns returns.FromReturn)) = true
drops_item (Some (word.Returns returns.Unloop)) = true
drops_item (Some (word.Returns returns.Exit)) = true
drops_item w = false

-- ---- the law

-- What board of a step leave as it was, over any code of definitions.
pub record FramesHold (S : Type 0) : Type 0 where
  -- Executing a word leaves the items and what is read as they were, but for handlers, callers and one item on top, or
  -- begins an image or a text; it drops one item only where the word that runs at last drops one.
  pub words :
      (c : Calls S) (xt : ℕ) (s : State S) →
      ExecutingLeaves (drops_item (last_word (plan_in s xt))) s.flow (executed c xt s).state.flow
  -- An item of a definition goes on in what is read, or begins an image or a text inside it.
  pub items_read_on :
      (c : Calls S) (i : Item) (s : State S) → KeepsReading s.flow.reading (item_done c i s).state.flow
  -- The word at which the reading of a text stands is read on behind, with all that it parses, or the reading is set
  -- aside so, unless it is the end; so the words of a text are read one behind the other, whatever they do.
  pub texts_read_on :
      (c : Calls S) (position : ℕ) (s : State S) → is_text_end (word_at position s).word ≡ false →
      KeepsReading (record s.flow.reading { input = input.Text (word_at position s).next })
      (text_due c position s).state.flow
  -- The token at which the reading of an image stands, interpreted or compiled, keeps the size of offsets that is read
  -- on with behind it, unless it ends the image.
  pub tokens_keep_size :
      (c : Calls S) (x : Token) (next : ℕ) (size : OffsetSize) (position : ℕ) (s : State S) →
      ends_image (word_numbered x.code.0) ≡ false →
      token_from (latest_image s.board.memory) position size ≡ Some (x, next) →
      KeepsSize (size_behind x.code.0 size) (token_due c (input.Image size position) s).state.flow
  -- And that is the size that it was read with, unless it is `offset16`.
  pub size_kept : (code : ℕ) (size : OffsetSize) → (code ≡ 0xcc → ⊥) → size_behind code size ≡ size
