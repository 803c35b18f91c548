-- One walk of the tables of words: what a word comes to is what a law asks of it, by the rules of the law.
use Rattle.std.proofs.Common.{◌⊎◌, inl, inr, ◌≡◌, ◌==◌, ◌+◌, ℕ, zero, suc, nat_le, nat_lt, Bool, true, false, List, []}
use Rattle.std.proofs.Common.{◌∷◌, length, Option, Some, None, Result, Ok, Err, is_none, is_some, refl, ap, subst, ◌∙◌}
use Rattle.std.proofs.Common.{if◌then◌else◌}
use Rattle.std.specs.Prelude.{not, slice_get}
use Rattle.of_cells.specs.declared.cells.Cell.{Cell}
use Rattle.of_cells.specs.Numbers.{flag, signed}
use Rattle.of_stacks.specs.declared.return_item.Continuation.{Continuation}
use Rattle.of_stacks.specs.declared.return_item.Continuation.TheVariants as continuation
use Rattle.of_stacks.specs.declared.return_item.LoopParameters.{LoopParameters}
use Rattle.of_stacks.specs.declared.return_item.ReturnItem.{ReturnItem}
use Rattle.of_stacks.specs.declared.return_item.ReturnItem.TheVariants.{Loop, Return, User}
use Rattle.of_stacks.specs.declared.throws.Throw.{Throw}
use Rattle.of_stacks.specs.Loops.{loop_on_top, open_loops}
use Rattle.of_stacks.specs.Order.{counted, counting, fault_if}
use Rattle.of_stacks.specs.Returns.{has_due_top, return_on_top, user_on_top}
use Rattle.of_stacks.specs.Stacks.{within}
use Rattle.of_stacks.specs.Throws.{ThrowsListed, bad_handle, compile_only, is_listed, listed_numbers}
use Rattle.of_stacks.specs.Throws.{return_stack_overflow, stack_underflow}
use Rattle.of_fcodes.specs.declared.codes.FCode.{FCode}
use Rattle.of_fcodes.specs.declared.words.DictionaryWord.{DictionaryWord}
use Rattle.of_fcodes.specs.declared.words.DictionaryWord.TheVariants as dictionary
use Rattle.of_fcodes.specs.declared.words.ReturnsWord.{ReturnsWord}
use Rattle.of_fcodes.specs.declared.words.ReturnsWord.TheVariants as returns
use Rattle.of_fcodes.specs.declared.words.ThrowsWord.{ThrowsWord}
use Rattle.of_fcodes.specs.declared.words.ThrowsWord.TheVariants as throws
use Rattle.of_fcodes.specs.declared.words.Word.{Word}
use Rattle.of_fcodes.specs.declared.words.Word.TheVariants as word
use Rattle.of_stream.specs.declared.stream.OffsetSize.{OffsetSize}
use Rattle.of_stream.specs.Image.{first_size}
use Rattle.of_memory.specs.declared.fault.MemFault.{MemFault}
use Rattle.of_memory.specs.DataSpace.{DataSpace}
use Rattle.of_memory.specs.Growth.{image_pushed_from}
use Rattle.of_prims.specs.Data.{throw_of, thrown}
use Rattle.of_dict.specs.declared.word.Kind.{Kind}
use Rattle.of_dict.specs.declared.word.Kind.TheVariants as kind
use Rattle.of_dict.specs.Words.{kind_in, newest}
use Rattle.of_compile.specs.DictionaryWords.{immediate_entry, kind_at, set_token_entry, store_entry as plain_store}
use Rattle.of_compile.specs.Words.{WordsState, is_word, numbered, own_word}
use Rattle.of_eval.specs.Acts.{Front, Move, To, WordAct, front_of, keeping, knowing, knowing_under, leaving}
use Rattle.of_eval.specs.Acts as act
use Rattle.of_eval.specs.Evaluating.{reading_act, string_act}
use Rattle.of_eval.specs.ByteLoading.{copying, length_at, load_act, loading, loading_faults, spread_of, start_at}
use Rattle.of_eval.specs.Executing.{Call, Catch, Declines, Execute, Open, Own, Plan, Stops, Written, act_of_plan}
use Rattle.of_eval.specs.Executing.{bracket_act, call_faults, call_plan, callee_plan, catch_plan, comma_act}
use Rattle.of_eval.specs.Executing.{comma_faults, dictionary_act, dropping, entered, execute_plan, execution}
use Rattle.of_eval.specs.Executing.{furnished, guarded, opening_plan, own_act, plan, plan_at, plan_behind}
use Rattle.of_state.specs.Settling.{is_opened}
use Rattle.of_eval.specs.Executing.{plan_in, planned, product_entry, pushing, returning, returns_act, runner_of}
use Rattle.of_eval.specs.Executing.{throw_act, throws_act, unless_stopped, unlooping, written_act}
use Rattle.of_eval.specs.declared.executing.Runner.{Runner}
use Rattle.of_eval.specs.declared.executing.Runner.TheVariants as runner
use Rattle.of_instances.specs.declared.calling.CallingWord.{CallingWord}
use Rattle.of_instances.specs.declared.calling.MethodCall.{MethodCall}
use Rattle.of_instances.specs.Calling.{beneath, calling_entry, new_instance}
use Rattle.of_instances.specs.declared.calling.Callee.{Callee}
use Rattle.of_instances.specs.declared.calling.Callee.TheVariants.{Live, New}
use Rattle.of_nodes.specs.declared.phandles.Phandle.{Phandle}
use Rattle.of_ihandles.specs.Table.{InstanceTable}
use Rattle.of_stacks.specs.declared.return_item.Due.TheVariants as due
use Rattle.of_stacks.specs.declared.return_item.Due.{Due}
use Rattle.of_eval_laws.specs.Returning.{IsCall}
use Rattle.of_board.specs.declared.board.Board.{Board}
use Rattle.of_fcodes.specs.Finding.{word_with_xt}
use Rattle.of_flow.specs.Returns.{found, pushed}
use Rattle.of_state.specs.State.{State, open_xt, with_stack}
use Rattle.of_eval_laws.specs.Frames.{drops_item, last_word}
use Rattle.of_eval_laws.specs.Listed.{cell_of}
use Rattle.of_eval_laws.proofs.Callees.{HasCallee, IsCallee, callees}
use Rattle.of_eval_laws.proofs.ListedFaults.{IsListedFault, counted_listed, fault_listed, from_body_listed}
use Rattle.of_eval_laws.proofs.ListedFaults.{get_token_listed, index_listed, loop_listed, mark_listed, return_listed}
use Rattle.of_eval_laws.proofs.ListedFaults.{set_token_listed, store_listed, to_body_listed, user_listed, within_listed}
use Rattle.of_eval_laws.proofs.ListedWords.{comma_fault, finds, loading_fault, products}
use Rattle.of_compile.specs.SlotWords.{instance_said}
use Rattle.of_own.specs.Stores.{in_slot, in_word, into_slot, slot_written, span_written, store_entry, stored_by}
use Rattle.of_own.specs.Stores.{stored_slot}
use Rattle.of_own.specs.Slots.{in_instance}
use Rattle.of_own.specs.Defers.{executable}
use Rattle.of_own.specs.Finding.{find_of, finding, found_by}
use Rattle.of_nodes.specs.declared.properties.Span.{Span}
use Rattle.of_ihandles.specs.declared.instance_fault.InstanceFault.{InstanceFault}
use Rattle.of_ihandles.specs.Instances.{slot_block}
use Rattle.of_memory.specs.Access.{read_bytes, write}
use Rattle.of_memory.specs.declared.width.Width.TheVariants.{Four}
use Rattle.of_eval_laws.proofs.ListedWords.{behavior_of_listed, executable_listed}

-- an opening leaves these instances and this data space
abbrev pub IsOpening : {S : Type 0} → InstanceTable × DataSpace → State S → Type 0
IsOpening x s = (ph : Phandle) × (a : Cell) × (n : Cell) × (ih : Cell) × (new_instance s.board ph a n ≡ Ok (ih, x))

-- a store leaves this data space
abbrev pub IsStoring : {S : Type 0} → DataSpace → State S → Type 0
IsStoring m s = (n : ℕ) × (x : Cell) × (slot_written s.board n x ≡ Ok m)

-- What a law asks of the acts of words, and why what the tables look at has it.
pub record Rules (S : Type 0) : Type 1 where
  -- what is so of the state
  pub Held : State S → Type 0
  -- where words are executed, where one may ask, and of an ordinary one
  pub Runs : Type 0
  pub Asks : Type 0
  pub Works : Word → Type 0
  -- of what is thrown, and of what `throw` throws
  pub Fails : Throw → Type 0
  pub Raises : Throw → Type 0
  -- of an item that is pushed, where one is dropped, and of where control goes on
  pub Item : State S → ReturnItem → Type 0
  pub Drops : State S → Type 0
  pub Target : State S → Continuation → Type 0
  -- of a place in the code where a word of control goes
  pub Aims : State S → ℕ → Type 0
  -- of words, where something is appended or words are compiled from now on, of a data space with one image more, and
  -- of a text that is read
  pub Known : State S → WordsState → Type 0
  pub Appends : State S → Type 0
  pub Loads : State S → DataSpace → Type 0
  pub Reads : State S → List ℕ → Type 0
  -- where an instance is opened
  pub Opening : Type 0
  -- one may ask, and an ordinary word runs; what the tables throw is listed, or a fault of memory
  pub asks : Runs → Asks
  pub works : Runs → (w : Word) → Works w
  pub fails : (t : Throw) → is_listed t ≡ true → Fails t
  pub faults : (fault : MemFault) → Fails (throw_of fault)
  -- a cell of the program is pushed, or where control goes on behind a definition
  pub user : (x : Cell) (s : State S) → Held s → Item s (User x)
  pub return : (s : State S) → Held s → Item s (Return s.flow.next)
  -- control goes on where the return on top says, or where a definition begins that isn't open
  pub returns : (to : Continuation) (s : State S) → Held s → return_on_top s.flow.items ≡ Ok to → Target s to
  pub begins :
      (start xt : ℕ) (s : State S) → Held s → kind_in (own_word s.words.dictionary xt) ≡ Some (kind.Colon start) →
      is_opened (open_xt s) xt ≡ false → Target s (continuation.Code start)
  pub aims : (n : ℕ) (s : State S) → Aims s n → Target s (continuation.Code n)
  -- words are known that come of a store, of `set-token`, of `instance` or `immediate`, or of a number for the next one
  pub stores :
      (xt : ℕ) (x : WordsState × List Cell) (s : State S) → Held s → plain_store xt s.words s.board.stack ≡ Ok x →
      Known s x.0
  pub sets :
      (x : WordsState × List Cell) (s : State S) → Held s → set_token_entry s.words s.board.stack ≡ Ok x → Known s x.0
  pub waits : (s : State S) → Held s → Known s (instance_said s.words)
  pub marks : (w : WordsState) (s : State S) → Held s → immediate_entry s.words ≡ Ok w → Known s w
  pub announces :
      (k : FCode) (name : Option (List ℕ)) (w : WordsState) (s : State S) → Held s → numbered k name s.words ≡ Ok w →
      Known s w
  -- `compile,` appends where a definition is open, and `]` compiles
  pub opens : Runs → (s : State S) → Held s → is_none s.words.defining ≡ false → Appends s
  -- an image was copied, where no definition is open
  pub loads :
      (a n spread : ℕ) (x : ℕ × DataSpace) (s : State S) → Held s → is_some s.words.defining ≡ false →
      image_pushed_from s.board.memory a n spread ≡ Ok x → Loads s x.1
  -- the bytes of a text could be read, likewise
  pub reads :
      Runs → (a n : ℕ) (text : List ℕ) (s : State S) → Held s → is_some s.words.defining ≡ false →
      read_bytes s.board.memory a n ≡ Ok text → Reads s text
  -- what the words throw that call a method
  pub calls : (k : CallingWord) (w : Board) (t : Throw) → calling_entry k w ≡ Err t → Fails t
  -- an instance is opened, or that is refused
  pub may_open : Runs → Opening
  pub declines : (w : Board) (ph : Phandle) (a n : Cell) (t : Throw) → new_instance w ph a n ≡ Err t → Fails t
  -- `execute`, `catch` and words that call a method leave the state so
  pub takes : (cells : List Cell) (s : State S) → Held s → Held (with_stack cells s)
  pub guards : (cells : List Cell) (s : State S) → Held s → Held (guarded cells s)
  pub enters : (cells : List Cell) (d : Due) (ih : Cell) (s : State S) → IsCall d → Held s → Held (entered cells d ih s)
  pub furnishes : (x : InstanceTable × DataSpace) (s : State S) → IsOpening x s → Held s → Held (furnished x s)
  -- an item that may be dropped may be behind `execute`, and any behind `catch` and words that call a method
  pub drops_taken : (cells : List Cell) (s : State S) → Drops s → Drops (with_stack cells s)
  pub drops_guarded : (cells : List Cell) (s : State S) → Held s → Drops (guarded cells s)
  pub drops_entered : (cells : List Cell) (d : Due) (ih : Cell) (s : State S) → Held s → Drops (entered cells d ih s)
  pub drops_furnished : (x : InstanceTable × DataSpace) (s : State S) → Drops s → Drops (furnished x s)

abbrev pub IsMove : {S : Type 0} → Rules S → State S → Move → Type 0
IsMove R s act.Keeps = Unit {0}
IsMove R s (act.Pushes item) = R.Item s item
IsMove R s act.Drops = R.Drops s
IsMove R s (act.Turns l) = R.Item s (Loop l) × R.Drops s

abbrev pub IsTo : {S : Type 0} → Rules S → State S → To → Type 0
IsTo R s act.Behind = Unit {0}
IsTo R s (act.Next to) = R.Target s to

abbrev pub AimsAt : {S : Type 0} → Rules S → State S → Continuation → Type 0
AimsAt R s continuation.Source = ⊥
AimsAt R s (continuation.Code n) = R.Aims s n

abbrev pub IsCellOnTop : List ReturnItem → Type 0
IsCellOnTop r = (x : Cell) × (user_on_top r ≡ Ok x)

abbrev pub IsLoopOnTop : List ReturnItem → Type 0
IsLoopOnTop r = (l : LoopParameters) × (loop_on_top r ≡ Ok l)

-- a word of control pushes nothing where it goes somewhere, and drops or turns a loop
abbrev pub IsTurn : Move → List ReturnItem → Type 0
IsTurn act.Keeps r = Unit {0}
IsTurn (act.Pushes item) r = ⊥
IsTurn act.Drops r = IsLoopOnTop r
IsTurn (act.Turns l) r = IsLoopOnTop r

-- A move fits the return stack and where control goes on: a cell is pushed where nothing due is on top, a return behind
-- what begins, and what is dropped is a cell, a loop, or the return to where control goes on.
abbrev pub Fits : {S : Type 0} → Rules S → State S → Move → To → Type 0
Fits R s act.Keeps act.Behind = Unit {0}
Fits R s (act.Pushes (User x)) act.Behind = has_due_top s.flow.items ≡ false
Fits R s (act.Pushes (Loop l)) act.Behind = Unit {0}
Fits R s act.Drops act.Behind = IsCellOnTop s.flow.items ⊎ IsLoopOnTop s.flow.items
Fits R s (act.Pushes (Return to)) (act.Next (continuation.Code n)) = to ≡ s.flow.next
Fits R s act.Drops (act.Next to) =
    (return_on_top s.flow.items ≡ Ok to) ⊎ (AimsAt R s to × IsLoopOnTop s.flow.items)
Fits R s m act.Behind = ⊥
Fits R s m (act.Next to) = AimsAt R s to × IsTurn m s.flow.items

abbrev pub IsWork : {S : Type 0} → Rules S → State S → WordAct → Type 0
IsWork R s (act.Fails t) = R.Fails t
IsWork R s (act.Raises t cells) = R.Raises t
IsWork R s (act.Leaves cells) = Unit {0}
IsWork R s (act.Works w) = R.Works w
IsWork R s (act.Listens w) = R.Asks
IsWork R s (act.Reaches w) = R.Asks
IsWork R s (act.Moves cells move to) = IsMove R s move × IsTo R s to × Fits R s move to
IsWork R s (act.Knows w cells) = R.Known s w
IsWork R s (act.Stores m cells) = IsStoring m s
IsWork R s act.Compiles = R.Appends s
IsWork R s (act.Prints text) = R.Works (word.Dictionary dictionary.PrintWords)
IsWork R s (act.Appends e cells) = R.Appends s
IsWork R s (act.Loads size m cells) = R.Loads s m
IsWork R s (act.Reads text cells) = R.Reads s text
IsWork R s (act.Takes cells a) = IsWork R (with_stack cells s) a
IsWork R s (act.Guards cells a) = IsWork R (guarded cells s) a
IsWork R s (act.Enters cells d ih a) = IsCall d × IsWork R (entered cells d ih s) a
IsWork R s (act.Opens x a) = R.Opening × IsOpening x s × IsWork R (furnished x s) a
IsWork R s (act.Refuses t) = R.Opening × R.Fails t

-- the number of the cell that `throw` takes may be thrown, where a plan comes to it
abbrev pub MayRaise : {S : Type 0} → Rules S → Option Plan → List Cell → Type 0
MayRaise R p cells = (x : Cell) → cell_of p cells ≡ Some x → R.Raises (record { 0 = signed x })

-- ---- what an entry gives

pub if_works : {S : Type 0} (R : Rules S) (b : Bool) (x y : WordAct) (s : State S) → (b ≡ true → IsWork R s x)
    → (b ≡ false → IsWork R s y) → IsWork R s (if b then x else y)
if_works R true x y s p q = p refl
if_works R false x y s p q = q refl

unless_works : {S : Type 0} (R : Rules S) (f : Option Throw) (a : WordAct) (s : State S) → IsListedFault f
    → (f ≡ None → IsWork R s a) → IsWork R s (act.unless f a)
unless_works R None a s l h = h refl
unless_works R (Some t) a s l h = R.fails t l

pub leaving_works : {S : Type 0} (R : Rules S) (r : Result (List Cell) Throw) (s : State S) → ThrowsListed r
    → IsWork R s (leaving r)
leaving_works R (Ok cells) s l = tt
leaving_works R (Err t) s l = R.fails t l

pub pushed_works : {S : Type 0} (R : Rules S) (x : Cell) (cells : List Cell) (s : State S)
    → IsWork R s (leaving (pushed x cells))
pushed_works R x cells s = leaving_works R (pushed x cells) s (within_listed (x ∷ cells))

knowing_works : {S : Type 0} (R : Rules S) (r : Result (WordsState × List Cell) Throw) (s : State S) → ThrowsListed r
    → ((x : WordsState × List Cell) → r ≡ Ok x → R.Known s x.0) → IsWork R s (knowing r)
knowing_works R (Ok x) s l h = h x refl
knowing_works R (Err t) s l h = R.fails t l

-- words alone
pub knowing_under_works : {S : Type 0} (R : Rules S) (r : Result WordsState Throw) (cells : List Cell) (s : State S)
    → ThrowsListed r → ((w : WordsState) → r ≡ Ok w → R.Known s w) → IsWork R s (knowing_under r cells)
knowing_under_works R (Ok w) cells s l h = h w refl
knowing_under_works R (Err t) cells s l h = R.fails t l

-- a store into a word
word_stored : {S : Type 0} (R : Rules S) (r : Result (WordsState × List Cell) Throw) (s : State S) → ThrowsListed r
    → ((x : WordsState × List Cell) → r ≡ Ok x → R.Known s x.0) → IsWork R s (keeping (in_word r))
word_stored R (Ok x) s l h = h x refl
word_stored R (Err t) s l h = R.fails t l

-- and into a slot of the current instance
cell_stored : {S : Type 0} (R : Rules S) (n : ℕ) (x : Cell) (cells : List Cell) (s : State S)
    (w : Result DataSpace MemFault) → slot_written s.board n x ≡ thrown w
    → IsWork R s (keeping (in_slot cells (thrown w)))
cell_stored R n x cells s (Ok m) e = (n, x, e)
cell_stored R n x cells s (Err fault) e = R.faults fault

span_stored : {S : Type 0} (R : Rules S) (n : ℕ) (x : Cell) (cells : List Cell) (s : State S)
    (r : Result Span InstanceFault) → slot_block s.board.instances s.board.active.my_self n ≡ r
    → IsWork R s (keeping (in_slot cells (span_written s.board.memory x (in_instance r))))
unfolding is_listed listed_numbers
span_stored R n x cells s (Ok b) e =
    cell_stored R n x cells s (write Four s.board.memory b.address.0 x.0)
    (ap (λ o. span_written s.board.memory x (in_instance o)) e)
span_stored R n x cells s (Err fault) e = R.fails _ refl

slot_stored : {S : Type 0} (R : Rules S) (n : ℕ) (cells : List Cell) (s : State S)
    → IsWork R s (keeping (into_slot n s.board cells))
unfolding is_listed listed_numbers
slot_stored R n [] s = R.fails _ refl
slot_stored R n (x ∷ cells) s =
    span_stored R n x cells s (slot_block s.board.instances s.board.active.my_self n) refl

pub store_works : {S : Type 0} (R : Rules S) (xt : ℕ) (s : State S) → R.Held s
    → IsWork R s (keeping (store_entry xt s.words s.board))
store_works {S} R xt s p = by_slot (stored_slot (kind_at s.words xt))
  where
    by_slot : (o : Option ℕ) → IsWork R s (keeping (stored_by o xt s.words s.board))
    by_slot None =
        word_stored R (plain_store xt s.words s.board.stack) s (store_listed xt s.words s.board.stack)
        (λ x e. R.stores xt x s p e)
    by_slot (Some n) = slot_stored R n s.board.stack s

pub pushing_works : {S : Type 0} (R : Rules S) (item : ReturnItem) (r : List ReturnItem) (cells : List Cell) (to : To)
    (s : State S) → R.Item s item → IsTo R s to → Fits R s (act.Pushes item) to
    → IsWork R s (pushing item r cells to)
unfolding is_listed listed_numbers
pushing_works R item r cells to s i t f =
    if_works R (nat_lt 256 (length (item ∷ r))) _ _ s (λ e. R.fails _ refl) (λ e. (i, t, f))

pub returning_works : {S : Type 0} (R : Rules S) (r : Result Continuation Throw) (cells : List Cell) (s : State S)
    → R.Held s → R.Drops s → return_on_top s.flow.items ≡ r → ThrowsListed r → IsWork R s (returning r cells)
returning_works R (Ok to) cells s p d e l = (d, R.returns to s p e, inl e)
returning_works R (Err t) cells s p d e l = R.fails t l

-- ---- own words

pub own_works : {S : Type 0} (R : Rules S) (k : Option Kind) (xt : ℕ) (s : State S)
    → kind_in (own_word s.words.dictionary xt) ≡ k → R.Held s → IsWork R s (own_act k xt (front_of s))
unfolding is_listed listed_numbers
own_works R None xt s e p = R.fails _ refl
own_works R (Some (kind.Colon start)) xt s e p =
    if_works R (is_opened (open_xt s) xt) _ _ s (λ z. R.fails _ refl)
    (λ z. pushing_works R (Return s.flow.next) s.flow.items s.board.stack (act.Next (continuation.Code start)) s
    (R.return s p) (R.begins start xt s p e z) refl)
own_works R (Some k) xt s e p = leaving_works R (product_entry k s.board) s (products k s.board)

-- ---- the return stack

found_works : {S : Type 0} (R : Rules S) (r : Result Cell Throw) (cells : List Cell) (s : State S) → ThrowsListed r
    → IsWork R s (leaving (found r cells))
found_works R r cells s l = leaving_works R (found r cells) s (finds r cells l)

dropping_works : {S : Type 0} (R : Rules S) (r : Result (List Cell) Throw) (s : State S) → R.Drops s → ThrowsListed r
    → IsCellOnTop s.flow.items → IsWork R s (dropping r)
dropping_works R (Ok cells) s d l top = (d, tt, inl top)
dropping_works R (Err t) s d l top = R.fails t l

taking_works : {S : Type 0} (R : Rules S) (u : Result Cell Throw) (cells : List Cell) (s : State S) → R.Drops s
    → user_on_top s.flow.items ≡ u → ThrowsListed u → IsWork R s (dropping (found u cells))
taking_works R (Ok x) cells s d e l = dropping_works R (pushed x cells) s d (within_listed (x ∷ cells)) (x, e)
taking_works R (Err t) cells s d e l = R.fails t l

unlooping_works : {S : Type 0} (R : Rules S) (r : Result LoopParameters Throw) (cells : List Cell) (s : State S)
    → R.Drops s → loop_on_top s.flow.items ≡ r → ThrowsListed r → IsWork R s (unlooping r cells)
unlooping_works R (Ok l) cells s d e t = (d, tt, inr (l, e))
unlooping_works R (Err t) cells s d e l = R.fails t l

-- a word drops an item only where it is known as one that does
pub returns_works : {S : Type 0} (R : Rules S) (w : ReturnsWord) (cells : List Cell) (s : State S) → R.Held s
    → (drops_item (Some (word.Returns w)) ≡ true → R.Drops s) → IsWork R s (returns_act w cells s.flow.items)
unfolding returns_act is_listed listed_numbers
returns_works R returns.ToReturn [] s p d = R.fails _ refl
returns_works R returns.ToReturn (x ∷ cells) s p d =
    if_works R (has_due_top s.flow.items) _ _ s (λ e. R.fails _ refl)
    (λ e. pushing_works R (User x) s.flow.items cells act.Behind s (R.user x s p) tt e)
returns_works R returns.FromReturn cells s p d =
    taking_works R (user_on_top s.flow.items) cells s (d refl) refl (user_listed s.flow.items)
returns_works R returns.FetchReturn cells s p d = found_works R _ cells s (user_listed s.flow.items)
returns_works R returns.Unloop cells s p d =
    unlooping_works R (loop_on_top s.flow.items) cells s (d refl) refl (loop_listed s.flow.items)
returns_works R returns.Index cells s p d =
    found_works R _ cells s (index_listed (slice_get (open_loops s.flow.items) 0))
returns_works R returns.OuterIndex cells s p d =
    found_works R _ cells s (index_listed (slice_get (open_loops s.flow.items) 1))
returns_works R returns.Exit cells s p d =
    returning_works R (return_on_top s.flow.items) cells s p (d refl) refl (return_listed s.flow.items)
returns_works R returns.Execute cells s p d = R.fails _ refl

-- ---- throws

throw_works : {S : Type 0} (R : Rules S) (cells : List Cell) (s : State S)
    → MayRaise R (Some (Written (word.Throws throws.Throw))) cells → IsWork R s (throw_act cells)
unfolding is_listed listed_numbers
throw_works R [] s h = R.fails _ refl
throw_works R (n ∷ cells) s h = if_works R (n.0 == 0) _ _ s (λ e. tt) (λ e. h n refl)

pub throws_work : {S : Type 0} (R : Rules S) (w : ThrowsWord) (cells : List Cell) (s : State S)
    → MayRaise R (Some (Written (word.Throws w))) cells → IsWork R s (throws_act w cells)
unfolding is_listed listed_numbers
throws_work R throws.Abort cells s h = R.fails _ refl
throws_work R throws.Throw cells s h = throw_works R cells s h
throws_work R throws.Catch cells s h = R.fails _ refl

-- ---- words on words

none_found : (b : Bool) (t : Throw) (f : Option Throw) → counted (fault_if b t) f ≡ None → b ≡ false
none_found true t None e = absurd cc
none_found true t (Some u) e = absurd cc
none_found false t f e = refl

comma_none : {S : Type 0} (R : Rules S) (b : Bool) (s : State S)
    → IsWork R s (act.Fails (if b then compile_only else stack_underflow))
unfolding is_listed listed_numbers
comma_none R true s = R.fails _ refl
comma_none R false s = R.fails _ refl

-- `compile,` may append where a definition is open
abbrev pub MayAppend : {S : Type 0} → Rules S → Type 0
MayAppend {S} R = (s : State S) → R.Held s → is_none s.words.defining ≡ false → R.Appends s

comma_works : {S : Type 0} (R : Rules S) → MayAppend R → (cells : List Cell) (s : State S) → R.Held s
    → IsWork R s (comma_act s.words cells)
comma_works R o [] s p = comma_none R (is_none s.words.defining) s
comma_works R o (xt ∷ cells) s p =
    unless_works R (counting (comma_faults s.words xt)) _ s (comma_fault s.words xt)
    (λ e. o s p
    (none_found (is_none s.words.defining) compile_only
    (counting (fault_if (not (is_word s.words.dictionary xt.0)) bad_handle ∷ [])) e))

-- ---- `]`, `immediate` and `$find`

bracket_works : {S : Type 0} (R : Rules S) → MayAppend R → (s : State S) → R.Held s → IsWork R s (bracket_act s.words)
unfolding is_listed listed_numbers
bracket_works R o s p =
    if_works R (is_none s.words.defining) _ _ s (λ e. R.fails _ refl) (λ e. o s p e)

marking_works : {S : Type 0} (R : Rules S) (s : State S) → R.Held s
    → IsWork R s (knowing_under (immediate_entry s.words) s.board.stack)
marking_works R s p =
    knowing_under_works R (immediate_entry s.words) s.board.stack s (mark_listed (newest s.words.dictionary) s.words)
    (λ w e. R.marks w s p e)

word_found : {S : Type 0} (R : Rules S) (o : Option Cell) (a n : Cell) (cells : List Cell) (s : State S)
    → IsWork R s (leaving (finding (Ok o) a n cells))
word_found R (Some xt) a n cells s = tt
word_found R None a n cells s =
    leaving_works R (within (flag false ∷ n ∷ a ∷ cells)) s (within_listed (flag false ∷ n ∷ a ∷ cells))

name_read : {S : Type 0} (R : Rules S) (r : Result (List ℕ) MemFault) (a n : Cell) (cells : List Cell) (s : State S)
    → IsWork R s (leaving (finding (found_by s.words s.board (thrown r)) a n cells))
name_read R (Ok name) a n cells s = word_found R _ a n cells s
name_read R (Err fault) a n cells s = R.faults fault

find_works : {S : Type 0} (R : Rules S) (cells : List Cell) (s : State S)
    → IsWork R s (leaving (find_of s.words s.board cells))
unfolding is_listed listed_numbers
find_works R [] s = R.fails _ refl
find_works R (n ∷ []) s = R.fails _ refl
find_works R (n ∷ a ∷ cells) s = name_read R (read_bytes s.board.memory a.0 n.0) a n cells s

-- ---- `byte-load`

loading_works : {S : Type 0} (R : Rules S) (size : OffsetSize) (r : Result (ℕ × DataSpace) MemFault) (cells : List Cell)
    (s : State S) → ((x : ℕ × DataSpace) → r ≡ Ok x → R.Loads s x.1) → IsWork R s (loading size r cells)
loading_works R size (Ok x) cells s h = h x refl
loading_works R size (Err fault) cells s h = R.faults fault

copying_works : {S : Type 0} (R : Rules S) (a : ℕ) (cells : List Cell) (s : State S) → R.Held s
    → is_some s.words.defining ≡ false → IsWork R s (copying s.board.memory a cells)
copying_works R a cells s p shut =
    let m = s.board.memory in
    loading_works R (first_size (start_at m a ∷ []))
    (image_pushed_from m a (length_at m a) (spread_of (start_at m a))) cells s
    (λ x e. R.loads a (length_at m a) (spread_of (start_at m a)) x s p shut e)

load_works : {S : Type 0} (R : Rules S) (cells : List Cell) (s : State S) → R.Held s
    → is_some s.words.defining ≡ false → IsWork R s (load_act cells (front_of s))
unfolding is_listed listed_numbers
load_works R [] s p shut = R.fails _ refl
load_works R (fetch ∷ []) s p shut = R.fails _ refl
load_works R (fetch ∷ a ∷ cells) s p shut =
    unless_works R (counting (loading_faults s.board.memory a fetch (length s.flow.items)))
    (copying s.board.memory a.0 cells) s (loading_fault s.board.memory a fetch (length s.flow.items))
    (λ e. copying_works R a.0 cells s p shut)

-- ---- `evaluate`

-- it may read a text that could be read, where no definition is open
abbrev pub MayRead : {S : Type 0} → Rules S → Type 0
MayRead {S} R =
    (a n : ℕ) (text : List ℕ) (s : State S) → R.Held s → is_some s.words.defining ≡ false
    → read_bytes s.board.memory a n ≡ Ok text → R.Reads s text

reading_works : {S : Type 0} (R : Rules S) → MayRead R → (a n : ℕ) (r : Result (List ℕ) MemFault) (depth : ℕ)
    (cells : List Cell) (s : State S) → R.Held s → is_some s.words.defining ≡ false
    → read_bytes s.board.memory a n ≡ r → IsWork R s (reading_act r depth cells)
unfolding is_listed listed_numbers
reading_works R may a n (Ok text) depth cells s p shut e =
    if_works R (nat_lt 256 (depth + 2)) _ _ s (λ f. R.fails _ refl) (λ f. may a n text s p shut e)
reading_works R may a n (Err fault) depth cells s p shut e = R.faults fault

string_works : {S : Type 0} (R : Rules S) → MayRead R → (cells : List Cell) (s : State S) → R.Held s
    → is_some s.words.defining ≡ false → IsWork R s (string_act cells (front_of s))
unfolding is_listed listed_numbers
string_works R may [] s p shut = R.fails _ refl
string_works R may (n ∷ []) s p shut = R.fails _ refl
string_works R may (n ∷ a ∷ cells) s p shut =
    reading_works R may a.0 n.0 (read_bytes s.board.memory a.0 n.0) (length s.flow.items) cells s p shut refl

-- ---- all words

pub dictionary_works : {S : Type 0} (R : Rules S) → MayAppend R → MayRead R
    → R.Works (word.Dictionary dictionary.PrintWords)
    → (w : DictionaryWord) (s : State S) → R.Held s → IsWork R s (dictionary_act w (front_of s))
unfolding dictionary_act is_listed listed_numbers
dictionary_works R o may k dictionary.FromBody s p = leaving_works R _ s (from_body_listed s.words s.board.stack)
dictionary_works R o may k dictionary.ToBody s p = leaving_works R _ s (to_body_listed s.words s.board.stack)
dictionary_works R o may k dictionary.GetToken s p = leaving_works R _ s (get_token_listed s.words s.board.stack)
dictionary_works R o may k dictionary.SetToken s p =
    knowing_works R (set_token_entry s.words s.board.stack) s (set_token_listed s.words s.board.stack)
    (λ x e. R.sets x s p e)
dictionary_works R o may k dictionary.State s p = pushed_works R _ s.board.stack s
dictionary_works R o may k dictionary.CompileComma s p = comma_works R o s.board.stack s p
dictionary_works R o may k dictionary.Behavior s p =
    leaving_works R _ s (behavior_of_listed s.words s.board s.board.stack)
dictionary_works R o may k dictionary.Find s p = find_works R s.board.stack s
dictionary_works R o may k dictionary.Instance s p = R.waits s p
dictionary_works R o may k dictionary.Immediate s p = marking_works R s p
dictionary_works R o may k dictionary.EnterCompiling s p = bracket_works R o s p
dictionary_works R o may k dictionary.PrintWords s p = k
dictionary_works R o may k dictionary.ByteLoad s p =
    if_works R (is_some s.words.defining) _ _ s (λ e. R.fails _ refl) (λ e. load_works R s.board.stack s p e)
dictionary_works R o may k dictionary.Evaluate s p =
    if_works R (is_some s.words.defining) _ _ s (λ e. R.fails _ refl) (λ e. string_works R may s.board.stack s p e)
dictionary_works R o may k w s p = R.fails _ refl

written_works : {S : Type 0} (R : Rules S) → R.Runs → (w : Word) (s : State S) → R.Held s
    → (drops_item (Some w) ≡ true → R.Drops s) → MayRaise R (Some (Written w)) s.board.stack
    → IsWork R s (written_act w (front_of s))
unfolding written_act is_listed listed_numbers
written_works R r (word.Returns w) s p d h = returns_works R w s.board.stack s p d
written_works R r (word.Throws w) s p d h = throws_work R w s.board.stack s h
written_works R r (word.Dictionary w) s p d h =
    dictionary_works R (R.opens r) (R.reads r) (R.works r (word.Dictionary dictionary.PrintWords)) w s p
written_works R r (word.Stream w) s p d h = R.fails _ refl
written_works R r (word.Parsing w) s p d h = R.fails _ refl
written_works R r (word.Compiling w) s p d h = R.fails _ refl
written_works R r (word.Keys w) s p d h = R.asks r
written_works R r (word.Devices w) s p d h = R.asks r
written_works R r w s p d h = R.works r w

-- where a plan stops, that is by a throw that the law allows; what is called is a method, and what is opened is opened
-- so
abbrev Stopping : {S : Type 0} → Rules S → Front → Plan → Type 0
Stopping R f (Stops t) = R.Fails t
Stopping R f (Written w) = Unit {0}
Stopping R f (Own xt) = Unit {0}
Stopping R f (Execute cells p) = Stopping R (with_stack cells f) p
Stopping R f (Catch cells p) = Stopping R (guarded cells f) p
Stopping R f (Call cells d ih p) = IsCall d × Stopping R (entered cells d ih f) p
Stopping R f (Open x p) = IsOpening x f × Stopping R (furnished x f) p
Stopping R f (Declines t) = R.Fails t

-- what runs inside does
abbrev Inside : {S : Type 0} → Rules S → (Front → ℕ → Plan) → Type 0
Inside R inner = (g : Front) (to : ℕ) → Stopping R g (inner g to)

stops_if : {S : Type 0} (R : Rules S) (f : Front) (b : Bool) (p q : Plan) → Stopping R f p → Stopping R f q
    → Stopping R f (if b then p else q)
stops_if R f true p q hp hq = hp
stops_if R f false p q hp hq = hq

stops_execute : {S : Type 0} (R : Rules S) (cells : List Cell) (f : Front) (inner : Front → ℕ → Plan)
    → Inside R inner → Stopping R f (execute_plan cells f inner)
unfolding is_listed listed_numbers
stops_execute R [] f inner h = R.fails _ refl
stops_execute R (x ∷ cells) f inner h =
    stops_if R f (is_word f.words.dictionary x.0) (Execute cells (inner (with_stack cells f) x.0)) (Stops bad_handle)
    (h (with_stack cells f) x.0) (R.fails _ refl)

stops_catch : {S : Type 0} (R : Rules S) (cells : List Cell) (f : Front) (inner : Front → ℕ → Plan)
    → Inside R inner → Stopping R f (catch_plan cells f inner)
unfolding is_listed listed_numbers
stops_catch R [] f inner h = R.fails _ refl
stops_catch R (x ∷ cells) f inner h =
    stops_if R f (nat_le 256 (length f.flow.items)) (Stops return_stack_overflow)
    (Catch cells (inner (guarded cells f) x.0)) (R.fails _ refl) (h (guarded cells f) x.0)

call_fault : (f : Front) (xt : Cell) → IsListedFault (counting (call_faults f xt))
unfolding is_listed listed_numbers
call_fault f xt =
    counted_listed _ _ (fault_listed (not (is_word f.words.dictionary xt.0)) bad_handle refl)
    (counted_listed _ None (fault_listed (nat_le 256 (length f.flow.items)) return_stack_overflow refl) tt)

stops_unless : {S : Type 0} (R : Rules S) (f : Front) (o : Option Throw) (p : Plan) → IsListedFault o
    → Stopping R f p → Stopping R f (unless_stopped o p)
stops_unless R f None p l h = h
stops_unless R f (Some t) p l h = R.fails t l

stops_opening : {S : Type 0} (R : Rules S) (ph : Phandle) (a n : Cell)
    (r : Result (Cell × (InstanceTable × DataSpace)) Throw) (m : MethodCall) (f : Front) (inner : Front → ℕ → Plan)
    → new_instance f.board ph a n ≡ r → Inside R inner → Stopping R f (opening_plan r m f inner)
stops_opening R ph a n (Ok x) m f inner e h =
    let cells = beneath m.operands f.board.stack in
    let d = due.Open f.board.active.my_self x.0 in
    ((ph, a, n, x.0, e), (tt, h (entered cells d x.0 (furnished x.1 f)) m.xt.0))
stops_opening R ph a n (Err t) m f inner e h = R.declines f.board ph a n t e

stops_callee : {S : Type 0} (R : Rules S) (k : Callee) (m : MethodCall) (f : Front) (inner : Front → ℕ → Plan)
    → IsCallee f.board k → Inside R inner → Stopping R f (callee_plan k m f inner)
stops_callee R (Live ih d) m f inner c h = (c.0, h (entered (beneath m.operands f.board.stack) d ih f) m.xt.0)
stops_callee R (New ph a n) m f inner c h = stops_opening R ph a n (new_instance f.board ph a n) m f inner refl h

stops_call : {S : Type 0} (R : Rules S) (w : Word) (k : CallingWord) (r : Result (Option MethodCall) Throw) (f : Front)
    (inner : Front → ℕ → Plan) → calling_entry k f.board ≡ r → Inside R inner → Stopping R f (call_plan w r f inner)
stops_call R w k (Err t) f inner e h = R.calls k f.board t e
stops_call R w k (Ok None) f inner e h = tt
stops_call R w k (Ok (Some m)) f inner e h =
    stops_unless R f (counting (call_faults f m.xt)) (callee_plan m.callee m f inner) (call_fault f m.xt)
    (stops_callee R m.callee m f inner (subst (λ r. HasCallee f.board r) e (callees k f.board)) h)

stops_behind : {S : Type 0} (R : Rules S) (o : Result ℕ Throw) (f : Front) (inner : Front → ℕ → Plan)
    → ThrowsListed o → Inside R inner → Stopping R f (plan_behind o f inner)
stops_behind R (Err t) f inner l h = R.fails t l
stops_behind R (Ok xt) f inner l h = at_word (word_with_xt xt)
  where
    by_runner : (w : Word) (r : Runner) → Stopping R f (planned w r f inner)
    by_runner w runner.Plain = tt
    by_runner w runner.Execute = stops_execute R f.board.stack f inner h
    by_runner w runner.Catch = stops_catch R f.board.stack f inner h
    by_runner w (runner.Call k) = stops_call R w k (calling_entry k f.board) f inner refl h

    at_word : (o : Option Word) → Stopping R f (plan_at o xt f inner)
    at_word None = tt
    at_word (Some w) = by_runner w (runner_of w)

plan_stops : {S : Type 0} (R : Rules S) (n : ℕ) (f : Front) (xt : ℕ) → Stopping R f (plan n f xt)
unfolding plan is_listed listed_numbers
plan_stops R zero f xt =
    stops_behind R (executable f.words f.board xt) f _ (executable_listed f.words f.board xt) (λ g to. R.fails _ refl)
plan_stops R (suc n) f xt =
    stops_behind R (executable f.words f.board xt) f _ (executable_listed f.words f.board xt)
    (λ g to. plan_stops R n g to)

plan_works : {S : Type 0} (R : Rules S) → R.Runs → (q : Plan) (s : State S) → Stopping R (front_of s) q → R.Held s
    → (drops_item (last_word q) ≡ true → R.Drops s) → MayRaise R (Some q) s.board.stack
    → IsWork R s (act_of_plan q (front_of s))
unfolding act_of_plan
plan_works R r (Stops t) s l p d h = l
plan_works R r (Written w) s l p d h = written_works R r w s p d h
plan_works R r (Own xt) s l p d h = own_works R (kind_in (own_word s.words.dictionary xt)) xt s refl p
plan_works R r (Execute cells q) s l p d h =
    plan_works R r q (with_stack cells s) l (R.takes cells s p) (λ e. R.drops_taken cells s (d e)) h
plan_works R r (Catch cells q) s l p d h =
    plan_works R r q (guarded cells s) l (R.guards cells s p) (λ e. R.drops_guarded cells s p) h
plan_works R r (Call cells on ih q) s l p d h =
    let works =
    plan_works R r q (entered cells on ih s) l.1 (R.enters cells on ih s l.0 p)
    (λ e. R.drops_entered cells on ih s p) h in
    (l.0, works)
plan_works R r (Open x q) s l p d h =
    let works =
    plan_works R r q (furnished x s) l.1 (R.furnishes x s l.0 p) (λ e. R.drops_furnished x s (d e)) h in
    (R.may_open r, l.0, works)
plan_works R r (Declines t) s l p d h = (R.may_open r, l)

-- executing a word
pub execution_works : {S : Type 0} (R : Rules S) → R.Runs → (xt : ℕ) (s : State S) → R.Held s
    → (drops_item (last_word (plan_in s xt)) ≡ true → R.Drops s) → MayRaise R (Some (plan_in s xt)) s.board.stack
    → IsWork R s (execution xt (front_of s))
unfolding execution
execution_works R r xt s p d h =
    plan_works R r (plan_in s xt) s (plan_stops R (length s.board.stack) (front_of s) xt) p d h

-- where a plan is carried out, what its word comes to is what the law asks
abbrev pub Executes : {S : Type 0} → Rules S → Option Plan → State S → Type 0
Executes R p s = (xt : ℕ) → p ≡ Some (plan_in s xt) → IsWork R s (execution xt (front_of s))

pub all_executed : {S : Type 0} (R : Rules S) → R.Runs → (p : Option Plan) (s : State S) → R.Held s → R.Drops s
    → MayRaise R p s.board.stack → Executes R p s
all_executed R r p s h d raises xt e =
    execution_works R r xt s h (λ z. d) (λ x c. raises x (ap (λ o. cell_of o s.board.stack) e ∙ c))
