-- A method runs for an instance, and the caller's is the current one again at its end (IEEE 1275-1994, annex A,
-- `call-package`, `$call-method`).
use Rattle.std.specs.Prelude.{◌≡◌, ◌<◌, ◌≤◌, ◌==◌, ℕ, true, false, List, [], ◌∷◌, drop, length, Some, None, Ok, Err}
use Rattle.of_cells.specs.declared.cells.Cell.{Cell}
use Rattle.of_stacks.specs.declared.return_item.Due.{Due}
use Rattle.of_stacks.specs.declared.return_item.Due.TheVariants as due
use Rattle.of_stacks.specs.declared.return_item.ReturnItem.{ReturnItem}
use Rattle.of_stacks.specs.declared.return_item.ReturnItem.TheVariants.{Caller}
use Rattle.of_stacks.specs.declared.throws.Throw.{Throw}
use Rattle.of_stacks.specs.Throws.{bad_handle, return_stack_overflow, stack_underflow}
use Rattle.of_memory.specs.DataSpace.{DataSpace}
use Rattle.of_nodes.specs.declared.phandles.Phandle.{Phandle}
use Rattle.of_ihandles.specs.Table.{InstanceTable}
use Rattle.of_instances.specs.declared.calling.Callee.TheVariants.{Live, New}
use Rattle.of_fcodes.specs.declared.words.TreeWord.TheVariants as tree
use Rattle.of_fcodes.specs.declared.words.Word.{Word}
use Rattle.of_fcodes.specs.declared.words.Word.TheVariants as word
use Rattle.of_compile.specs.Words.{is_word}
use Rattle.of_ihandles.specs.Instances.{released}
use Rattle.of_board.specs.declared.board.Board.{Board}
use Rattle.of_instances.specs.declared.calling.CallingWord.{CallingWord}
use Rattle.of_instances.specs.declared.calling.CallingWord.TheVariants as calling
use Rattle.of_instances.specs.declared.calling.MethodCall.{MethodCall}
use Rattle.of_instances.specs.Calling.{calling_entry, new_instance, operand_cells}
use Rattle.of_eval.specs.Doing.{executed}
use Rattle.of_state.specs.Settling.{caller_self, settled}
use Rattle.of_state.specs.State.{Calls, State, failed}
use Rattle.of_eval_laws.specs.Going.{Is}
use Rattle.of_eval_laws.specs.Returning.{IsCall}

-- the words that call a method
abbrev pub word_of : CallingWord → Word
word_of calling.Package = word.Tree tree.CallPackage
word_of calling.Method = word.Tree tree.CallMethod
word_of calling.Parent = word.Tree tree.CallParent
word_of calling.Close = word.Tree tree.ClosePackage
word_of calling.Open = word.Tree tree.OpenPackage
word_of calling.OpenNamed = word.Tree tree.OpenNamedPackage

-- the same state, where an instance is the current one, with another data stack and other items on the return stack
abbrev pub for_instance : {S : Type 0} → Cell → List Cell → List ReturnItem → State S → State S
for_instance ih cells items s = record s {
  board = record s.board { stack = cells; active = record s.board.active { my_self = ih } };
  flow = record s.flow { items = items };
}

-- without an instance, if that is live
abbrev pub released_in : {S : Type 0} → Cell → State S → State S
released_in ih s = record s {
  board = record s.board {
    instances = (released s.board.instances s.board.memory ih).0;
    memory = (released s.board.instances s.board.memory ih).1;
  };
}

-- with these instances and this data space
abbrev pub with_instance : {S : Type 0} → InstanceTable × DataSpace → State S → State S
with_instance x s = record s { board = record s.board { instances = x.0; memory = x.1 } }

-- the data stack without the operands of what is called
abbrev pub without : {S : Type 0} → MethodCall → State S → List Cell
without m s = drop (length (operand_cells m.operands)) s.board.stack

-- An execution token is that of a word that calls a method, which it finds, and that is a word, and there is room.
abbrev pub IsCalled : {S : Type 0} → CallingWord → MethodCall → ℕ → State S → Type 0
IsCalled k m xt s =
    Is s xt (word_of k) × (calling_entry k s.board ≡ Ok (Some m)) × (is_word s.words.dictionary m.xt.0 ≡ true)
    × (length s.flow.items < 256)

pub record CallsComeBack (S : Type 0) : Type 0 where
  -- The word of a method runs without the operands, for the instance that was found, above what keeps the current one;
  -- all else is as it was.
  pub runs :
      (c : Calls S) (xt : ℕ) (k : CallingWord) (m : MethodCall) (ih : Cell) (d : Due) (s : State S) →
      IsCalled k m xt s → m.callee ≡ Live ih d →
      executed c xt s ≡ executed c m.xt.0 (for_instance ih (without m s) (Caller d ∷ s.flow.items) s)
  -- What is due at its end brings back the instance that is the current one now.
  pub keeps :
      (k : CallingWord) (b : Board) (m : MethodCall) (ih : Cell) (d : Due) → calling_entry k b ≡ Ok (Some m) →
      m.callee ≡ Live ih d → caller_self d ≡ b.active.my_self
  -- The method `open` runs so for a new instance, which is made first, below the current one.
  pub opens :
      (c : Calls S) (xt : ℕ) (k : CallingWord) (m : MethodCall) (ph : Phandle) (address count ih : Cell)
      (x : InstanceTable × DataSpace) (s : State S) →
      IsCalled k m xt s → m.callee ≡ New ph address count → new_instance s.board ph address count ≡ Ok (ih, x) →
      executed c xt s
      ≡ executed c m.xt.0
      (with_instance x
      (for_instance ih (without m s) (Caller (due.Open s.board.active.my_self ih) ∷ s.flow.items) s))
  -- Nothing changes where that finds no room.
  pub no_room :
      (c : Calls S) (xt : ℕ) (k : CallingWord) (m : MethodCall) (ph : Phandle) (address count : Cell) (t : Throw)
      (s : State S) →
      IsCalled k m xt s → m.callee ≡ New ph address count → new_instance s.board ph address count ≡ Err t →
      executed c xt s ≡ failed t s
  -- Nothing changes where no method is found, where its number is no word, or where the return stack is full.
  pub refused :
      (c : Calls S) (xt : ℕ) (k : CallingWord) (t : Throw) (s : State S) → Is s xt (word_of k) →
      calling_entry k s.board ≡ Err t → executed c xt s ≡ failed t s
  pub no_word :
      (c : Calls S) (xt : ℕ) (k : CallingWord) (m : MethodCall) (s : State S) → Is s xt (word_of k) →
      calling_entry k s.board ≡ Ok (Some m) → is_word s.words.dictionary m.xt.0 ≡ false →
      executed c xt s ≡ failed bad_handle s
  pub full :
      (c : Calls S) (xt : ℕ) (k : CallingWord) (m : MethodCall) (s : State S) → Is s xt (word_of k) →
      calling_entry k s.board ≡ Ok (Some m) → is_word s.words.dictionary m.xt.0 ≡ true → 256 ≤ length s.flow.items →
      executed c xt s ≡ failed return_stack_overflow s
  -- When the method has ended, the caller's instance is the current one, and what is due beneath goes on; the instance
  -- that was closed is released first.
  pub ends :
      (c : Calls S) (me : Cell) (r : List ReturnItem) (s : State S) →
      settled c (Caller (due.Method me) ∷ r) None s ≡ settled c r None (for_instance me s.board.stack r s)
  pub closes :
      (c : Calls S) (me ih : Cell) (r : List ReturnItem) (s : State S) →
      settled c (Caller (due.Close me ih) ∷ r) None s
      ≡ settled c r None (released_in ih (for_instance me s.board.stack r s))
  -- What `open` answers stands on top: where it is true, the new instance comes in its place; where it is false, that
  -- stays, and the instance is released.
  pub answers_true :
      (c : Calls S) (me ih x : Cell) (cells : List Cell) (r : List ReturnItem) (s : State S) →
      s.board.stack ≡ x ∷ cells → (x.0 == 0) ≡ false →
      settled c (Caller (due.Open me ih) ∷ r) None s ≡ settled c r None (for_instance me (ih ∷ cells) r s)
  pub answers_false :
      (c : Calls S) (me ih x : Cell) (cells : List Cell) (r : List ReturnItem) (s : State S) →
      s.board.stack ≡ x ∷ cells → (x.0 == 0) ≡ true →
      settled c (Caller (due.Open me ih) ∷ r) None s
      ≡ settled c r None (released_in ih (for_instance me (x ∷ cells) r s))
  -- Where it has left nothing, that is thrown, and the instance stays open.
  pub answers_nothing :
      (c : Calls S) (me ih : Cell) (r : List ReturnItem) (s : State S) →
      s.board.stack ≡ [] → s.flow.is_running ≡ true →
      settled c (Caller (due.Open me ih) ∷ r) None s ≡ settled c r (Some stack_underflow) (for_instance me [] r s)
  -- A throw goes on beneath; the handler that takes it brings back the instance that it keeps.
  pub thrown :
      (c : Calls S) (d : Due) (r : List ReturnItem) (t : Throw) (s : State S) → IsCall d →
      settled c (Caller d ∷ r) (Some t) s
      ≡ settled c r (Some t) (for_instance s.board.active.my_self s.board.stack r s)
