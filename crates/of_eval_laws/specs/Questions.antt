-- What a step asks the outside, and what an answer settles (IEEE 1275-1994, 5.3.7.3, 5.3.7.4 and annex A).
use Rattle.std.specs.Prelude.{◌≡◌, ◌↔◌, ℕ, ◌<◌, Bool, true, false, List, ◌∷◌, length, Some, None, Result, Ok}
use Rattle.of_cells.specs.declared.cells.Cell.{Cell}
use Rattle.of_stacks.specs.declared.return_item.Continuation.{Continuation}
use Rattle.of_stacks.specs.declared.return_item.Due.{Due}
use Rattle.of_stacks.specs.declared.return_item.Due.TheVariants as due
use Rattle.of_stacks.specs.declared.return_item.ExceptionFrame.{ExceptionFrame}
use Rattle.of_stacks.specs.declared.return_item.ReturnItem.TheVariants.{Caller, Handler}
use Rattle.of_stacks.specs.declared.throws.Throw.{Throw}
use Rattle.of_fcodes.specs.declared.words.DevicesWord.{DevicesWord}
use Rattle.of_fcodes.specs.declared.words.KeysWord.{KeysWord}
use Rattle.of_fcodes.specs.declared.words.ReturnsWord.TheVariants as returns
use Rattle.of_fcodes.specs.declared.words.ThrowsWord.TheVariants as throws
use Rattle.of_fcodes.specs.declared.words.Word.{Word}
use Rattle.of_fcodes.specs.declared.words.Word.TheVariants as word
use Rattle.of_ihandles.specs.Table.{InstanceTable}
use Rattle.of_memory.specs.DataSpace.{DataSpace}
use Rattle.of_nodes.specs.declared.phandles.Phandle.{Phandle}
use Rattle.of_compile.specs.Words.{is_word}
use Rattle.of_board.specs.declared.board.Board.{Board}
use Rattle.of_asking.specs.Devices.{devices_entry}
use Rattle.of_asking.specs.Keys.{keys_entry}
use Rattle.of_asking.specs.Questions.{Asks, Gives}
use Rattle.of_asking.specs.declared.query.Answer.{Answer}
use Rattle.of_asking.specs.declared.query.Query.{Query}
use Rattle.of_instances.specs.declared.calling.CallingWord.{CallingWord}
use Rattle.of_instances.specs.declared.calling.Callee.TheVariants.{Live, New}
use Rattle.of_instances.specs.declared.calling.MethodCall.{MethodCall}
use Rattle.of_instances.specs.Calling.{new_instance}
use Rattle.of_eval.specs.Acts.{WordAct}
use Rattle.of_eval.specs.Acts as act
use Rattle.of_eval.specs.Doing.{executed, executed_grows, work_grows, worked}
use Rattle.of_eval.specs.Executing.{Call, Catch, Declines, Execute, Open, Own, Plan, Stops, Written, plan_in}
use Rattle.of_state.specs.State.{Calls, State, by_board, with_stack}
use Rattle.of_steps.specs.Steps.{asked_by, due, due_grows, made, replied, stepped}
use Rattle.of_eval_laws.specs.Calling.{IsCalled, for_instance, with_instance, without}
use Rattle.of_eval_laws.specs.Going.{Is, on}

-- an act opens an instance, at once or behind `execute`, `catch` and words that call a method
abbrev pub IsOpening : WordAct → Type 0
IsOpening (act.Fails t) = ⊥
IsOpening (act.Raises t cells) = ⊥
IsOpening (act.Leaves cells) = ⊥
IsOpening (act.Works w) = ⊥
IsOpening (act.Listens w) = ⊥
IsOpening (act.Reaches w) = ⊥
IsOpening (act.Moves cells move to) = ⊥
IsOpening (act.Knows w cells) = ⊥
IsOpening (act.Stores m cells) = ⊥
IsOpening act.Compiles = ⊥
IsOpening (act.Prints text) = ⊥
IsOpening (act.Appends e cells) = ⊥
IsOpening (act.Loads size m cells) = ⊥
IsOpening (act.Reads text cells) = ⊥
IsOpening (act.Takes cells a) = IsOpening a
IsOpening (act.Guards cells a) = IsOpening a
IsOpening (act.Enters cells d ih a) = IsOpening a
IsOpening (act.Opens x a) = Unit {0}
IsOpening (act.Refuses t) = ⊥

-- words over keys, and over devices and time
abbrev pub is_asking : Word → Bool
is_asking (word.Keys w) = true
is_asking (word.Devices w) = true
is_asking w = false

-- one of these runs at last, at once or behind words that run another
abbrev pub runs_asking : Plan → Bool
runs_asking (Stops t) = false
runs_asking (Written w) = is_asking w
runs_asking (Own xt) = false
runs_asking (Execute cells p) = runs_asking p
runs_asking (Catch cells p) = runs_asking p
runs_asking (Call cells d ih p) = runs_asking p
runs_asking (Open x p) = runs_asking p
runs_asking (Declines t) = false

-- what comes next does nothing but execute a word
pub record Executes {S : Type 0} (c : Calls S) (to : Continuation) (s : State S) : Type 0 where
  pub xt : ℕ
  -- behind the item or the token, on the board that stands, with the answer at hand, if there is one
  pub behind : State S
  pub board : behind.board ≡ s.board
  pub reply : behind.reply ≡ s.reply
  pub does : due c to s ≡ executed c xt behind
  pub grows : due_grows c to s ≡ executed_grows behind xt

-- What is asked, over any code of definitions.
pub record QuestionsSettle (S : Type 0) : Type 0 where
  -- With an answer at hand nothing is asked; so the step is made, where something runs.
  pub answered : (c : Calls S) (answer : Answer) (s : State S) → asked_by c (replied answer s) ≡ None
  pub goes_on :
      (c : Calls S) (answer : Answer) (s : State S) → s.flow.is_running ≡ true →
      made c (replied answer s) ≡ Some (stepped c (replied answer s))
  -- Without one, a word over keys, and one over devices and time, asks just what its table says.
  pub keys_ask :
      (c : Calls S) (xt : ℕ) (w : KeysWord) (q : Query) (s : State S) → Is s xt (word.Keys w) → s.reply ≡ None →
      ((executed c xt s).asks ≡ Some q) ↔ (keys_entry w None s.board ≡ Asks q)
  pub devices_ask :
      (c : Calls S) (xt : ℕ) (w : DevicesWord) (q : Query) (s : State S) → Is s xt (word.Devices w) →
      s.reply ≡ None → ((executed c xt s).asks ≡ Some q) ↔ (devices_entry w None s.board ≡ Asks q)
  -- Where the table says what it leaves or throws, it does just that, and asks nothing.
  pub keys_give :
      (c : Calls S) (xt : ℕ) (w : KeysWord) (r : Result Board Throw) (s : State S) → Is s xt (word.Keys w) →
      keys_entry w s.reply s.board ≡ Gives r →
      (executed c xt s ≡ by_board r s) × ((executed c xt s).asks ≡ None)
  pub devices_give :
      (c : Calls S) (xt : ℕ) (w : DevicesWord) (r : Result Board Throw) (s : State S) → Is s xt (word.Devices w) →
      devices_entry w s.reply s.board ≡ Gives r →
      (executed c xt s ≡ by_board r s) × ((executed c xt s).asks ≡ None)
  -- `execute` and `catch` ask what the word asks that they run.
  pub execute_asks :
      (c : Calls S) (xt : ℕ) (x : Cell) (cells : List Cell) (s : State S) →
      Is (with_stack (x ∷ cells) s) xt (word.Returns returns.Execute) → is_word s.words.dictionary x.0 ≡ true →
      (executed c xt (with_stack (x ∷ cells) s)).asks ≡ (executed c x.0 (with_stack cells s)).asks
  pub catch_asks :
      (c : Calls S) (xt : ℕ) (x : Cell) (cells : List Cell) (s : State S) →
      Is (with_stack (x ∷ cells) s) xt (word.Throws throws.Catch) → length s.flow.items < 256 →
      (h : ExceptionFrame)
      × ((executed c xt (with_stack (x ∷ cells) s)).asks
      ≡ (executed c x.0 (on cells (Handler h ∷ s.flow.items) s)).asks)
  -- So do words that call a method, for an instance that is there or a new one.
  pub call_asks :
      (c : Calls S) (xt : ℕ) (k : CallingWord) (m : MethodCall) (ih : Cell) (d : Due) (s : State S) →
      IsCalled k m xt s → m.callee ≡ Live ih d →
      (executed c xt s).asks
      ≡ (executed c m.xt.0 (for_instance ih (without m s) (Caller d ∷ s.flow.items) s)).asks
  pub open_asks :
      (c : Calls S) (xt : ℕ) (k : CallingWord) (m : MethodCall) (ph : Phandle) (address count ih : Cell)
      (x : InstanceTable × DataSpace) (s : State S) →
      IsCalled k m xt s → m.callee ≡ New ph address count → new_instance s.board ph address count ≡ Ok (ih, x) →
      (executed c xt s).asks
      ≡ (executed c m.xt.0
      (with_instance x
      (for_instance ih (without m s) (Caller (due.Open s.board.active.my_self ih) ∷ s.flow.items) s))).asks
  -- Nothing else asks: an item or a token only where it executes a word that does, and that only where a word over
  -- keys, or over devices and time, runs at last.
  pub step_asks :
      (c : Calls S) (q : Query) (s : State S) → asked_by c s ≡ Some q → Executes c s.flow.next s
  pub word_asks :
      (c : Calls S) (xt : ℕ) (q : Query) (s : State S) → (executed c xt s).asks ≡ Some q →
      runs_asking (plan_in s xt) ≡ true
  -- Of what asks, only what opens an instance needs memory.
  pub memory :
      (c : Calls S) (a : WordAct) (q : Query) (s : State S) → (worked c a s).asks ≡ Some q → work_grows a ≡ true →
      IsOpening a
