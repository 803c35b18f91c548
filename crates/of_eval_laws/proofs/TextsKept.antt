-- The texts that are read stay of bytes: a step reads on in the same texts, ends some, or begins one whose bytes were
-- read.
use Rattle.std.proofs.Common.{◌≡◌, ◌∙◌, ℕ, Bool, true, false, List, [], ◌∷◌, Option, Some, None, Result, Ok, Err}
use Rattle.std.proofs.Common.{is_some, refl, ap, sym, subst, if◌then◌else◌}
use Rattle.std.specs.Prelude.{◌==◌}
use Rattle.of_cells.specs.declared.cells.Cell.{Cell}
use Rattle.of_code.specs.declared.item.Item.{Item}
use Rattle.of_code.specs.declared.item.Place.{Place}
use Rattle.of_code.specs.Items.{target_of}
use Rattle.of_stacks.specs.declared.return_item.Continuation.{Continuation}
use Rattle.of_stacks.specs.declared.return_item.Continuation.TheVariants as continuation
use Rattle.of_stacks.specs.declared.return_item.Due.{Due}
use Rattle.of_stacks.specs.declared.return_item.Due.TheVariants as due
use Rattle.of_stacks.specs.declared.return_item.ExceptionFrame.{ExceptionFrame}
use Rattle.of_stacks.specs.declared.return_item.Input.{Input}
use Rattle.of_stacks.specs.declared.return_item.Input.TheVariants as input
use Rattle.of_stacks.specs.declared.return_item.ReturnItem.{ReturnItem}
use Rattle.of_stacks.specs.declared.return_item.ReturnItem.TheVariants.{Return, Loop, User, Handler, Source, Caller}
use Rattle.of_stacks.specs.declared.throws.Throw.{Throw}
use Rattle.of_stacks.specs.Returns.{is_due}
use Rattle.of_stacks.specs.Throws.{stack_overflow}
use Rattle.of_stacks.specs.Unwinding.{beneath_source, latest_source}
use Rattle.of_stream.specs.declared.stream.OffsetSize.{OffsetSize}
use Rattle.of_stream.specs.Decoding.{Token, token_from}
use Rattle.of_stream.specs.Sizes.{size_behind}
use Rattle.of_fcodes.specs.Lookup.{word_numbered}
use Rattle.of_memory.specs.DataSpace.{DataSpace}
use Rattle.of_memory.specs.Growth.{append_copied}
use Rattle.of_memory.specs.Images.{latest_image}
use Rattle.of_memory.specs.declared.fault.MemFault.{MemFault}
use Rattle.of_nodes.specs.declared.phandles.Phandle.{Phandle}
use Rattle.of_dict.specs.declared.word.Slot.{Slot}
use Rattle.of_compile.specs.declared.defining.DefiningWord.{DefiningWord}
use Rattle.of_compile.specs.Defining.{Making, opens}
use Rattle.of_compile.specs.SlotWords.{SlotMaking, awaited}
use Rattle.of_board.specs.declared.board.Board.{Board}
use Rattle.of_asking.specs.Devices.{devices_entry}
use Rattle.of_asking.specs.Keys.{keys_entry}
use Rattle.of_asking.specs.Questions.{Asking, Asks, Gives}
use Rattle.of_flow.specs.declared.control_state.Flow.{Flow}
use Rattle.of_flow.specs.Tokens.{typed_of}
use Rattle.of_text.specs.declared.words.Found.{Found}
use Rattle.of_eval.specs.Acts.{Act, To, WordAct, front_of}
use Rattle.of_eval.specs.Acts as act
use Rattle.of_eval.specs.Defining.{by_making, by_slot_making, closed_if, definition_ended, opened, string_element}
use Rattle.of_eval.specs.Defining.{string_kept, string_put, string_refused, word_defined, word_made_as}
use Rattle.of_eval.specs.Doing.{acted, gone, left_by, worked}
use Rattle.of_eval.specs.Doing as doing
use Rattle.of_eval.specs.Executing.{entered, furnished, guarded, plan_in}
use Rattle.of_eval.specs.Items.{item_act}
use Rattle.of_eval.specs.Methods.{then_known}
use Rattle.of_eval.specs.Naming.{word_named, word_named_as}
use Rattle.of_eval.specs.Reading.{found_token, read_on}
use Rattle.of_eval.specs.Tokens.{act_of, spot_in}
use Rattle.of_interpret.specs.Reading.{read_from, word_at, word_done}
use Rattle.of_interpret.specs.Strings.{all_appended, by_spelling, by_string, string_said, string_spelt}
use Rattle.of_interpret.specs.TextActs.{Acts, AppendsAll, Interprets, Names, Says, Sees, Selects, Spells, TextAct}
use Rattle.of_interpret.specs.TextActs.{text_acted}
use Rattle.of_interpret.specs.TextWords.{text_act}
use Rattle.of_state.specs.Loading.{begun}
use Rattle.of_state.specs.Settling.{caught, cut_one, due_left, ended, ends_inside, fallen, going_back}
use Rattle.of_state.specs.Settling.{is_full, is_same, load_left, open_answered, or_nothing, reading_on, resumed}
use Rattle.of_state.specs.Settling.{settled, source_ended, still_thrown, texts_left, thrown_at, thrown_in}
use Rattle.of_state.specs.Settling.{worked_one}
use Rattle.of_state.specs.State.{Answered, Calls, Outcome, State, by_asking, by_board, given_up, open_xt}
use Rattle.of_state.specs.State.{with_items, with_next, with_stack}
use Rattle.of_steps.specs.Steps.{due as due_next, item_due, reading_due, settled_of, stepped}
use Rattle.of_words.specs.Words.{word_entry}
use Rattle.of_eval_laws.specs.Listed.{plan_of_item}
use Rattle.of_eval_laws.specs.Sound.{AreTexts, HasSoundSpace}
use Rattle.of_eval_laws.proofs.Begun.{begun_is}
use Rattle.of_eval_laws.proofs.FramedSpace.{Laws}
use Rattle.of_eval_laws.proofs.MethodLemmas.{known_flow}
use Rattle.of_eval_laws.proofs.RunningTokens.{running_rules, running_turns}
use Rattle.of_eval_laws.proofs.TextFaults.{IsSaid, word_said}
use Rattle.of_eval_laws.proofs.Walk.{IsAct, item_acts, typed_acts}
use Rattle.of_eval_laws.proofs.WalkFree.{anywhere}
use Rattle.of_eval_laws.proofs.WalkTexts.{AnyBytes, IsTextAct, text_acts}
use Rattle.of_eval_laws.proofs.WalkTyped.{typed_may}
use Rattle.of_eval_laws.proofs.WalkWords.{IsWork, all_executed}

-- the texts of a state are of bytes
abbrev HasTexts : {S : Type 0} → State S → Type 0
HasTexts s = AreTexts s.flow.texts

-- the same texts are read
abbrev SameTexts : {S : Type 0} → State S → State S → Type 0
SameTexts s u = u.flow.texts ≡ s.flow.texts

by_same : {S : Type 0} (s u : State S) → SameTexts s u → HasTexts s → HasTexts u
by_same s u e h = subst (λ x. AreTexts x) (sym e) h

-- ---- acts of words

board_texts : {S : Type 0} (r : Result Board Throw) (s : State S) → SameTexts s (by_board r s).state
board_texts (Ok p) s = refl
board_texts (Err t) s = refl

asking_texts : {S : Type 0} (a : Asking Board) (s : State S) → SameTexts s (by_asking a s).state
asking_texts (Gives r) s = board_texts r s
asking_texts (Asks q) s = refl

gone_texts : {S : Type 0} (to : To) (s : State S) → SameTexts s (gone to s)
gone_texts act.Behind s = refl
gone_texts (act.Next to) s = refl

left_texts : {S : Type 0} (r : Result (Unit {0}) Throw) (cells : List Cell) (s : State S)
    → SameTexts s (left_by r cells s)
left_texts (Ok x) cells s = refl
left_texts (Err t) cells s = refl

work_texts : {S : Type 0} (l : Laws) (c : Calls S) (a : WordAct) (s : State S) → IsWork (running_rules S) s a
    → HasTexts s → HasTexts (worked c a s).state
unfolding worked
work_texts l c (act.Fails t) s k h = h
work_texts l c (act.Raises t cells) s k h = h
work_texts l c (act.Leaves cells) s k h = h
work_texts l c (act.Works w) s k h =
    by_same s (worked c (act.Works w) s).state
    (board_texts (word_entry w s.board) s) h
work_texts l c (act.Listens w) s k h =
    by_same s (worked c (act.Listens w) s).state
    (asking_texts (keys_entry w s.reply s.board) s) h
work_texts l c (act.Reaches w) s k h =
    by_same s (worked c (act.Reaches w) s).state
    (asking_texts (devices_entry w s.reply s.board) s) h
work_texts l c (act.Moves cells move to) s k h =
    by_same s (worked c (act.Moves cells move to) s).state
    (gone_texts to (with_stack cells (with_items (doing.moved move s.flow.items) s))) h
work_texts l c (act.Knows w cells) s k h = h
work_texts l c (act.Stores m cells) s k h = h
work_texts l c act.Compiles s k h = h
work_texts l c (act.Prints text) s k h = h
work_texts l c (act.Appends e cells) s k h =
    by_same s (worked c (act.Appends e cells) s).state
    (left_texts (c.element e s.code).ended cells s) h
work_texts l c (act.Loads size m cells) s k h = h
work_texts l c (act.Reads text cells) s k h = (k l, h)
work_texts l c (act.Takes cells a) s k h = work_texts l c a (with_stack cells s) k h
work_texts l c (act.Guards cells a) s k h = work_texts l c a (guarded cells s) k h
work_texts l c (act.Enters cells d ih a) s k h = work_texts l c a (entered cells d ih s) k.1 h
work_texts l c (act.Opens x a) s k h = work_texts l c a (furnished x s) k.2 h
work_texts l c (act.Refuses t) s k h = h

-- ---- definitions and strings

then_texts : {S : Type 0} (home : Option Phandle) (n : Option ℕ) (s : State S) (o : Outcome S) → SameTexts s o.state
    → SameTexts s (then_known home n o).state
then_texts home None s o e = e
then_texts home (Some n) s o e = ap (λ (f : Flow). f.texts) (known_flow o.ended home n o.state) ∙ e

opened_texts : {S : Type 0} (b : Bool) (s : State S) → SameTexts s (opened b s)
opened_texts true s = refl
opened_texts false s = refl

making_texts : {S : Type 0} (d : DefiningWord) (r : Result Making Throw) (s : State S)
    → SameTexts s (by_making d r s).state
making_texts d (Ok g) s = opened_texts (opens d) _
making_texts d (Err t) s = refl

slot_texts : {S : Type 0} (r : Result SlotMaking Throw) (s : State S) → SameTexts s (by_slot_making r s).state
slot_texts (Ok g) s = refl
slot_texts (Err t) s = refl

word_texts : {S : Type 0} (c : Calls S) (d : DefiningWord) (o : Option Slot) (s : State S)
    → SameTexts s (word_made_as c d o s).state
word_texts c d None s = making_texts d _ s
word_texts c d (Some k) s = slot_texts _ s

named_texts : {S : Type 0} (c : Calls S) (d : DefiningWord) (name : List ℕ) (o : Option Slot) (s : State S)
    → SameTexts s (word_named_as c d name o s).state
named_texts c d name None s = making_texts d _ s
named_texts c d name (Some k) s = slot_texts _ s

closed_texts : {S : Type 0} (r : Result (Unit {0}) Throw) (s : State S) → SameTexts s (closed_if r s)
closed_texts (Ok x) s = refl
closed_texts (Err t) s = refl

end_texts : {S : Type 0} (c : Calls S) (n : Option ℕ) (s : State S) → SameTexts s (definition_ended c n s).state
end_texts c None s = refl
end_texts c (Some n) s = closed_texts _ s

put_texts : {S : Type 0} (r : Result (Unit {0}) Throw) (code : S) (m : DataSpace) (s : State S)
    → SameTexts s (string_put r code m s).state
put_texts (Ok x) code m s = refl
put_texts (Err t) code m s = refl

refused_texts : {S : Type 0} (r : Result (Unit {0}) Throw) (t : Throw) (s : State S)
    → SameTexts s (string_refused r t s).state
refused_texts (Ok x) t s = refl
refused_texts (Err first) t s = refl

kept_texts : {S : Type 0} (a : Answered S) (r : Result (ℕ × DataSpace) MemFault) (s : State S)
    → SameTexts s (string_kept a r s).state
kept_texts a (Ok x) s = put_texts a.ended a.code x.1 s
kept_texts a (Err fault) s = refused_texts a.ended _ s

said_texts : {S : Type 0} (r : Result (ℕ × Board) Throw) (s : State S) → SameTexts s (by_string r s).state
said_texts (Ok x) s = refl
said_texts (Err t) s = refl

spelt_texts : {S : Type 0} (r : Result (S × DataSpace) Throw) (s : State S) → SameTexts s (by_spelling r s).state
spelt_texts (Ok x) s = refl
spelt_texts (Err t) s = refl

-- ---- the end of what is read

state_texts : {S : Type 0} (b : Bool) (x y : State S) → HasTexts x → HasTexts y → HasTexts (if b then x else y)
state_texts true x y h k = h
state_texts false x y h k = k

either : {S : Type 0} (b : Bool) (x y : Outcome S) → HasTexts x.state → HasTexts y.state
    → HasTexts (if b then x else y).state
either true x y h k = h
either false x y h k = k

given_up_texts : {S : Type 0} (c : Calls S) (s : State S) → HasTexts s → HasTexts (given_up c s)
given_up_texts c s h = state_texts (is_some s.words.defining) _ s h h

cut_input : (i : Input) (texts : List (List ℕ)) → AreTexts texts → AreTexts (texts_left i texts)
cut_input input.Nothing texts h = h
cut_input (input.Image size position) texts h = h
cut_input (input.Text position) [] h = tt
cut_input (input.Text position) (text ∷ texts) h = h.1

back_texts : (r : List ReturnItem) (f : Flow) → (going_back r f).texts ≡ f.texts
back_texts [] f = refl
back_texts (Return to ∷ r) f = refl
back_texts (Loop l ∷ r) f = refl
back_texts (User x ∷ r) f = refl
back_texts (Handler h ∷ r) f = refl
back_texts (Source x ∷ r) f = refl
back_texts (Caller d ∷ r) f = refl

source_texts : {S : Type 0} (s : State S) → HasTexts s → HasTexts (source_ended s)
source_texts s h =
    let o = reading_on (or_nothing (latest_source s.flow.items)) s in
    by_same o (source_ended s) (back_texts (beneath_source s.flow.items) o.flow)
    (cut_input s.flow.reading.input s.flow.texts h)

ended_texts : {S : Type 0} (c : Calls S) (s : State S) → HasTexts s → HasTexts (ended c s).state
ended_texts c s h = either (ends_inside s) _ _ (given_up_texts c s h) (source_texts s h)

-- ---- what comes next

act_texts : {S : Type 0} (l : Laws) (c : Calls S) (a : Act) (s : State S)
    → IsAct (running_rules S) (running_turns S true) s a → HasTexts s → HasTexts (acted c a s).state
unfolding acted
act_texts l c (act.Does a) s k h = work_texts l c a s k h
act_texts l c (act.Goes cells move n) s k h = h
act_texts l c (act.Copies a n) s k h =
    by_same s (acted c (act.Copies a n) s).state
    (kept_texts (c.element (string_element s.board.memory.here n) s.code) (append_copied s.board.memory a n []) s) h
act_texts l c (act.Makes d) s k h =
    by_same s (acted c (act.Makes d) s).state
    (then_texts _ _ s (word_defined c d s) (word_texts c d (awaited d s.words) s)) h
act_texts l c act.Closes s k h =
    by_same s (acted c act.Closes s).state
    (then_texts _ _ s (definition_ended c s.words.defining s) (end_texts c s.words.defining s)) h
act_texts l c act.Ends s k h = ended_texts c s h

text_texts : {S : Type 0} (l : Laws) (c : Calls S) (a : TextAct) (s : State S)
    → IsTextAct (running_rules S) (running_turns S true) AnyBytes s a → HasTexts s
    → HasTexts (text_acted c a s).state
unfolding text_acted worked
text_texts l c (Acts a) s k h = act_texts l c a s k h
text_texts l c (AppendsAll es cells) s k h =
    by_same s (text_acted c (AppendsAll es cells) s).state
    (left_texts (all_appended c es s.code).ended cells s) h
text_texts l c (Names d name) s k h =
    by_same s (text_acted c (Names d name) s).state
    (then_texts _ _ s (word_named c d name s) (named_texts c d name (awaited d s.words) s)) h
text_texts l c (Says bytes) s k h =
    by_same s (text_acted c (Says bytes) s).state
    (said_texts (string_said bytes s.flow.strings s.board) s) h
text_texts l c (Spells bytes es) s k h =
    by_same s (text_acted c (Spells bytes es) s).state
    (spelt_texts (string_spelt c bytes es s.board.memory s.code) s) h
text_texts l c Interprets s k h = h
text_texts l c (Selects node) s k h = h
text_texts l c (Sees xt) s k h = h

item_texts : {S : Type 0} (l : Laws) (c : Calls S) (o : Option (Item × Place)) (s : State S) → HasSoundSpace s
    → HasTexts (item_due c o s).state
item_texts l c None s h = h.1
item_texts {S} l c (Some x) s h =
    let on = with_next (continuation.Code x.1.cell) s in
    let R = running_rules S in
    act_texts l c (item_act x.0 (front_of on)) on
    (item_acts R (running_turns S true) x.0 on (anywhere R (λ n y. tt) (target_of x.0) on) (λ m. h.0)
    (all_executed R tt (plan_of_item x.0 (plan_in on)) on (λ m. h.0) tt (λ y e. tt)))
    h.1

token_texts : {S : Type 0} (l : Laws) (c : Calls S) (o : Option (Token × ℕ)) (size : OffsetSize) (position : ℕ)
    (s : State S) → HasSoundSpace s → HasTexts (found_token c o size position s).state
token_texts l c None size position s h = h.1
token_texts {S} l c (Some x) size position s h =
    let on = read_on (size_behind x.0.code.0 size) x.1 s in
    let here = spot_in s.board.memory position x.1 in
    let R = running_rules S in
    let T = running_turns S true in
    act_texts l c (act_of (typed_of x.0) here (front_of on)) on
    (typed_acts R T (typed_of x.0) here on (λ m. h.0)
    (typed_may R T (word_numbered x.0.code.0) x.0.code x.0.argument on.flow.is_compiling on
    (record {
      positions = tt;
      ends = λ e. refl;
      makes = λ e. tt;
      closes = λ e z. tt;
      appends = λ e. tt;
      executes = all_executed R tt _ on (λ m. h.0) tt (λ y e. tt);
    })))
    h.1

word_done_texts : {S : Type 0} (l : Laws) (c : Calls S) (x : Found) (s : State S) → IsSaid x.word → HasSoundSpace s
    → HasTexts (word_done c x s).state
word_done_texts {S} l c x s said h =
    let on = read_from x.next s in
    let R = running_rules S in
    text_texts l c (text_act x.word (front_of on)) on
    (text_acts R (running_turns S true) AnyBytes x.word on (λ m. h.0)
    (record {
      said = said;
      ends = λ e. refl;
      makes = tt;
      closes = λ e. tt;
      appends = λ e. tt;
      prints = tt;
      executes = all_executed R tt _ on (λ m. h.0) tt (λ y e. tt);
      strings = λ n. tt;
      quotes = λ at. tt;
    }))
    h.1

reading_texts : {S : Type 0} (l : Laws) (c : Calls S) (i : Input) (s : State S) → HasSoundSpace s
    → HasTexts (reading_due c i s).state
reading_texts l c (input.Image size position) s h =
    token_texts l c (token_from (latest_image s.board.memory) position size) size position s h
reading_texts l c (input.Text position) s h = word_done_texts l c (word_at position s) s (word_said position s) h
reading_texts l c input.Nothing s h = h.1

pub due_texts : {S : Type 0} (l : Laws) (c : Calls S) (to : Continuation) (s : State S) → HasSoundSpace s
    → HasTexts (due_next c to s).state
due_texts l c continuation.Source s h = reading_texts l c s.flow.reading.input s h
due_texts l c (continuation.Code n) s h = item_texts l c (c.fetch s.code (record { cell = n })) s h

-- ---- the end of a step

caught_texts : {S : Type 0} (c : Calls S) (f : ExceptionFrame) (t : Throw) (s : State S) → HasTexts s
    → HasTexts (caught c f t s)
caught_texts c f t s h =
    let o = resumed f t s in
    state_texts (is_same (open_xt o) f.opened) o (given_up c o) h (given_up_texts c o h)

load_texts : {S : Type 0} (d : Due) (s : State S) → HasTexts s → HasTexts (load_left d s)
load_texts (due.Load active me instance count) s h = h
load_texts (due.Method me) s h = h
load_texts (due.Open me instance) s h = h
load_texts (due.Close me instance) s h = h

cut_texts : {S : Type 0} (c : Calls S) (item : ReturnItem) (t : Throw) (s : State S) → HasTexts s
    → HasTexts (cut_one c item t s)
cut_texts c (Handler f) t s h = caught_texts c f t s h
cut_texts c (Source r) t s h = cut_input s.flow.reading.input s.flow.texts h
cut_texts c (Return to) t s h = h
cut_texts c (Loop l) t s h = h
cut_texts c (User x) t s h = h
cut_texts c (Caller d) t s h = load_texts d s h

answered_texts : {S : Type 0} (ih : Cell) (cells : List Cell) (s : State S) → HasTexts s
    → HasTexts (open_answered ih cells s)
answered_texts ih [] s h = h
answered_texts ih (x ∷ cells) s h = state_texts (x.0 == 0) _ _ h h

left_due_texts : {S : Type 0} (d : Due) (s : State S) → HasTexts s → HasTexts (due_left d s)
left_due_texts (due.Load active me instance count) s h = h
left_due_texts (due.Method me) s h = h
left_due_texts (due.Open me instance) s h = answered_texts instance s.board.stack s h
left_due_texts (due.Close me instance) s h = h

worked_off_texts : {S : Type 0} (c : Calls S) (item : ReturnItem) (s : State S) → HasTexts s
    → HasTexts (worked_one c item s)
worked_off_texts c (Handler f) s h = state_texts (is_full s) _ _ (caught_texts c f stack_overflow s h) h
worked_off_texts c (Caller d) s h = left_due_texts d _ h
worked_off_texts c (Source r) s h = h
worked_off_texts c (Return to) s h = h
worked_off_texts c (Loop l) s h = h
worked_off_texts c (User x) s h = h

pub settled_texts : {S : Type 0} (c : Calls S) (items : List ReturnItem) (t : Option Throw) (s : State S) → HasTexts s
    → HasTexts (settled c items t s)
unfolding settled
settled_texts c [] None s h = h
settled_texts c [] (Some t) s h = given_up_texts c (fallen t s) tt
settled_texts c (item ∷ r) (Some t) s h =
    settled_texts c r (still_thrown item t) (cut_one c item t (with_items r s)) (cut_texts c item t (with_items r s) h)
settled_texts c (item ∷ r) None s h =
    let after = worked_one c item (with_items r s) in
    state_texts (is_due item) (settled c r (thrown_at item s) after) s
    (settled_texts c r (thrown_at item s) after (worked_off_texts c item (with_items r s) h)) h

pub step_texts : {S : Type 0} (l : Laws) (c : Calls S) (s : State S) → HasSoundSpace s → HasTexts (stepped c s)
unfolding stepped
step_texts l c s h =
    let o = due_next c s.flow.next s in
    state_texts s.flow.is_running (settled_of c o) s
    (settled_texts c o.state.flow.items (thrown_in o.ended) o.state (due_texts l c s.flow.next s h)) h.1

pub begun_texts : {S : Type 0} (image : List ℕ) (node : Phandle) (s : State S) → HasTexts s
    → HasTexts (begun image node s)
begun_texts image node s h = begun_is (λ x. HasTexts x) image node s h (λ x e fits. h)
