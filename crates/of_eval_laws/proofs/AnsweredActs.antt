-- The law `questions_settle`: with an answer at hand nothing asks.
use Rattle.std.proofs.Common.{◌≡◌, ◌∙◌, ℕ, Bool, true, false, List, [], Option, Some, None, Result, Ok, Err, refl, ap}
use Rattle.std.proofs.Common.{if◌then◌else◌}
use Rattle.std.specs.Prelude.{◌&&◌, is_none}
use Rattle.of_stacks.specs.declared.return_item.Continuation.{Continuation}
use Rattle.of_stacks.specs.declared.return_item.Continuation.TheVariants as continuation
use Rattle.of_stacks.specs.declared.return_item.Input.{Input}
use Rattle.of_stacks.specs.declared.return_item.Input.TheVariants as input
use Rattle.of_stacks.specs.declared.throws.Throw.{Throw}
use Rattle.of_stream.specs.declared.stream.OffsetSize.{OffsetSize}
use Rattle.of_stream.specs.Decoding.{Token as Read}
use Rattle.of_memory.specs.DataSpace.{DataSpace}
use Rattle.of_memory.specs.Growth.{append_copied}
use Rattle.of_memory.specs.declared.fault.MemFault.{MemFault}
use Rattle.of_nodes.specs.declared.phandles.Phandle.{Phandle}
use Rattle.of_dict.specs.declared.word.Slot.{Slot}
use Rattle.of_code.specs.declared.item.Item.{Item}
use Rattle.of_code.specs.declared.item.Place.{Place}
use Rattle.of_compile.specs.declared.defining.DefiningWord.{DefiningWord}
use Rattle.of_compile.specs.Defining.{Making}
use Rattle.of_compile.specs.SlotWords.{SlotMaking, awaited}
use Rattle.of_board.specs.declared.board.Board.{Board}
use Rattle.of_asking.specs.Devices.{devices_entry}
use Rattle.of_asking.specs.Keys.{keys_entry}
use Rattle.of_asking.specs.Questions.{Asking, Asks, Gives}
use Rattle.of_asking.specs.Settling.{AnswersSettle, Settles}
use Rattle.of_asking.specs.declared.query.Answer.{Answer}
use Rattle.of_asking.specs.declared.query.Query.{Query}
use Rattle.of_eval.specs.Acts.{Act, WordAct}
use Rattle.of_eval.specs.Acts as act
use Rattle.of_eval.specs.Defining.{by_making, by_slot_making, definition_ended, string_element, string_kept, string_put}
use Rattle.of_eval.specs.Defining.{string_refused, word_defined, word_made_as}
use Rattle.of_eval.specs.Doing.{acted, worked}
use Rattle.of_eval.specs.Executing.{entered, furnished, guarded}
use Rattle.of_eval.specs.Methods.{then_known}
use Rattle.of_state.specs.State.{Answered, Calls, Outcome, State, by_asking, by_board, with_stack}
use Rattle.of_eval.specs.Naming.{word_named, word_named_as}
use Rattle.of_eval.specs.Reading.{found_token, token_due}
use Rattle.of_text.specs.declared.words.Found.{Found}
use Rattle.of_interpret.specs.Reading.{word_at, word_done}
use Rattle.of_interpret.specs.Strings.{by_spelling, by_string, string_said, string_spelt}
use Rattle.of_interpret.specs.TextActs.{Acts, AppendsAll, Interprets, Names, Says, Sees, Selects, Spells, TextAct}
use Rattle.of_interpret.specs.TextActs.{text_acted}
use Rattle.of_steps.specs.Steps.{asked_by, due, item_due, reading_due, replied}

-- ---- with an answer at hand words don't ask

-- what a word comes to is no question
abbrev IsGiven : Asking Board → Type 0
IsGiven (Gives r) = Unit {0}
IsGiven (Asks q) = ⊥

given : (b : Board) (answer : Answer) (x settled : Asking Board) → Settles b answer x settled → IsGiven settled
given b answer (Asks q) (Gives r) h = tt
given b answer (Asks q) (Asks p) h = cc
given b answer (Gives r) (Gives x) h = tt
given b answer (Gives r) (Asks p) h = cc

pub board_asks : {S : Type 0} (r : Result Board Throw) (s : State S) → (by_board r s).asks ≡ None
board_asks (Ok p) s = refl
board_asks (Err t) s = refl

given_asks : {S : Type 0} (x : Asking Board) (s : State S) → IsGiven x → (by_asking x s).asks ≡ None
given_asks (Gives r) s h = board_asks r s
given_asks (Asks q) s h = absurd h

work_asks : {S : Type 0} (c : Calls S) (law : AnswersSettle) (answer : Answer) (a : WordAct) (s : State S)
    → s.reply ≡ Some answer → (worked c a s).asks ≡ None
unfolding worked
work_asks c law answer (act.Fails t) s e = refl
work_asks c law answer (act.Raises t cells) s e = refl
work_asks c law answer (act.Leaves cells) s e = refl
work_asks c law answer (act.Works w) s e = board_asks _ s
work_asks c law answer (act.Listens w) s e =
    let x = keys_entry w (Some answer) s.board in
    ap (λ r. (by_asking (keys_entry w r s.board) s).asks) e
    ∙ given_asks x s (given s.board answer (keys_entry w None s.board) x (law.keys w answer s.board))
work_asks c law answer (act.Reaches w) s e =
    let x = devices_entry w (Some answer) s.board in
    ap (λ r. (by_asking (devices_entry w r s.board) s).asks) e
    ∙ given_asks x s (given s.board answer (devices_entry w None s.board) x (law.devices w answer s.board))
work_asks c law answer (act.Moves cells move to) s e = refl
work_asks c law answer (act.Knows w cells) s e = refl
work_asks c law answer (act.Stores m cells) s e = refl
work_asks c law answer act.Compiles s e = refl
work_asks c law answer (act.Prints text) s e = refl
work_asks c law answer (act.Appends x cells) s e = refl
work_asks c law answer (act.Loads size m cells) s e = refl
work_asks c law answer (act.Reads text cells) s e = refl
work_asks c law answer (act.Takes cells a) s e = work_asks c law answer a (with_stack cells s) e
work_asks c law answer (act.Guards cells a) s e = work_asks c law answer a (guarded cells s) e
work_asks c law answer (act.Enters cells d ih a) s e = work_asks c law answer a (entered cells d ih s) e
work_asks c law answer (act.Opens x a) s e = work_asks c law answer a (furnished x s) e
work_asks c law answer (act.Refuses t) s e = refl

-- ---- items and tokens ask by a word alone

then_asks : {S : Type 0} (home : Option Phandle) (n : Option ℕ) (o : Outcome S) → (then_known home n o).asks ≡ o.asks
then_asks home None o = refl
then_asks home (Some n) o = refl

making_asks : {S : Type 0} (d : DefiningWord) (r : Result Making Throw) (s : State S) → (by_making d r s).asks ≡ None
making_asks d (Ok g) s = refl
making_asks d (Err t) s = refl

slot_asks : {S : Type 0} (r : Result SlotMaking Throw) (s : State S) → (by_slot_making r s).asks ≡ None
slot_asks (Ok g) s = refl
slot_asks (Err t) s = refl

word_asks : {S : Type 0} (c : Calls S) (d : DefiningWord) (o : Option Slot) (s : State S)
    → (word_made_as c d o s).asks ≡ None
word_asks c d None s = making_asks d _ s
word_asks c d (Some k) s = slot_asks _ s

end_asks : {S : Type 0} (c : Calls S) (n : Option ℕ) (s : State S) → (definition_ended c n s).asks ≡ None
end_asks c None s = refl
end_asks c (Some n) s = refl

put_asks : {S : Type 0} (r : Result (Unit {0}) Throw) (code : S) (m : DataSpace) (s : State S)
    → (string_put r code m s).asks ≡ None
put_asks (Ok x) code m s = refl
put_asks (Err t) code m s = refl

refused_asks : {S : Type 0} (r : Result (Unit {0}) Throw) (t : Throw) (s : State S)
    → (string_refused r t s).asks ≡ None
refused_asks (Ok x) t s = refl
refused_asks (Err first) t s = refl

string_asks : {S : Type 0} (a : Answered S) (r : Result (ℕ × DataSpace) MemFault) (s : State S)
    → (string_kept a r s).asks ≡ None
string_asks a (Ok x) s = put_asks a.ended a.code x.1 s
string_asks a (Err fault) s = refused_asks a.ended _ s

either_asks : {S : Type 0} (b : Bool) (x y : Outcome S) → x.asks ≡ None → y.asks ≡ None
    → (if b then x else y).asks ≡ None
either_asks true x y ex ey = ex
either_asks false x y ex ey = ey

pub act_told : {S : Type 0} (c : Calls S) (a : Act) (s : State S)
    → ((w : WordAct) → a ≡ act.Does w → (worked c w s).asks ≡ None) → (acted c a s).asks ≡ None
unfolding acted
act_told c (act.Does a) s h = h a refl
act_told c (act.Goes cells move n) s h = refl
act_told c (act.Copies a n) s h =
    string_asks (c.element (string_element s.board.memory.here n) s.code) (append_copied s.board.memory a n []) s
act_told c (act.Makes d) s h =
    then_asks _ _ (word_defined c d s) ∙ word_asks c d (awaited d s.words) s
act_told c act.Closes s h =
    then_asks _ _ (definition_ended c s.words.defining s) ∙ end_asks c s.words.defining s
act_told c act.Ends s h = either_asks _ _ _ refl refl

act_asks : {S : Type 0} (c : Calls S) (law : AnswersSettle) (answer : Answer) (a : Act) (s : State S)
    → s.reply ≡ Some answer → (acted c a s).asks ≡ None
act_asks c law answer a s e = act_told c a s (λ w i. work_asks c law answer w s e)

-- ---- words of a text

named_asks : {S : Type 0} (c : Calls S) (d : DefiningWord) (name : List ℕ) (o : Option Slot) (s : State S)
    → (word_named_as c d name o s).asks ≡ None
named_asks c d name None s = making_asks d _ s
named_asks c d name (Some k) s = slot_asks _ s

said_asks : {S : Type 0} (r : Result (ℕ × Board) Throw) (s : State S) → (by_string r s).asks ≡ None
said_asks (Ok x) s = refl
said_asks (Err t) s = refl

spelt_asks : {S : Type 0} (r : Result (S × DataSpace) Throw) (s : State S) → (by_spelling r s).asks ≡ None
spelt_asks (Ok x) s = refl
spelt_asks (Err t) s = refl

pub text_told : {S : Type 0} (c : Calls S) (a : TextAct) (s : State S)
    → ((w : Act) → a ≡ Acts w → (acted c w s).asks ≡ None) → (text_acted c a s).asks ≡ None
unfolding text_acted worked
text_told c (Acts a) s h = h a refl
text_told c (AppendsAll es cells) s h = refl
text_told c (Names d name) s h =
    then_asks _ _ (word_named c d name s) ∙ named_asks c d name (awaited d s.words) s
text_told c (Says bytes) s h = said_asks (string_said bytes s.flow.strings s.board) s
text_told c (Spells bytes es) s h = spelt_asks (string_spelt c bytes es s.board.memory s.code) s
text_told c Interprets s h = refl
text_told c (Selects node) s h = refl
text_told c (Sees xt) s h = refl

-- ---- what comes next

item_asks : {S : Type 0} (c : Calls S) (law : AnswersSettle) (answer : Answer) (o : Option (Item × Place))
    (s : State S) → s.reply ≡ Some answer → (item_due c o s).asks ≡ None
item_asks c law answer None s e = refl
item_asks c law answer (Some x) s e = act_asks c law answer _ _ e

found_asks : {S : Type 0} (c : Calls S) (law : AnswersSettle) (answer : Answer) (o : Option (Read × ℕ))
    (size : OffsetSize) (position : ℕ) (s : State S) → s.reply ≡ Some answer
    → (found_token c o size position s).asks ≡ None
found_asks c law answer None size position s e = refl
found_asks c law answer (Some x) size position s e = act_asks c law answer _ _ e

token_asks : {S : Type 0} (c : Calls S) (law : AnswersSettle) (answer : Answer) (i : Input) (s : State S)
    → s.reply ≡ Some answer → (token_due c i s).asks ≡ None
token_asks c law answer (input.Image size position) s e = found_asks c law answer _ size position s e
token_asks c law answer (input.Text position) s e = refl
token_asks c law answer input.Nothing s e = refl

text_asks : {S : Type 0} (c : Calls S) (law : AnswersSettle) (answer : Answer) (x : Found) (s : State S)
    → s.reply ≡ Some answer → (word_done c x s).asks ≡ None
text_asks c law answer x s e = text_told c _ _ (λ a i. act_asks c law answer a _ e)

reading_asks : {S : Type 0} (c : Calls S) (law : AnswersSettle) (answer : Answer) (i : Input) (s : State S)
    → s.reply ≡ Some answer → (reading_due c i s).asks ≡ None
reading_asks c law answer (input.Image size position) s e =
    token_asks c law answer (input.Image size position) s e
reading_asks c law answer (input.Text position) s e = text_asks c law answer (word_at position s) s e
reading_asks c law answer input.Nothing s e = refl

due_asks : {S : Type 0} (c : Calls S) (law : AnswersSettle) (answer : Answer) (to : Continuation) (s : State S)
    → s.reply ≡ Some answer → (due c to s).asks ≡ None
due_asks c law answer continuation.Source s e = reading_asks c law answer s.flow.reading.input s e
due_asks c law answer (continuation.Code n) s e = item_asks c law answer _ s e

pub nothing_asked : {S : Type 0} (c : Calls S) (law : AnswersSettle) (answer : Answer) (s : State S)
    → asked_by c (replied answer s) ≡ None
nothing_asked c law answer s = due_asks c law answer s.flow.next (replied answer s) refl

pub made_if : {S : Type 0} (b : Bool) (o : Option Query) (s : State S) → b ≡ true → o ≡ None
    → (if b && is_none o then Some s else None) ≡ Some s
made_if true None s e f = refl
made_if true (Some q) s e f = absurd cc
made_if false o s e f = absurd cc
