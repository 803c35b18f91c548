-- What a step throws has a listed number, or is the number of a cell that `throw` takes.
use Rattle.std.proofs.Common.{◌≡◌, ℕ, ◌+◌, Bool, true, false, List, [], ◌∷◌, length, Option, Some, None, Result, Ok}
use Rattle.std.proofs.Common.{Err, inl, inr, refl}
use Rattle.std.proofs.Common.{if◌then◌else◌, ◌⊎◌, subst}
use Rattle.of_cells.specs.declared.cells.Cell.{Cell}
use Rattle.of_cells.specs.Numbers.{signed}
use Rattle.of_code.specs.declared.item.Item.{Item}
use Rattle.of_code.specs.declared.item.Item.TheVariants.{Return as ItemReturn}
use Rattle.of_code.specs.declared.item.Place.{Place}
use Rattle.of_code.specs.Code.{finished, has_room}
use Rattle.of_code.specs.Items.{target_of}
use Rattle.of_stacks.specs.declared.return_item.Continuation.{Continuation}
use Rattle.of_stacks.specs.declared.return_item.Continuation.TheVariants as continuation
use Rattle.of_stacks.specs.declared.return_item.Input.{Input}
use Rattle.of_stacks.specs.declared.return_item.Input.TheVariants as input
use Rattle.of_stacks.specs.declared.throws.Throw.{Throw}
use Rattle.of_stacks.specs.Stacks.{within}
use Rattle.of_stacks.specs.Throws.{ThrowsListed, control_mismatch, dictionary_overflow, is_listed, listed_numbers}
use Rattle.of_fcodes.specs.Lookup.{word_numbered}
use Rattle.of_fcodes.specs.Tokens.{entry_in}
use Rattle.of_stream.specs.declared.stream.OffsetSize.{OffsetSize}
use Rattle.of_stream.specs.Decoding.{Token, token_from}
use Rattle.of_stream.specs.Sizes.{size_behind}
use Rattle.of_memory.specs.declared.fault.MemFault.{MemFault}
use Rattle.of_memory.specs.DataSpace.{DataSpace}
use Rattle.of_memory.specs.Access.{bytes_written}
use Rattle.of_memory.specs.Growth.{append_copied, appended as with_bytes}
use Rattle.of_memory.specs.Images.{latest_image}
use Rattle.of_prims.specs.Data.{throw_of}
use Rattle.of_prims.specs.Listed.{ThrowListedNumbers}
use Rattle.of_instances.specs.Listed.{ThrowListedNumbers as TreeWordsListed}
use Rattle.of_nodes.specs.declared.phandles.Phandle.{Phandle}
use Rattle.of_dict.specs.Words.{xt_of}
use Rattle.of_control.specs.Body.{Body}
use Rattle.of_control.specs.Element.{Element}
use Rattle.of_control.specs.Openers.{is_all_closed}
use Rattle.of_control.specs.Reading.{body_in}
use Rattle.of_compile.specs.declared.defining.DefiningWord.{DefiningWord}
use Rattle.of_compile.specs.declared.element.PlainItem.{PlainItem}
use Rattle.of_compile.specs.Structured.{Definitions, finished_told, has_room as has_room_in, refused, told}
use Rattle.of_compile.specs.Coding.{Coding, Outcome as CodingOutcome, compiled as compiled_in, compiling, finishing}
use Rattle.of_compile.specs.Coding.{fits}
use Rattle.of_compile.specs.Defining.{Making, making}
use Rattle.of_compile.specs.Elements.{own_item}
use Rattle.of_board.specs.declared.board.Board.{Board}
use Rattle.of_asking.specs.Devices.{devices_entry}
use Rattle.of_asking.specs.Keys.{keys_entry}
use Rattle.of_asking.specs.Listed.{AsksOrThrowsListed, ThrowListedNumbers as AskingWordsListed}
use Rattle.of_asking.specs.Questions.{Asking, Asks, Gives}
use Rattle.of_eval.specs.Acts.{Act, Closes, Fails, WordAct, front_of}
use Rattle.of_eval.specs.Acts as act
use Rattle.of_eval.specs.Defining.{by_making, define_entry, known_at_once, semicolon_entry, string_compiled}
use Rattle.of_eval.specs.Defining.{string_element, string_kept, string_put, string_refused, word_defined}
use Rattle.of_eval.specs.Doing.{acted, worked}
use Rattle.of_eval.specs.Executing.{entered, furnished, guarded, plan_in}
use Rattle.of_eval.specs.Items.{item_act}
use Rattle.of_eval.specs.Methods.{then_known}
use Rattle.of_state.specs.Settling.{ended, ends_inside}
use Rattle.of_state.specs.State.{Answered, Calls, Outcome, State, by_asking, by_board, flat_calls, with_next}
use Rattle.of_state.specs.State.{with_stack}
use Rattle.of_eval.specs.Naming.{naming_done, word_named, word_named_as}
use Rattle.of_eval.specs.Reading.{found_token, read_on}
use Rattle.of_text.specs.declared.words.Found.{Found}
use Rattle.of_interpret.specs.Reading.{read_from, word_at, word_done}
use Rattle.of_interpret.specs.Strings.{all_appended, by_spelling, by_string, bytes_put, place_for, said, spelt}
use Rattle.of_interpret.specs.Strings.{string_left, string_left_in, strings_start, unless_thrown}
use Rattle.of_interpret.specs.TextActs.{Acts, AppendsAll, Interprets, Names, Says, Sees, Selects, Spells, TextAct}
use Rattle.of_interpret.specs.TextActs.{text_acted}
use Rattle.of_interpret.specs.TextWords.{text_act}
use Rattle.of_steps.specs.Steps.{due, item_done, item_due, reading_due}
use Rattle.of_eval.specs.Tokens.{act_of, spot_in}
use Rattle.of_flow.specs.Tokens.{typed_of}
use Rattle.of_words.specs.Words.{word_entry}
use Rattle.of_eval_laws.specs.Structured.{structured_calls}
use Rattle.of_eval_laws.specs.Listed.{Raises, StepsThrowListed, WordsThrowListed, cell_next, cell_of, closes}
use Rattle.of_eval_laws.specs.Listed.{closes_next, closes_reading, is_text_semicolon, plan_fetched, plan_of_item}
use Rattle.of_eval_laws.specs.Listed.{plan_read, plan_reading, plan_said, plan_spoken, plan_with, token_of}
use Rattle.of_eval_laws.proofs.ListedFaults.{defining_listed, naming_listed, slot_naming_listed, slot_word_listed}
use Rattle.of_eval_laws.proofs.ListedFaults.{within_listed}
use Rattle.of_eval_laws.proofs.TextFaults.{IsSaid, word_said}
use Rattle.of_eval_laws.proofs.Walk.{IsAct, Turns, item_acts, typed_acts}
use Rattle.of_eval_laws.proofs.WalkFree.{anywhere, free, free_turns}
use Rattle.of_eval_laws.proofs.WalkTexts.{AnyBytes, IsTextAct, text_acts}
use Rattle.of_eval_laws.proofs.WalkTyped.{typed_may}
use Rattle.of_eval_laws.proofs.WalkWords.{IsWork, Rules, all_executed}
use Rattle.of_compile.specs.SlotWords.{SlotMaking, awaited, slot_making}
use Rattle.of_dict.specs.declared.word.Slot.{Slot}
use Rattle.of_eval.specs.Defining.{by_slot_making, word_made_as}

-- ---- what a program throws

-- what ending a definition throws is listed, or is -22
abbrev EndsListed : Result (Unit {0}) Throw → Type 0
EndsListed (Ok x) = Unit {0}
EndsListed (Err t) = (is_listed t ≡ true) ⊎ (t ≡ control_mismatch)

-- what calls on definitions throw is listed
record CallsThrowListed (S : Type 0) (c : Calls S) : Type 0 where
  element : (e : Element PlainItem) (code : S) → ThrowsListed (c.element e code).ended
  semicolon : (xt : Cell) (code : S) → EndsListed (c.semicolon xt code).ended

-- what is left by a token or an item, where `throw` takes this cell, and a definition is ended or isn't
abbrev Raised : {S : Type 0} → Option Cell → Bool → Outcome S → Type 0
Raised taken ends o = Raises taken ends o.ended

weaker : (taken : Option Cell) (ends : Bool) (r : Result (Unit {0}) Throw) → ThrowsListed r → Raises taken ends r
weaker taken ends (Ok x) h = tt
weaker taken ends (Err t) h = inl h

ends_weaker : (taken : Option Cell) (r : Result (Unit {0}) Throw) → EndsListed r → Raises taken true r
ends_weaker taken (Ok x) h = tt
ends_weaker taken (Err t) (inl h) = inl h
ends_weaker taken (Err t) (inr h) = inr (inl (refl, h))

-- what an outcome throws, if anything, is listed
abbrev Lists : {S : Type 0} → Outcome S → Type 0
Lists o = ThrowsListed o.ended

-- what is known of the board of a step
record Laws (S : Type 0) (c : Calls S) : Type 0 where
  calls : CallsThrowListed S c
  words : WordsThrowListed
  faults : ThrowListedNumbers
  methods : TreeWordsListed
  asking : AskingWordsListed

-- ---- the rules

-- what is thrown is listed, or is the number of the cell that `throw` takes
abbrev listing : (S : Type 0) → ThrowListedNumbers → TreeWordsListed → Option Cell → Rules S
listing S law methods taken = record (free S) {
  Fails = λ t. is_listed t ≡ true;
  Raises = λ t. (x : Cell) × (taken ≡ Some x) × (t.0 ≡ signed x);
  fails = λ t h. h;
  faults = λ f. law.faults f;
  calls = λ k w t e. subst (λ r. ThrowsListed r) e (methods.calls k w);
  declines = λ w ph a n t e. subst (λ r. ThrowsListed r) e (methods.opens w ph a n);
}

-- and a definition is ended where that may be
abbrev listing_turns :
    (S : Type 0) (law : ThrowListedNumbers) (methods : TreeWordsListed) (taken : Option Cell) → Bool
    → Turns (listing S law methods taken)
listing_turns S law methods taken ends =
    record (free_turns (listing S law methods taken) (λ s p. tt) (λ l s. tt) (λ n s. tt)) { Closes = ends ≡ true }

-- ---- acts of words

board_left : {S : Type 0} (r : Result Board Throw) (s : State S) → ThrowsListed r → Lists (by_board r s)
board_left (Ok p) s h = tt
board_left (Err t) s h = h

asking_left : {S : Type 0} (x : Asking Board) (s : State S) → AsksOrThrowsListed x → Lists (by_asking x s)
asking_left (Gives r) s h = board_left r s h
asking_left (Asks q) s h = tt

worked_raises : {S : Type 0} (c : Calls S) (l : Laws S c) (taken : Option Cell) (ends : Bool) (a : WordAct)
    (s : State S) → IsWork (listing S l.faults l.methods taken) s a → Raised taken ends (worked c a s)
unfolding worked
worked_raises c l taken ends (act.Fails t) s h = inl h
worked_raises c l taken ends (act.Raises t cells) s h = inr (inr h)
worked_raises c l taken ends (act.Leaves cells) s h = tt
worked_raises c l taken ends (act.Works w) s h =
    weaker taken ends _ (board_left (word_entry w s.board) s (l.words.words w s.board))
worked_raises c l taken ends (act.Listens w) s h =
    weaker taken ends _ (asking_left (keys_entry w s.reply s.board) s (l.asking.keys w s.reply s.board))
worked_raises c l taken ends (act.Reaches w) s h =
    weaker taken ends _ (asking_left (devices_entry w s.reply s.board) s (l.asking.devices w s.reply s.board))
worked_raises c l taken ends (act.Moves cells move to) s h = tt
worked_raises c l taken ends (act.Knows w cells) s h = tt
worked_raises c l taken ends (act.Stores m cells) s h = tt
worked_raises c l taken ends act.Compiles s h = tt
worked_raises c l taken ends (act.Prints text) s h = tt
worked_raises c l taken ends (act.Appends e cells) s h = weaker taken ends _ (l.calls.element e s.code)
worked_raises c l taken ends (act.Loads size m cells) s h = tt
worked_raises c l taken ends (act.Reads text cells) s h = tt
worked_raises c l taken ends (act.Takes cells a) s h = worked_raises c l taken ends a (with_stack cells s) h
worked_raises c l taken ends (act.Guards cells a) s h = worked_raises c l taken ends a (guarded cells s) h
worked_raises c l taken ends (act.Enters cells d ih a) s h =
    worked_raises c l taken ends a (entered cells d ih s) h.1
worked_raises c l taken ends (act.Opens x a) s h = worked_raises c l taken ends a (furnished x s) h.2
worked_raises c l taken ends (act.Refuses t) s h = inl h.1

-- ---- defining and compiling

makings : {S : Type 0} (d : DefiningWord) (r : Result Making Throw) (s : State S) → ThrowsListed r
    → Lists (by_making d r s)
makings d (Ok g) s h = tt
makings d (Err t) s h = h

slot_makings : {S : Type 0} (r : Result SlotMaking Throw) (s : State S) → ThrowsListed r
    → Lists (by_slot_making r s)
slot_makings (Ok g) s h = tt
slot_makings (Err t) s h = h

words_made : {S : Type 0} (c : Calls S) (d : DefiningWord) (o : Option Slot) (s : State S)
    → Lists (word_made_as c d o s)
words_made c d None s =
    makings d _ s (defining_listed d (c.ends_at s.code) (making s.words s.board.stack s.board.memory))
words_made c d (Some k) s =
    slot_makings _ s
    (slot_word_listed k s.board.active.«package»
    (slot_making s.words s.board.stack s.board.memory s.board.instances))

knows : {S : Type 0} (home : Option Phandle) (o : Option ℕ) (a : Outcome S) → Lists a → Lists (then_known home o a)
knows home None a h = h
knows home (Some n) a h = h

defines : {S : Type 0} (c : Calls S) (d : DefiningWord) (s : State S) → Lists (define_entry c d s)
defines c d s =
    knows s.board.active.«package» (known_at_once d s.words.dictionary) (word_defined c d s)
    (words_made c d (awaited d s.words) s)

semicolons : {S : Type 0} (c : Calls S) → CallsThrowListed S c → (n : Option ℕ) (s : State S)
    → EndsListed (semicolon_entry c n s).ended
unfolding is_listed listed_numbers
semicolons c h None s = inl refl
semicolons c h (Some n) s = h.semicolon (record { 0 = xt_of n }) s.code

puts : {S : Type 0} (r : Result (Unit {0}) Throw) (code : S) (m : DataSpace) (s : State S) → ThrowsListed r
    → Lists (string_put r code m s)
puts (Ok x) code m s h = tt
puts (Err t) code m s h = h

refuses : {S : Type 0} (r : Result (Unit {0}) Throw) (t : Throw) (s : State S) → ThrowsListed r
    → is_listed t ≡ true → Lists (string_refused r t s)
refuses (Ok x) t s h ht = ht
refuses (Err first) t s h ht = h

keeps : {S : Type 0} → ThrowListedNumbers → (a : Answered S) (r : Result (ℕ × DataSpace) MemFault) (s : State S)
    → ThrowsListed a.ended → Lists (string_kept a r s)
keeps law a (Ok x) s h = puts a.ended a.code x.1 s h
keeps law a (Err fault) s h = refuses a.ended (throw_of fault) s h (law.faults fault)

strings : {S : Type 0} (c : Calls S) → CallsThrowListed S c → ThrowListedNumbers → (a n : ℕ) (s : State S)
    → Lists (string_compiled c a n s)
strings c h law a n s =
    keeps law (c.element (string_element s.board.memory.here n) s.code) (append_copied s.board.memory a n []) s
    (h.element (string_element s.board.memory.here n) s.code)

ends_if : {S : Type 0} (b : Bool) (o p : Outcome S) → Lists o → Lists p → Lists (if b then o else p)
ends_if true o p ho hp = ho
ends_if false o p ho hp = hp

ends : {S : Type 0} (c : Calls S) (s : State S) → Lists (ended c s)
unfolding is_listed listed_numbers
ends c s = ends_if (ends_inside s) _ _ refl tt

-- ---- acts

closes_raise : (taken : Option Cell) (ends : Bool) (r : Result (Unit {0}) Throw) → ends ≡ true
    → EndsListed r → Raises taken ends r
closes_raise taken true r e h = ends_weaker taken r h
closes_raise taken false r e h = absurd cc

acted_raises : {S : Type 0} (c : Calls S) (l : Laws S c) (taken : Option Cell) (last : Bool) (a : Act) (s : State S)
    → IsAct (listing S l.faults l.methods taken) (listing_turns S l.faults l.methods taken last) s a
    → Raised taken last (acted c a s)
unfolding acted
acted_raises c l taken last (act.Does a) s h = worked_raises c l taken last a s h
acted_raises c l taken last (act.Goes cells move n) s h = tt
acted_raises c l taken last (act.Copies a n) s h = weaker taken last _ (strings c l.calls l.faults a n s)
acted_raises c l taken last (act.Makes d) s h = weaker taken last _ (defines c d s)
acted_raises c l taken last act.Closes s h = closes_raise taken last _ h (semicolons c l.calls s.words.defining s)
acted_raises c l taken last act.Ends s h = weaker taken last _ (ends c s)

-- ---- tokens

founds : {S : Type 0} (c : Calls S) → Laws S c → (f : Option (Token × ℕ)) (size : OffsetSize) (position : ℕ)
    (s : State S)
    → Raised (cell_of (plan_read f size s) s.board.stack)
    (closes (token_of f)) (found_token c f size position s)
unfolding is_listed listed_numbers
founds c l None size position s = inl refl
founds {S} c l (Some x) size position s =
    let on = read_on (size_behind x.0.code.0 size) x.1 s in
    let here = spot_in s.board.memory position x.1 in
    let taken = cell_of (plan_read (Some x) size s) s.board.stack in
    let R = listing S l.faults l.methods taken in
    let T = listing_turns S l.faults l.methods taken (closes (Some x.0)) in
    acted_raises c l taken (closes (Some x.0)) (act_of (typed_of x.0) here (front_of on)) on
    (typed_acts R T (typed_of x.0) here on tt
    (typed_may R T (word_numbered x.0.code.0) x.0.code x.0.argument on.flow.is_compiling on
    (record {
      positions = tt;
      ends = λ e. tt;
      makes = λ e. tt;
      closes = λ e z. e;
      appends = λ e. tt;
      executes =
          all_executed R tt
          (plan_with x.0.argument (word_numbered x.0.code.0) (entry_in on.words.table x.0.code.0)
          on.flow.is_compiling (plan_in on))
          on tt tt (λ y e. (y, e, refl));
    })))

-- ---- words of a text

named : {S : Type 0} (c : Calls S) (d : DefiningWord) (name : List ℕ) (o : Option Slot) (s : State S)
    → Lists (word_named_as c d name o s)
named c d name None s =
    makings d _ s (naming_listed d name (c.ends_at s.code) (making s.words s.board.stack s.board.memory))
named c d name (Some k) s =
    slot_makings _ s
    (slot_naming_listed k name s.board.active.«package»
    (slot_making s.words s.board.stack s.board.memory s.board.instances))

names : {S : Type 0} (c : Calls S) (d : DefiningWord) (name : List ℕ) (s : State S) → Lists (naming_done c d name s)
names c d name s =
    knows s.board.active.«package» (known_at_once d s.words.dictionary) (word_named c d name s)
    (named c d name (awaited d s.words) s)

rests : {S : Type 0} (r : Result (Unit {0}) Throw) (a : Answered S) (f : S → Answered S) → ThrowsListed a.ended
    → ((code : S) → ThrowsListed (f code).ended) → ThrowsListed (unless_thrown r a f).ended
rests (Ok x) a f h k = k a.code
rests (Err t) a f h k = h

all_appends : {S : Type 0} (c : Calls S) → CallsThrowListed S c → (es : List (Element PlainItem)) (code : S)
    → ThrowsListed (all_appended c es code).ended
all_appends c h [] code = tt
all_appends c h (e ∷ es) code =
    let a = c.element e code in
    rests a.ended a (λ x. all_appended c es x) (h.element e code) (λ x. all_appends c h es x)

string_lefts : ThrowListedNumbers → (r : Result (List Cell) Throw) (m : Result DataSpace MemFault) (n : ℕ) (b : Board)
    → ThrowsListed r → ThrowsListed (string_left r m n b)
string_lefts law (Ok cells) (Ok m) n b h = tt
string_lefts law (Ok cells) (Err fault) n b h = law.faults fault
string_lefts law (Err t) m n b h = h

by_strings : {S : Type 0} (r : Result (ℕ × Board) Throw) (s : State S) → ThrowsListed r → Lists (by_string r s)
by_strings (Ok x) s h = tt
by_strings (Err t) s h = h

says : {S : Type 0} → ThrowListedNumbers → (bytes : List ℕ) (s : State S) → Lists (said bytes s)
says law bytes s =
    let at = place_for s.flow.strings (length bytes) in
    let cells = record { 0 = length bytes } ∷ record { 0 = strings_start + at } ∷ s.board.stack in
    let written = bytes_written s.board.memory (strings_start + at) bytes in
    by_strings _ s
    (string_lefts law (within cells) written (at + length bytes) s.board (within_listed cells))

bytes_puts : ThrowListedNumbers → (r : Result (ℕ × DataSpace) MemFault) → ThrowsListed (bytes_put r)
bytes_puts law (Ok x) = tt
bytes_puts law (Err fault) = law.faults fault

left_ins : {S : Type 0} (r : Result (Unit {0}) Throw) (code : S) (m : Result DataSpace Throw) → ThrowsListed r
    → ThrowsListed m → ThrowsListed (string_left_in r code m)
left_ins (Ok x) code (Ok m) h k = tt
left_ins (Ok x) code (Err t) h k = k
left_ins (Err t) code m h k = h

spellings : {S : Type 0} (r : Result (S × DataSpace) Throw) (s : State S) → ThrowsListed r → Lists (by_spelling r s)
spellings (Ok x) s h = tt
spellings (Err t) s h = h

spells : {S : Type 0} (c : Calls S) → CallsThrowListed S c → ThrowListedNumbers → (bytes : List ℕ)
    (es : List (Element PlainItem)) (s : State S) → Lists (spelt c bytes es s)
spells c h law bytes es s =
    let all = string_element s.board.memory.here (length bytes) ∷ es in
    let a = all_appended c all s.code in
    spellings _ s
    (left_ins a.ended a.code (bytes_put (with_bytes s.board.memory bytes)) (all_appends c h all s.code)
    (bytes_puts law (with_bytes s.board.memory bytes)))

text_raises : {S : Type 0} (c : Calls S) (l : Laws S c) (taken : Option Cell) (last : Bool) (a : TextAct) (s : State S)
    → IsTextAct (listing S l.faults l.methods taken) (listing_turns S l.faults l.methods taken last) AnyBytes s a
    → Raised taken last (text_acted c a s)
unfolding text_acted worked
text_raises c l taken last (Acts a) s h = acted_raises c l taken last a s h
text_raises c l taken last (AppendsAll es cells) s h = weaker taken last _ (all_appends c l.calls es s.code)
text_raises c l taken last (Names d name) s h = weaker taken last _ (names c d name s)
text_raises c l taken last (Says bytes) s h = weaker taken last _ (says l.faults bytes s)
text_raises c l taken last (Spells bytes es) s h = weaker taken last _ (spells c l.calls l.faults bytes es s)
text_raises c l taken last Interprets s h = tt
text_raises c l taken last (Selects node) s h = tt
text_raises c l taken last (Sees xt) s h = tt

texts : {S : Type 0} (c : Calls S) → Laws S c → (x : Found) (s : State S) → IsSaid x.word
    → Raised (cell_of (plan_spoken x s) s.board.stack) (is_text_semicolon x.word) (word_done c x s)
texts {S} c l x s said =
    let on = read_from x.next s in
    let taken = cell_of (plan_spoken x s) s.board.stack in
    let last = is_text_semicolon x.word in
    let R = listing S l.faults l.methods taken in
    let T = listing_turns S l.faults l.methods taken last in
    text_raises c l taken last (text_act x.word (front_of on)) on
    (text_acts R T AnyBytes x.word on tt
    (record {
      said = said;
      ends = λ e. tt;
      makes = tt;
      closes = λ e. e;
      appends = λ e. tt;
      prints = tt;
      executes =
          all_executed R tt (plan_said x.word on.flow.is_compiling (plan_in on)) on tt tt (λ y e. (y, e, refl));
      strings = λ n. tt;
      quotes = λ at. tt;
    }))

readings : {S : Type 0} (c : Calls S) → Laws S c → (i : Input) (s : State S)
    → Raised (cell_of (plan_reading i s) s.board.stack) (closes_reading i s) (reading_due c i s)
unfolding is_listed listed_numbers
readings c l (input.Image size position) s =
    founds c l (token_from (latest_image s.board.memory) position size) size position s
readings c l (input.Text position) s = texts c l (word_at position s) s (word_said position s)
readings c l input.Nothing s = inl refl

-- ---- items

items : {S : Type 0} (c : Calls S) → Laws S c → (i : Item) (s : State S)
    → Raised (cell_of (plan_of_item i (plan_in s)) s.board.stack) false (item_done c i s)
items {S} c l i s =
    let taken = cell_of (plan_of_item i (plan_in s)) s.board.stack in
    acted_raises c l taken false (item_act i (front_of s)) s
    (item_acts (listing S l.faults l.methods taken) (listing_turns S l.faults l.methods taken false) i s
    (anywhere (listing S l.faults l.methods taken) (λ n x. tt) (target_of i) s) tt
    (all_executed (listing S l.faults l.methods taken) tt (plan_of_item i (plan_in s)) s tt tt (λ y e. (y, e, refl))))

fetches : {S : Type 0} (c : Calls S) → Laws S c → (f : Option (Item × Place)) (s : State S)
    → Raised (cell_of (plan_fetched f s) s.board.stack) false (item_due c f s)
unfolding is_listed listed_numbers
fetches c l None s = inl refl
fetches c l (Some x) s = items c l x.0 (with_next (continuation.Code x.1.cell) s)

-- ---- a step

dues : {S : Type 0} (c : Calls S) → Laws S c → (to : Continuation) (s : State S)
    → Raised (cell_next c to s) (closes_next to s) (due c to s)
dues c l continuation.Source s = readings c l s.flow.reading.input s
dues c l (continuation.Code n) s = fetches c l (c.fetch s.code (record { cell = n })) s

-- ---- definitions as cells

-- what compiling leaves, where there is room or isn't
abbrev coded : Bool → Coding → Coding → CodingOutcome
coded room d c =
    if room then record { coding = d; ended = Ok tt } else record { coding = c; ended = Err dictionary_overflow }

-- what the end of a definition leaves, where control is matched or isn't
abbrev ended_code : Bool → Bool → Coding → Coding → CodingOutcome
ended_code matched room d c =
    if matched then coded room d c else record { coding = c; ended = Err control_mismatch }

compiles : (b : Bool) (d c : Coding) → ThrowsListed (coded b d c).ended
unfolding is_listed listed_numbers
compiles true d c = tt
compiles false d c = refl

finishes : (a b : Bool) (d c : Coding) → EndsListed (ended_code a b d c).ended
unfolding is_listed listed_numbers
finishes true true d c = tt
finishes true false d c = inl refl
finishes false b d c = inr refl

calls_listed : CallsThrowListed Coding flat_calls
unfolding compiling finishing
calls_listed = record {
  element = λ e c. compiles (fits (own_item e) c.code) (compiled_in e c) c;
  semicolon = λ xt c.
      finishes (is_all_closed c.openers) (has_room c.code ItemReturn) (record c { code = finished c.code xt }) c;
}

-- ---- definitions as structured bodies

tells : (b : Bool) (d e : Definitions) → ThrowsListed (if b then told d else refused e dictionary_overflow).ended
unfolding is_listed listed_numbers
tells true d e = tt
tells false d e = refl

told_ends : (b : Bool) (d e : Definitions) → EndsListed (if b then told d else refused e dictionary_overflow).ended
unfolding is_listed listed_numbers
told_ends true d e = tt
told_ends false d e = inl refl

bodies : (xt : Cell) (d : Definitions) (b : Option (Body PlainItem)) → EndsListed (finished_told xt d b).ended
bodies xt d None = inr refl
bodies xt d (Some b) =
    told_ends (has_room_in (Some ItemReturn) d)
    (record { finished = record { xt = xt; body = b } ∷ d.finished; elements = [] }) d

structured_listed : CallsThrowListed Definitions structured_calls
structured_listed = record {
  element = λ e d. tells (has_room_in (own_item e) d) (record d { elements = e ∷ d.elements }) d;
  semicolon = λ xt d. bodies xt d (body_in 32 d.elements);
}

mismatch_unlisted : is_listed control_mismatch ≡ false
unfolding is_listed listed_numbers
mismatch_unlisted = refl

pub steps_throw_listed : WordsThrowListed → ThrowListedNumbers → TreeWordsListed → AskingWordsListed → StepsThrowListed
steps_throw_listed words law methods asking = record {
  flat = λ s.
      let l : Laws Coding flat_calls = record {
        calls = calls_listed;
        words = words;
        faults = law;
        methods = methods;
        asking = asking;
      } in
      dues flat_calls l s.flow.next s;
  structured = λ s.
      let l : Laws Definitions structured_calls = record {
        calls = structured_listed;
        words = words;
        faults = law;
        methods = methods;
        asking = asking;
      } in
      dues structured_calls l s.flow.next s;
  mismatch = mismatch_unlisted;
}
