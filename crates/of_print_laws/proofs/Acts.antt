-- What acts print goes behind what was printed, and so what comes next does.
use Rattle.std.proofs.Common.{◌≡◌, ◌∙◌, ℕ, ◌+◌, Bool, true, false, List, [], ◌∷◌, length, Option, Some, None, Result}
use Rattle.std.proofs.Common.{Ok, Err, refl, ap, if◌then◌else◌}
use Rattle.std.specs.Prelude.{is_some}
use Rattle.of_cells.specs.declared.cells.Cell.{Cell}
use Rattle.of_code.specs.declared.item.Item.{Item}
use Rattle.of_code.specs.declared.item.Place.{Place}
use Rattle.of_stacks.specs.declared.return_item.Continuation.{Continuation}
use Rattle.of_stacks.specs.declared.return_item.Continuation.TheVariants as continuation
use Rattle.of_stacks.specs.declared.return_item.Input.{Input}
use Rattle.of_stacks.specs.declared.return_item.Input.TheVariants as input
use Rattle.of_stacks.specs.declared.throws.Throw.{Throw}
use Rattle.of_stacks.specs.Stacks.{within}
use Rattle.of_stacks.specs.Throws.{compiler_nesting}
use Rattle.of_stream.specs.Decoding.{Token as Read, token_from}
use Rattle.of_stream.specs.Sizes.{size_behind}
use Rattle.of_stream.specs.declared.stream.OffsetSize.{OffsetSize}
use Rattle.of_memory.specs.Access.{bytes_written}
use Rattle.of_memory.specs.DataSpace.{DataSpace}
use Rattle.of_memory.specs.Growth.{append_copied}
use Rattle.of_memory.specs.Images.{latest_image}
use Rattle.of_memory.specs.declared.fault.MemFault.{MemFault}
use Rattle.of_prims.specs.Data.{throw_of}
use Rattle.of_nodes.specs.declared.phandles.Phandle.{Phandle}
use Rattle.of_nodes.specs.declared.tree.Node.{Node}
use Rattle.of_dict.specs.Words.{name_in, word_at, xt_of}
use Rattle.of_dict.specs.declared.word.Slot.{Slot}
use Rattle.of_asking.specs.Devices.{devices_entry}
use Rattle.of_asking.specs.Keys.{keys_entry}
use Rattle.of_asking.specs.Questions.{Asking, Asks, Gives}
use Rattle.of_board.specs.Text.{Printed}
use Rattle.of_board.specs.declared.board.Board.{Board}
use Rattle.of_compile.specs.Defining.{Making, opens}
use Rattle.of_compile.specs.SlotWords.{SlotMaking, awaited}
use Rattle.of_compile.specs.declared.defining.DefiningWord.{DefiningWord}
use Rattle.of_words.specs.Words.{word_entry}
use Rattle.of_state.specs.Settling.{ended, ends_inside, source_ended}
use Rattle.of_state.specs.State.{Answered, Calls, Outcome, State, by_asking, by_board, done, failed, given_up}
use Rattle.of_state.specs.State.{with_next, with_stack}
use Rattle.of_eval.specs.Acts.{Act, To, WordAct}
use Rattle.of_eval.specs.Acts as act
use Rattle.of_eval.specs.Defining.{by_making, by_slot_making, closed_if, define_entry, definition_ended, known_at_once}
use Rattle.of_eval.specs.Defining.{opened, semicolon_entry, string_compiled, string_element, string_kept, string_put}
use Rattle.of_eval.specs.Defining.{string_refused, word_defined, word_made_as}
use Rattle.of_eval.specs.Doing.{acted, gone, left_by, worked}
use Rattle.of_eval.specs.Executing.{entered, furnished, guarded}
use Rattle.of_eval.specs.Methods.{as_method, known_if, method_made, then_known, xt_cell}
use Rattle.of_eval.specs.Naming.{naming_done, word_named, word_named_as}
use Rattle.of_eval.specs.Reading.{found_token, read_on, token_due}
use Rattle.of_interpret.specs.Reading.{read_from, text_due, word_at as text_word_at}
use Rattle.of_interpret.specs.Strings.{all_appended, by_spelling, by_string, place_for, said, string_left, string_spelt}
use Rattle.of_interpret.specs.Strings.{strings_start}
use Rattle.of_interpret.specs.TextActs.{TextAct, seen, text_acted}
use Rattle.of_interpret.specs.TextActs as text
use Rattle.of_steps.specs.Steps.{due, item_due, reading_due}
use Rattle.of_print_laws.specs.Printed.{Begins, output}
use Rattle.of_print_laws.proofs.PropertyWords.{IsQuiet}
use Rattle.of_print_laws.proofs.Words.{GoesOn, IsStill, as_it_was, behind, device_is_still, itself, key_is_still}
use Rattle.of_print_laws.proofs.Words.{word_goes_on}

-- a state's output begins another's
abbrev pub Goes : {S : Type 0} → State S → State S → Type 0
Goes s after = Begins (output s) (output after)

-- the same output
abbrev pub Same : {S : Type 0} → State S → State S → Type 0
Same s after = output after ≡ output s

pub stays : {S : Type 0} (s after : State S) → Same s after → Goes s after
stays s after e = as_it_was (output s) (output after) e

-- ---- by the board

board_goes : {S : Type 0} (r : Result Board Throw) (s : State S) → GoesOn s.board r → Goes s (by_board r s).state
board_goes (Ok p) s h = h
board_goes (Err t) s h = itself (output s)

quiet_goes : {S : Type 0} (r : Result Board Throw) (s : State S) → IsQuiet s.board r → Goes s (by_board r s).state
quiet_goes (Ok p) s h = stays s (by_board (Ok p) s).state (ap (λ (c : Printed). c.text) h)
quiet_goes (Err t) s h = itself (output s)

asking_goes : {S : Type 0} (r : Asking Board) (s : State S) → IsStill s.board r → Goes s (by_asking r s).state
asking_goes (Gives r) s h = quiet_goes r s h
asking_goes (Asks q) s h = itself (output s)

-- ---- acts of words

left_same : {S : Type 0} (r : Result (Unit {0}) Throw) (cells : List Cell) (s : State S) → Same s (left_by r cells s)
left_same (Ok x) cells s = refl
left_same (Err t) cells s = refl

gone_same : {S : Type 0} (to : To) (s : State S) → Same s (gone to s)
gone_same act.Behind s = refl
gone_same (act.Next to) s = refl

pub works : {S : Type 0} (c : Calls S) (a : WordAct) (s : State S) → Goes s (worked c a s).state
unfolding worked
works c (act.Fails t) s = itself (output s)
works c (act.Raises t cells) s = itself (output s)
works c (act.Leaves cells) s = itself (output s)
works c (act.Works w) s = board_goes (word_entry w s.board) s (word_goes_on w s.board)
works c (act.Listens w) s = asking_goes (keys_entry w s.reply s.board) s (key_is_still w s.reply s.board)
works c (act.Reaches w) s = asking_goes (devices_entry w s.reply s.board) s (device_is_still w s.reply s.board)
works c (act.Moves cells move to) s = as_it_was (output s) _ (gone_same to _)
works c (act.Knows w cells) s = itself (output s)
works c (act.Stores m cells) s = itself (output s)
works c act.Compiles s = itself (output s)
works c (act.Prints text) s = behind (output s) text
works c (act.Appends e cells) s = as_it_was (output s) _ (left_same (c.element e s.code).ended cells s)
works c (act.Loads size m cells) s = itself (output s)
works c (act.Reads text cells) s = itself (output s)
works c (act.Takes cells a) s = works c a (with_stack cells s)
works c (act.Guards cells a) s = works c a (guarded cells s)
works c (act.Enters cells d ih a) s = works c a (entered cells d ih s)
works c (act.Opens x a) s = works c a (furnished x s)
works c (act.Refuses t) s = itself (output s)

-- ---- words that are made

either_same : {S : Type 0} (b : Bool) (s x y : State S) → Same s x → Same s y → Same s (if b then x else y)
either_same true s x y h k = h
either_same false s x y h k = k

pub given_up_same : {S : Type 0} (c : Calls S) (s : State S) → Same s (given_up c s)
given_up_same c s = either_same (is_some s.words.defining) s _ s refl refl

as_method_same : {S : Type 0} (nodes : Option (List Node)) (n : ℕ) (s : State S) → Same s (as_method nodes n s)
as_method_same (Some nodes) n s = refl
as_method_same None n s = refl

known_same : {S : Type 0} (r : Result (Unit {0}) Throw) (home : Option Phandle) (n : ℕ) (s : State S)
    → Same s (known_if r home n s)
known_same (Ok x) home n s =
    as_method_same (method_made home (name_in (word_at s.words.dictionary n)) (xt_cell n) s.board.tree) n s
known_same (Err t) home n s = refl

then_same : {S : Type 0} (home : Option Phandle) (n : Option ℕ) (o : Outcome S) (s : State S) → Same s o.state
    → Same s (then_known home n o).state
then_same home None o s h = h
then_same home (Some n) o s h = known_same o.ended home n o.state ∙ h

opened_same : {S : Type 0} (b : Bool) (s : State S) → Same s (opened b s)
opened_same true s = refl
opened_same false s = refl

making_same : {S : Type 0} (d : DefiningWord) (r : Result Making Throw) (s : State S) → Same s (by_making d r s).state
making_same d (Ok g) s = opened_same (opens d) _
making_same d (Err t) s = refl

slot_same : {S : Type 0} (r : Result SlotMaking Throw) (s : State S) → Same s (by_slot_making r s).state
slot_same (Ok g) s = refl
slot_same (Err t) s = refl

made_same : {S : Type 0} (c : Calls S) (d : DefiningWord) (k : Option Slot) (s : State S)
    → Same s (word_made_as c d k s).state
made_same c d None s = making_same d _ s
made_same c d (Some k) s = slot_same _ s

defines : {S : Type 0} (c : Calls S) (d : DefiningWord) (s : State S) → Same s (define_entry c d s).state
defines c d s =
    then_same s.board.active.«package» (known_at_once d s.words.dictionary) (word_defined c d s) s
    (made_same c d (awaited d s.words) s)

named_same : {S : Type 0} (c : Calls S) (d : DefiningWord) (name : List ℕ) (k : Option Slot) (s : State S)
    → Same s (word_named_as c d name k s).state
named_same c d name None s = making_same d _ s
named_same c d name (Some k) s = slot_same _ s

names : {S : Type 0} (c : Calls S) (d : DefiningWord) (name : List ℕ) (s : State S)
    → Same s (naming_done c d name s).state
names c d name s =
    then_same s.board.active.«package» (known_at_once d s.words.dictionary) (word_named c d name s) s
    (named_same c d name (awaited d s.words) s)

closed_same : {S : Type 0} (r : Result (Unit {0}) Throw) (s : State S) → Same s (closed_if r s)
closed_same (Ok x) s = refl
closed_same (Err t) s = refl

definition_same : {S : Type 0} (c : Calls S) (o : Option ℕ) (s : State S) → Same s (definition_ended c o s).state
definition_same c None s = refl
definition_same c (Some n) s = closed_same (c.semicolon (record { 0 = xt_of n }) s.code).ended s

closes : {S : Type 0} (c : Calls S) (o : Option ℕ) (s : State S) → Same s (semicolon_entry c o s).state
closes c o s = then_same s.flow.home o (definition_ended c o s) s (definition_same c o s)

-- ---- strings, and the end of what is read

put_same : {S : Type 0} (r : Result (Unit {0}) Throw) (code : S) (m : DataSpace) (s : State S)
    → Same s (string_put r code m s).state
put_same (Ok x) code m s = refl
put_same (Err t) code m s = refl

refused_same : {S : Type 0} (r : Result (Unit {0}) Throw) (t : Throw) (s : State S)
    → Same s (string_refused r t s).state
refused_same (Ok x) t s = refl
refused_same (Err first) t s = refl

kept_same : {S : Type 0} (a : Answered S) (r : Result (ℕ × DataSpace) MemFault) (s : State S)
    → Same s (string_kept a r s).state
kept_same a (Ok x) s = put_same a.ended a.code x.1 s
kept_same a (Err fault) s = refused_same a.ended (throw_of fault) s

copies : {S : Type 0} (c : Calls S) (a n : ℕ) (s : State S) → Same s (string_compiled c a n s).state
copies c a n s =
    kept_same (c.element (string_element s.board.memory.here n) s.code) (append_copied s.board.memory a n []) s

either_outcome : {S : Type 0} (b : Bool) (s : State S) (x y : Outcome S) → Same s x.state → Same s y.state
    → Same s (if b then x else y).state
either_outcome true s x y h k = h
either_outcome false s x y h k = k

ends : {S : Type 0} (c : Calls S) (s : State S) → Same s (ended c s).state
ends c s =
    either_outcome (ends_inside s) s (failed compiler_nesting (given_up c s)) (done (source_ended s))
    (given_up_same c s) refl

-- ---- acts of items, tokens and texts

pub acts : {S : Type 0} (c : Calls S) (a : Act) (s : State S) → Goes s (acted c a s).state
unfolding acted
acts c (act.Does a) s = works c a s
acts c (act.Goes cells move n) s = itself (output s)
acts c (act.Copies a n) s = as_it_was (output s) _ (copies c a n s)
acts c (act.Makes d) s = as_it_was (output s) _ (defines c d s)
acts c act.Closes s = as_it_was (output s) _ (closes c s.words.defining s)
acts c act.Ends s = as_it_was (output s) _ (ends c s)

said_same : {S : Type 0} (cells : Result (List Cell) Throw) (r : Result DataSpace MemFault) (taken : ℕ) (s : State S)
    → Same s (by_string (string_left cells r taken s.board) s).state
said_same (Err t) r taken s = refl
said_same (Ok cells) (Err fault) taken s = refl
said_same (Ok cells) (Ok m) taken s = refl

says : {S : Type 0} (bytes : List ℕ) (s : State S) → Same s (said bytes s).state
says bytes s =
    let at = place_for s.flow.strings (length bytes) in
    said_same (within (record { 0 = length bytes } ∷ record { 0 = strings_start + at } ∷ s.board.stack))
    (bytes_written s.board.memory (strings_start + at) bytes) (at + length bytes) s

spelling_same : {S : Type 0} (r : Result (S × DataSpace) Throw) (s : State S) → Same s (by_spelling r s).state
spelling_same (Ok x) s = refl
spelling_same (Err t) s = refl

pub text_acts : {S : Type 0} (c : Calls S) (a : TextAct) (s : State S) → Goes s (text_acted c a s).state
unfolding text_acted
text_acts c (text.Acts a) s = acts c a s
text_acts c (text.AppendsAll es cells) s = as_it_was (output s) _ (left_same (all_appended c es s.code).ended cells s)
text_acts c (text.Names d name) s = as_it_was (output s) _ (names c d name s)
text_acts c (text.Says bytes) s = as_it_was (output s) _ (says bytes s)
text_acts c (text.Spells bytes es) s =
    as_it_was (output s) _ (spelling_same (string_spelt c bytes es s.board.memory s.code) s)
text_acts c text.Interprets s = itself (output s)
text_acts c (text.Selects node) s = itself (output s)
text_acts c (text.Sees xt) s = works c (act.Prints (seen c xt s)) s

-- ---- what comes next

found_goes : {S : Type 0} (c : Calls S) (x : Option (Read × ℕ)) (size : OffsetSize) (position : ℕ) (s : State S)
    → Goes s (found_token c x size position s).state
found_goes c None size position s = itself (output s)
found_goes c (Some x) size position s = acts c _ (read_on (size_behind x.0.code.0 size) x.1 s)

token_goes : {S : Type 0} (c : Calls S) (i : Input) (s : State S) → Goes s (token_due c i s).state
token_goes c (input.Image size position) s =
    found_goes c (token_from (latest_image s.board.memory) position size) size position s
token_goes c (input.Text position) s = itself (output s)
token_goes c input.Nothing s = itself (output s)

text_goes : {S : Type 0} (c : Calls S) (position : ℕ) (s : State S) → Goes s (text_due c position s).state
text_goes c position s = text_acts c _ (read_from (text_word_at position s).next s)

reading_goes : {S : Type 0} (c : Calls S) (i : Input) (s : State S) → Goes s (reading_due c i s).state
reading_goes c (input.Image size position) s = token_goes c (input.Image size position) s
reading_goes c (input.Text position) s = text_goes c position s
reading_goes c input.Nothing s = token_goes c input.Nothing s

item_goes : {S : Type 0} (c : Calls S) (x : Option (Item × Place)) (s : State S) → Goes s (item_due c x s).state
item_goes c None s = itself (output s)
item_goes c (Some x) s = acts c _ (with_next (continuation.Code x.1.cell) s)

pub due_goes : {S : Type 0} (c : Calls S) (to : Continuation) (s : State S) → Goes s (due c to s).state
due_goes c continuation.Source s = reading_goes c s.flow.reading.input s
due_goes c (continuation.Code n) s = item_goes c (c.fetch s.code (record { cell = n })) s
