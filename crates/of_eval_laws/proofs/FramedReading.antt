-- The law `frames_hold`: items and words go on in what is read, or begin an image inside it, and tokens keep the size
-- of offsets.
use Rattle.std.proofs.Common.{◌≡◌, ◌∙◌, inl, inr, ℕ, Bool, true, false, List, [], Option, Some, None, Result, Ok, Err}
use Rattle.std.proofs.Common.{refl, sym, ap, subst, nat_eq, if◌then◌else◌}
use Rattle.std.proofs.lemmas.Bool.{false≢true, eqb-true}
use Rattle.of_cells.specs.declared.cells.Cell.{Cell}
use Rattle.of_code.specs.declared.item.Item.{Item}
use Rattle.of_code.specs.Items.{target_of}
use Rattle.of_stacks.specs.declared.return_item.Input.{Input}
use Rattle.of_stacks.specs.declared.return_item.Input.TheVariants as input
use Rattle.of_stacks.specs.declared.return_item.Reading.{Reading}
use Rattle.of_stacks.specs.declared.throws.Throw.{Throw}
use Rattle.of_fcodes.specs.Lookup.{word_numbered}
use Rattle.of_stream.specs.declared.stream.OffsetSize.{OffsetSize}
use Rattle.of_stream.specs.declared.stream.OffsetSize.TheVariants.{Two}
use Rattle.of_stream.specs.Decoding.{Token, token_from}
use Rattle.of_stream.specs.Sizes.{size_behind}
use Rattle.of_memory.specs.declared.fault.MemFault.{MemFault}
use Rattle.of_memory.specs.DataSpace.{DataSpace}
use Rattle.of_memory.specs.Growth.{append_copied}
use Rattle.of_memory.specs.Images.{latest_image}
use Rattle.of_nodes.specs.declared.phandles.Phandle.{Phandle}
use Rattle.of_dict.specs.Words.{xt_of}
use Rattle.of_compile.specs.declared.defining.DefiningWord.{DefiningWord}
use Rattle.of_compile.specs.Defining.{Making, defining_entry, making, naming_entry, opens}
use Rattle.of_flow.specs.declared.control_state.Flow.{Flow}
use Rattle.of_board.specs.declared.board.Board.{Board}
use Rattle.of_asking.specs.Devices.{devices_entry}
use Rattle.of_asking.specs.Keys.{keys_entry}
use Rattle.of_asking.specs.Questions.{Asking, Asks, Gives}
use Rattle.of_eval.specs.Acts.{Act, Ends, To, WordAct, front_of}
use Rattle.of_eval.specs.Acts as act
use Rattle.of_eval.specs.Defining.{by_making, closed_if, define_entry, definition_ended, known_at_once, opened}
use Rattle.of_eval.specs.Defining.{semicolon_entry, string_kept, string_put, string_refused, word_defined}
use Rattle.of_eval.specs.Doing.{acted, appended, executed, gone, input_at, worked}
use Rattle.of_eval.specs.Doing as doing
use Rattle.of_eval.specs.Naming.{naming_done, word_named, word_named_as}
use Rattle.of_eval.specs.Executing.{entered, furnished, guarded, plan_in}
use Rattle.of_flow.specs.Returns.{found}
use Rattle.of_eval.specs.Items.{item_act}
use Rattle.of_eval.specs.Methods.{then_known}
use Rattle.of_state.specs.State.{Answered, Calls, Outcome, State, by_asking, by_board, by_code, with_items, with_stack}
use Rattle.of_eval.specs.Reading.{found_token, read_on, token_due}
use Rattle.of_steps.specs.Steps.{item_done}
use Rattle.of_eval.specs.Tokens.{act_of, spot_in}
use Rattle.of_flow.specs.Tokens.{typed_of}
use Rattle.of_words.specs.Words.{word_entry}
use Rattle.of_interpret.specs.Reading.{read_from, text_due, word_at}
use Rattle.of_interpret.specs.Strings.{all_appended, by_spelling, by_string, string_said, string_spelt}
use Rattle.of_interpret.specs.TextActs.{Acts, AppendsAll, Interprets, Names, Says, Sees, Selects, Spells, TextAct}
use Rattle.of_interpret.specs.TextActs.{text_acted}
use Rattle.of_interpret.specs.TextWords.{text_act}
use Rattle.of_eval_laws.specs.Frames.{KeepsReading, KeepsSize, ends_image, is_text_end, size_aside, size_in}
use Rattle.of_eval_laws.specs.Listed.{plan_of_item}
use Rattle.of_eval_laws.proofs.MethodLemmas.{known_flow}
use Rattle.of_eval_laws.proofs.TextFaults.{word_said}
use Rattle.of_eval_laws.proofs.Walk.{IsAct, Turns, item_acts, typed_acts}
use Rattle.of_eval_laws.proofs.WalkFree.{anywhere, free, free_turns}
use Rattle.of_eval_laws.proofs.WalkTexts.{AnyBytes, IsTextAct, text_acts}
use Rattle.of_eval_laws.proofs.WalkTyped.{typed_may}
use Rattle.of_eval_laws.proofs.WalkWords.{all_executed}
use Rattle.of_compile.specs.SlotWords.{SlotMaking, awaited}
use Rattle.of_dict.specs.declared.word.Slot.{Slot}
use Rattle.of_eval.specs.Defining.{by_slot_making, word_made_as}

-- what is read stays, or is set aside for an image or a text that begins
abbrev Reads : {S : Type 0} → Reading → Outcome S → Type 0
Reads r o = KeepsReading r o.state.flow

-- an image isn't ended, and is read on at a position where that may be
abbrev reading_turns : (S : Type 0) → Type 0 → Turns (free S)
reading_turns S positions =
    record (free_turns (free S) (λ s p. tt) (λ l s. tt) (λ n s. tt)) { Positions = positions; Ends = ⊥ }

-- ---- defining and compiling

opened_reads : {S : Type 0} (r : Reading) (b : Bool) (s : State S) → s.flow.reading ≡ r
    → KeepsReading r (opened b s).flow
opened_reads r true s h = inl h
opened_reads r false s h = inl h

known_reads : {S : Type 0} (r : Reading) (home : Option Phandle) (o : Option ℕ) (a : Outcome S) → Reads r a
    → Reads r (then_known home o a)
known_reads r home None a h = h
known_reads r home (Some n) a h = subst (KeepsReading r) (sym (known_flow a.ended home n a.state)) h

making_reads : {S : Type 0} (r : Reading) (d : DefiningWord) (g : Result Making Throw) (s : State S)
    → s.flow.reading ≡ r → Reads r (by_making d g s)
making_reads r d (Ok g) s h = opened_reads r (opens d) _ h
making_reads r d (Err t) s h = inl h

slot_reads : {S : Type 0} (r : Reading) (g : Result SlotMaking Throw) (s : State S) → s.flow.reading ≡ r
    → Reads r (by_slot_making g s)
slot_reads r (Ok g) s h = inl h
slot_reads r (Err t) s h = inl h

word_reads : {S : Type 0} (r : Reading) (c : Calls S) (d : DefiningWord) (o : Option Slot) (s : State S)
    → s.flow.reading ≡ r → Reads r (word_made_as c d o s)
word_reads r c d None s h =
    making_reads r d (defining_entry d (c.ends_at s.code) (making s.words s.board.stack s.board.memory)) s h
word_reads r c d (Some k) s h = slot_reads r _ s h

define_reads : {S : Type 0} (r : Reading) (c : Calls S) (d : DefiningWord) (s : State S) → s.flow.reading ≡ r
    → Reads r (define_entry c d s)
define_reads r c d s h =
    known_reads r s.board.active.«package» (known_at_once d s.words.dictionary) (word_defined c d s)
    (word_reads r c d (awaited d s.words) s h)

closed_reads : {S : Type 0} (r : Reading) (code : S) (ended : Result (Unit {0}) Throw) (s : State S)
    → s.flow.reading ≡ r
    → Reads r (by_code (record { code = code; ended = ended }) (closed_if ended s))
closed_reads r code (Ok x) s h = inl h
closed_reads r code (Err t) s h = inl h

ended_reads : {S : Type 0} (r : Reading) (c : Calls S) (o : Option ℕ) (s : State S) → s.flow.reading ≡ r
    → Reads r (definition_ended c o s)
ended_reads r c None s h = inl h
ended_reads r c (Some n) s h =
    let a = c.semicolon (record { 0 = xt_of n }) s.code in closed_reads r a.code a.ended s h

semicolon_reads : {S : Type 0} (r : Reading) (c : Calls S) (o : Option ℕ) (s : State S) → s.flow.reading ≡ r
    → Reads r (semicolon_entry c o s)
semicolon_reads r c o s h = known_reads r s.flow.home o (definition_ended c o s) (ended_reads r c o s h)

put_reads : {S : Type 0} (r : Reading) (e : Result (Unit {0}) Throw) (code : S) (m : DataSpace) (s : State S)
    → s.flow.reading ≡ r → Reads r (string_put e code m s)
put_reads r (Ok x) code m s h = inl h
put_reads r (Err t) code m s h = inl h

refused_reads : {S : Type 0} (r : Reading) (e : Result (Unit {0}) Throw) (t : Throw) (s : State S)
    → s.flow.reading ≡ r → Reads r (string_refused e t s)
refused_reads r (Ok x) t s h = inl h
refused_reads r (Err first) t s h = inl h

kept_reads : {S : Type 0} (r : Reading) (a : Answered S) (x : Result (ℕ × DataSpace) MemFault) (s : State S)
    → s.flow.reading ≡ r → Reads r (string_kept a x s)
kept_reads r a (Ok x) s h = put_reads r a.ended a.code x.1 s h
kept_reads r a (Err fault) s h = refused_reads r a.ended _ s h

-- ---- acts

board_reads : {S : Type 0} (m : Result Board Throw) (s : State S) → Reads s.flow.reading (by_board m s)
board_reads (Ok x) s = inl refl
board_reads (Err t) s = inl refl

asking_reads : {S : Type 0} (x : Asking Board) (s : State S) → Reads s.flow.reading (by_asking x s)
asking_reads (Gives r) s = board_reads r s
asking_reads (Asks q) s = inl refl

appended_reads : {S : Type 0} (code : S) (ended : Result (Unit {0}) Throw) (cells : List Cell) (s : State S)
    → Reads s.flow.reading (appended (record { code = code; ended = ended }) cells s)
appended_reads code (Ok x) cells s = inl refl
appended_reads code (Err t) cells s = inl refl

gone_reads : {S : Type 0} (to : To) (s : State S) → KeepsReading s.flow.reading (gone to s).flow
gone_reads act.Behind s = inl refl
gone_reads (act.Next to) s = inl refl

-- whatever a word does
worked_reads : {S : Type 0} (c : Calls S) (a : WordAct) (s : State S) → Reads s.flow.reading (worked c a s)
unfolding worked
worked_reads c (act.Fails t) s = inl refl
worked_reads c (act.Raises t cells) s = inl refl
worked_reads c (act.Leaves cells) s = inl refl
worked_reads c (act.Works w) s = board_reads (word_entry w s.board) s
worked_reads c (act.Listens w) s = asking_reads (keys_entry w s.reply s.board) s
worked_reads c (act.Reaches w) s = asking_reads (devices_entry w s.reply s.board) s
worked_reads c (act.Moves cells move to) s =
    gone_reads to (with_stack cells (with_items (doing.moved move s.flow.items) s))
worked_reads c (act.Knows w cells) s = inl refl
worked_reads c (act.Stores m cells) s = inl refl
worked_reads c act.Compiles s = inl refl
worked_reads c (act.Prints text) s = inl refl
worked_reads c (act.Appends e cells) s =
    appended_reads (c.element e s.code).code (c.element e s.code).ended cells s
worked_reads c (act.Loads size m cells) s = inr refl
worked_reads c (act.Reads text cells) s = inr refl
worked_reads c (act.Takes cells a) s = worked_reads c a (with_stack cells s)
worked_reads c (act.Guards cells a) s = worked_reads c a (guarded cells s)
worked_reads c (act.Enters cells d ih a) s = worked_reads c a (entered cells d ih s)
worked_reads c (act.Opens x a) s = worked_reads c a (furnished x s)
worked_reads c (act.Refuses t) s = inl refl

acted_reads : {S : Type 0} (c : Calls S) (a : Act) (s : State S) → IsAct (free S) (reading_turns S ⊥) s a
    → Reads s.flow.reading (acted c a s)
unfolding acted
acted_reads c (act.Does a) s h = worked_reads c a s
acted_reads c (act.Goes cells move n) s h = absurd h.0
acted_reads c (act.Copies a n) s h = kept_reads s.flow.reading _ (append_copied s.board.memory a n []) s refl
acted_reads c (act.Makes d) s h = define_reads s.flow.reading c d s refl
acted_reads c act.Closes s h = semicolon_reads s.flow.reading c s.words.defining s refl
acted_reads c act.Ends s h = absurd h

-- ---- words of a text

named_reads : {S : Type 0} (r : Reading) (c : Calls S) (d : DefiningWord) (name : List ℕ) (o : Option Slot)
    (s : State S) → s.flow.reading ≡ r → Reads r (word_named_as c d name o s)
named_reads r c d name None s h =
    making_reads r d (naming_entry d name (c.ends_at s.code) (making s.words s.board.stack s.board.memory)) s h
named_reads r c d name (Some k) s h = slot_reads r _ s h

naming_reads : {S : Type 0} (c : Calls S) (d : DefiningWord) (name : List ℕ) (s : State S)
    → Reads s.flow.reading (naming_done c d name s)
naming_reads c d name s =
    known_reads s.flow.reading s.board.active.«package» (known_at_once d s.words.dictionary) (word_named c d name s)
    (named_reads s.flow.reading c d name (awaited d s.words) s refl)

said_reads : {S : Type 0} (r : Result (ℕ × Board) Throw) (s : State S) → Reads s.flow.reading (by_string r s)
said_reads (Ok x) s = inl refl
said_reads (Err t) s = inl refl

spelt_reads : {S : Type 0} (r : Result (S × DataSpace) Throw) (s : State S) → Reads s.flow.reading (by_spelling r s)
spelt_reads (Ok x) s = inl refl
spelt_reads (Err t) s = inl refl

spoken_reads : {S : Type 0} (c : Calls S) (a : TextAct) (s : State S)
    → IsTextAct (free S) (reading_turns S ⊥) AnyBytes s a → Reads s.flow.reading (text_acted c a s)
unfolding text_acted worked
spoken_reads c (Acts a) s h = acted_reads c a s h
spoken_reads c (AppendsAll es cells) s h =
    let a = all_appended c es s.code in appended_reads a.code a.ended cells s
spoken_reads c (Names d name) s h = naming_reads c d name s
spoken_reads c (Says bytes) s h = said_reads (string_said bytes s.flow.strings s.board) s
spoken_reads c (Spells bytes es) s h = spelt_reads (string_spelt c bytes es s.board.memory s.code) s
spoken_reads c Interprets s h = inl refl
spoken_reads c (Selects node) s h = inl refl
spoken_reads c (Sees xt) s h = inl refl

pub text_reads_on : {S : Type 0} (c : Calls S) (position : ℕ) (s : State S)
    → is_text_end (word_at position s).word ≡ false
    → KeepsReading (record s.flow.reading { input = input.Text (word_at position s).next })
    (text_due c position s).state.flow
text_reads_on {S} c position s goes_on =
    let x = word_at position s in
    let on = read_from x.next s in
    spoken_reads c (text_act x.word (front_of on)) on
    (text_acts (free S) (reading_turns S ⊥) AnyBytes x.word on tt
    (record {
      said = word_said position s;
      ends = λ e. absurd (false≢true (sym goes_on ∙ e));
      makes = tt;
      closes = λ e. tt;
      appends = λ e. tt;
      prints = tt;
      executes = all_executed (free S) tt _ on tt tt (λ y e. tt);
      strings = λ n. tt;
      quotes = λ at. tt;
    }))

-- ---- items

pub item_reads_on : {S : Type 0} (c : Calls S) (i : Item) (s : State S)
    → KeepsReading s.flow.reading (item_done c i s).state.flow
item_reads_on {S} c i s =
    acted_reads c (item_act i (front_of s)) s
    (item_acts (free S) (reading_turns S ⊥) i s (anywhere (free S) (λ n x. tt) (target_of i) s) tt
    (all_executed (free S) tt (plan_of_item i (plan_in s)) s tt tt (λ x e. tt)))

-- ---- the size of offsets

abbrev Sized : {S : Type 0} → OffsetSize → Outcome S → Type 0
Sized size o = KeepsSize size o.state.flow

-- a state that reads with offsets of the size
abbrev ReadsWith : {S : Type 0} → OffsetSize → State S → Type 0
ReadsWith size s = size_in s.flow.reading.input ≡ Some size

-- what is read on keeps its size
read_on_sized : (size : OffsetSize) (r : Reading) (f : Flow) → size_in r.input ≡ Some size → KeepsReading r f
    → KeepsSize size f
read_on_sized size r f h k = elim k [
  | inl e ↦ inl (ap (λ x. size_in x.input) e ∙ h)
  | inr e ↦ inr (ap (λ x. size_aside x) e ∙ h)
]

moved_sized : (n : ℕ) (i : Input) → size_in (input_at n i) ≡ size_in i
moved_sized n (input.Image size p) = refl
moved_sized n (input.Text p) = refl
moved_sized n input.Nothing = refl

acted_sized : {S : Type 0} (size : OffsetSize) (c : Calls S) (a : Act) (s : State S)
    → IsAct (free S) (reading_turns S (Unit {0})) s a → ReadsWith size s → Sized size (acted c a s)
unfolding acted
acted_sized size c (act.Goes cells move n) s g h = inl (moved_sized n s.flow.reading.input ∙ h)
acted_sized size c act.Ends s g h = absurd g
acted_sized size c a s g h = read_on_sized size s.flow.reading (acted c a s).state.flow h (acted_reads c a s g)

-- a token that doesn't end the image keeps the size of offsets
found_sized : {S : Type 0} (c : Calls S) (x : Token) (next : ℕ) (size : OffsetSize) (position : ℕ) (s : State S)
    → ends_image (word_numbered x.code.0) ≡ false
    → Sized (size_behind x.code.0 size) (found_token c (Some (x, next)) size position s)
found_sized {S} c x next size position s e =
    let on = read_on (size_behind x.code.0 size) next s in
    let here = spot_in s.board.memory position next in
    let R = free S in
    let T = reading_turns S (Unit {0}) in
    acted_sized (size_behind x.code.0 size) c (act_of (typed_of x) here (front_of on)) on
    (typed_acts R T (typed_of x) here on tt
    (typed_may R T (word_numbered x.code.0) x.code x.argument on.flow.is_compiling on
    (record {
      positions = tt;
      ends = λ z. absurd (false≢true (sym e ∙ z));
      makes = λ z. tt;
      closes = λ z y. tt;
      appends = λ z. tt;
      executes = all_executed R tt _ on tt tt (λ y z. tt);
    })))
    refl

pub token_sized : {S : Type 0} (c : Calls S) (x : Token) (next : ℕ) (size : OffsetSize) (position : ℕ) (s : State S)
    → ends_image (word_numbered x.code.0) ≡ false
    → token_from (latest_image s.board.memory) position size ≡ Some (x, next)
    → Sized (size_behind x.code.0 size) (token_due c (input.Image size position) s)
token_sized c x next size position s e found =
    subst (λ f. Sized (size_behind x.code.0 size) (found_token c f size position s)) (sym found)
    (found_sized c x next size position s e)

size_if : (b : Bool) (code : ℕ) (size : OffsetSize) → nat_eq code 0x0cc ≡ b → (code ≡ 0xcc → ⊥)
    → (if b then Two else size) ≡ size
size_if true code size e other = absurd (other (eqb-true code 0x0cc e))
size_if false code size e other = refl

pub size_kept : (code : ℕ) (size : OffsetSize) → (code ≡ 0xcc → ⊥) → size_behind code size ≡ size
size_kept code size other = size_if (nat_eq code 0x0cc) code size refl other
