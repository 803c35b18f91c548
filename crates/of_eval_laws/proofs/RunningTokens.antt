-- The law `images_run`: what an item and a token leave of the images that run.
use Rattle.std.proofs.Common.{◌≡◌, inl, inr, ℕ, Bool, true, false, List, [], ◌∷◌, length, Option}
use Rattle.std.proofs.Common.{Some, None, Result, Ok, Err, is_none, is_some, refl, subst, ap, nat_le, ◌∙◌, ◌+◌}
use Rattle.of_cells.specs.declared.cells.Cell.{Cell}
use Rattle.of_code.specs.declared.item.Item.{Item}
use Rattle.of_code.specs.declared.item.Place.{Place}
use Rattle.of_code.specs.Items.{target_of}
use Rattle.of_stacks.specs.declared.return_item.Continuation.{Continuation}
use Rattle.of_stacks.specs.declared.return_item.Continuation.TheVariants as continuation
use Rattle.of_stacks.specs.declared.return_item.Input.{Input}
use Rattle.of_stacks.specs.declared.return_item.Input.TheVariants as input
use Rattle.of_stacks.specs.declared.throws.Throw.{Throw}
use Rattle.of_stacks.specs.Order.{counted, counting, fault_if, unless}
use Rattle.of_stacks.specs.Stacks.{within}
use Rattle.of_stacks.specs.Throws.{compiler_nesting, dictionary_overflow, stack_underflow}
use Rattle.of_fcodes.specs.Lookup.{word_numbered}
use Rattle.of_stream.specs.declared.stream.OffsetSize.{OffsetSize}
use Rattle.of_stream.specs.Decoding.{Token, token_from}
use Rattle.of_stream.specs.Sizes.{size_behind}
use Rattle.of_memory.specs.declared.fault.MemFault.{MemFault}
use Rattle.of_memory.specs.DataSpace.{DataSpace, IsSound}
use Rattle.of_memory.specs.Access.{bytes_written}
use Rattle.of_memory.specs.Growth.{aligned, append_copied, appended as with_bytes, image_popped, with_state}
use Rattle.of_memory.specs.SoundChanges.{AreBytes}
use Rattle.of_memory.specs.Images.{latest_image}
use Rattle.of_nodes.specs.declared.phandles.Phandle.{Phandle}
use Rattle.of_nodes.specs.declared.tree.Node.{Node}
use Rattle.of_dict.specs.Words.{capacity, name_in, word_at, xt_of}
use Rattle.of_compile.specs.declared.defining.DefiningWord.{DefiningWord}
use Rattle.of_compile.specs.declared.words.Pending.{Pending}
use Rattle.of_compile.specs.Defining.{Made, defining_faults, has_no_bytes, made_by, making, named_made, naming_faults}
use Rattle.of_compile.specs.Defining.{opens, word_made}
use Rattle.of_compile.specs.Words.{WordsState, name_fault}
use Rattle.of_eval.specs.Acts.{Act, Ends, Loads, To, WordAct, front_of}
use Rattle.of_eval.specs.Acts as act
use Rattle.of_eval.specs.Defining.{by_making, closed_if, define_entry, definition_ended, known_at_once, opened}
use Rattle.of_eval.specs.Defining.{semicolon_entry, string_compiled, string_kept, string_put, string_refused}
use Rattle.of_eval.specs.Defining.{string_element, word_defined, by_slot_making, word_made_as}
use Rattle.of_eval.specs.Doing.{acted, appended, gone, worked}
use Rattle.of_eval.specs.Doing as doing
use Rattle.of_eval.specs.Executing.{entered, furnished, guarded, plan_in}
use Rattle.of_eval.specs.Items.{item_act}
use Rattle.of_eval.specs.Methods.{as_method, known_if, method_made, nodes_with, then_known, xt_cell}
use Rattle.of_state.specs.Settling.{ended, ends_inside, given_back}
use Rattle.of_state.specs.State.{Answered, Calls, Outcome, State, by_code, with_items, with_next, with_stack}
use Rattle.of_control.specs.Element.{Element}
use Rattle.of_compile.specs.declared.element.PlainItem.{PlainItem}
use Rattle.of_text.specs.declared.words.TextWord.{TextWord}
use Rattle.of_text.specs.declared.words.TextWord.TheVariants as text
use Rattle.of_eval.specs.Naming.{naming_done, word_named, word_named_as}
use Rattle.of_eval.specs.Reading.{found_token, read_on, token_due}
use Rattle.of_interpret.specs.Reading.{read_from, word_at as said_at, word_done}
use Rattle.of_interpret.specs.Strings.{all_appended, by_spelling, by_string, bytes_put, place_for, said, spelt}
use Rattle.of_interpret.specs.Strings.{string_left, string_left_in, strings_start}
use Rattle.of_interpret.specs.TextActs.{Acts, AppendsAll, Interprets, Names, Says, Sees, Selects, Spells, TextAct}
use Rattle.of_interpret.specs.TextActs.{text_acted}
use Rattle.of_interpret.specs.TextWords.{text_act}
use Rattle.of_steps.specs.Steps.{due, item_due, reading_due}
use Rattle.of_eval.specs.Tokens.{act_of, spot_in}
use Rattle.of_flow.specs.Tokens.{typed_of}
use Rattle.of_eval_laws.specs.Listed.{plan_of_item}
use Rattle.of_eval_laws.specs.Running.{is_at_end, reading_ends, token_ends}
use Rattle.of_eval_laws.specs.Sound.{HasSoundSpace}
use Rattle.of_ihandles.specs.SpaceKept.{Keeps}
use Rattle.of_board.specs.declared.board.Board.{Board}
use Rattle.of_nodes.specs.Nodes.{method_added}
use Rattle.of_nodes.specs.Stored.{AreStored}
use Rattle.of_nodes.specs.declared.fault.NodeFault.{NodeFault}
use Rattle.of_eval_laws.proofs.FramedSpace.{Answered as IsAnswered, Laws, Stands, by_append, by_append_copy, by_space}
use Rattle.of_eval_laws.proofs.FramedSpace.{by_state}
use Rattle.of_eval_laws.proofs.FramedSpace.{by_words, same, stays, then_kept, then_stands}
use Rattle.of_eval_laws.proofs.RunningBytes.{all_run, popped}
use Rattle.of_ihandles.specs.Table.{InstanceTable}
use Rattle.of_eval_laws.proofs.PlacedActs.{found_none}
use Rattle.of_eval_laws.proofs.Bytes.{no_bytes}
use Rattle.of_eval_laws.proofs.RunningEnds.{given_up_stands}
use Rattle.of_eval_laws.proofs.RunningWords.{Begins, Changes, Kept, KeptBy, Leaves, either, image_begins, left}
use Rattle.of_eval_laws.proofs.RunningWords.{listens, ordinary, reaches, stands_by}
use Rattle.of_eval_laws.proofs.Walk.{IsAct, Turns, item_acts, typed_acts}
use Rattle.of_eval_laws.proofs.WalkFree.{anywhere, free_turns, keeping}
use Rattle.of_eval_laws.proofs.TextBytes.{quotes_are, read_are, strings_are}
use Rattle.of_eval_laws.proofs.TextFaults.{IsSaid, word_said}
use Rattle.of_eval_laws.proofs.WalkTexts.{IsTextAct, text_acts}
use Rattle.of_eval_laws.proofs.WalkTyped.{typed_may}
use Rattle.of_eval_laws.proofs.WalkWords.{IsOpening, IsWork, Rules, all_executed}
use Rattle.of_compile.specs.SlotWords.{SlotMade, awaited, rounded, slot_faults, slot_given, slot_made, slot_making}
use Rattle.of_compile.specs.SlotWords.{slot_word_made}
use Rattle.of_dict.specs.declared.word.Slot.{Slot}
use Rattle.of_ihandles.specs.declared.instance_fault.InstanceFault.{InstanceFault}
use Rattle.of_compile.specs.SlotWords.{slot_naming_faults, slot_word_named}
use Rattle.of_eval_laws.proofs.DefinedSpace.{rounded_kept, slot_kept, slot_named_kept, slot_word_kept, zeros_kept}

-- the images stand while an instance is opened
pub instance_stands : {S : Type 0} (l : Laws) (x : InstanceTable × DataSpace) (s : State S) → IsOpening x s
    → IsSound s.board.memory → Stands s.board (furnished x s).board
instance_stands l x s o sound =
    by_words s.board (furnished x s).board (l.words.opened s.board o.0 o.1 o.2 o.3 x sound o.4)

-- ---- the rules

-- a data space that is sound stays so while words run, one image more may run, and a text that is read is of bytes
abbrev pub running_rules : (S : Type 0) → Rules S
running_rules S =
    record (keeping S (λ s. (Laws → IsSound s.board.memory))
    ((λ cells d ih s k p. (p, p, p)), (λ x s o p l. (instance_stands l x s o (p l)).1))) {
      Loads = λ s m. Laws → Begins s.board.memory m;
      Reads = λ s text. Laws → AreBytes text;
      loads = λ a n spread x s p shut e l. image_begins l s.board.memory a n spread x (p l) e;
      reads = λ r a n text s p shut e l. read_are s.board.memory a n text (p l) e;
    }

-- and where an image ends, that is by `end0` or `end1`
abbrev pub running_turns : (S : Type 0) → Bool → Turns (running_rules S)
running_turns S at_end =
    record (free_turns (running_rules S) (λ s p. tt) (λ l s. tt) (λ n s. tt)) { Ends = at_end ≡ true }

-- ---- words that become methods

added_stored : (l : Laws) (m : DataSpace) (r : Result (List Node) NodeFault) (ns nodes : List Node) (home : Phandle)
    (name : List ℕ) (xt : Cell) → method_added ns home name xt ≡ r → nodes_with r ≡ Some nodes → AreStored m ns
    → AreStored m nodes
added_stored l m (Ok x) ns nodes home name xt e f a =
    let is : x ≡ nodes = cc in
    subst (λ (y : List Node). AreStored m y) is (l.stored.by_method m ns x home name xt a e)
added_stored l m (Err fault) ns nodes home name xt e f a = absurd cc

made_stored : (l : Laws) (m : DataSpace) (home : Option Phandle) (name : Option (List ℕ)) (xt : Cell)
    (ns nodes : List Node) → method_made home name xt ns ≡ Some nodes → AreStored m ns → AreStored m nodes
made_stored l m (Some ph) (Some name) xt ns nodes e a =
    added_stored l m (method_added ns ph name xt) ns nodes ph name xt refl e a
made_stored l m (Some ph) None xt ns nodes e a = absurd cc
made_stored l m None name xt ns nodes e a = absurd cc

method_stands : {S : Type 0} (x : Option (List Node)) (n : ℕ) (s : State S) → IsSound s.board.memory
    → ((nodes : List Node) → x ≡ Some nodes → AreStored s.board.memory s.board.tree → AreStored s.board.memory nodes)
    → Stands s.board (as_method x n s).board
method_stands None n s sound h = stays s.board sound
method_stands (Some nodes) n s sound h = ((refl, refl), sound, h nodes refl)

known_stands : {S : Type 0} (l : Laws) (e : Result (Unit {0}) Throw) (home : Option Phandle) (n : ℕ) (s : State S)
    → IsSound s.board.memory → Stands s.board (known_if e home n s).board
known_stands l (Ok x) home n s sound =
    let name = name_in (word_at s.words.dictionary n) in
    method_stands (method_made home name (xt_cell n) s.board.tree) n s sound
    (λ nodes e a. made_stored l s.board.memory home name (xt_cell n) s.board.tree nodes e a)
known_stands l (Err t) home n s sound = stays s.board sound

then_known_stands : {S : Type 0} (l : Laws) (w : Board) (home : Option Phandle) (o : Option ℕ) (a : Outcome S)
    → Stands w a.state.board → Stands w (then_known home o a).state.board
then_known_stands l w home None a h = h
then_known_stands l w home (Some n) a h =
    then_stands w a.state.board (known_if a.ended home n a.state).board h
    (known_stands l a.ended home n a.state h.1)

-- ---- defining

opened_stands : {S : Type 0} (l : Laws) (w : Board) (b : Bool) (s : State S) → Stands w s.board
    → Stands w (opened b s).board
opened_stands l w true s h =
    then_stands w s.board (opened true s).board h
    (by_space l s.board (with_state s.board.memory true) h.1 (by_state l s.board.memory true h.1))
opened_stands l w false s h = h

made_kept : (l : Laws) (d : DefiningWord) (q : Option Pending) (x : Option Made) (w : WordsState) (cells : List Cell)
    (m : DataSpace) → IsSound m → has_no_bytes m x ≡ false → Keeps m (word_made d (making w cells m) q x).memory
made_kept l d None x w cells m sound e = same m sound
made_kept l d (Some p) None w cells m sound e = same m sound
made_kept l d (Some p) (Some x) w cells m sound e = zeros_kept l m x.bytes sound e

making_stands : {S : Type 0} (l : Laws) (d : DefiningWord) (f : Option Throw) (x : Option Made) (s : State S)
    → IsSound s.board.memory → (f ≡ None → has_no_bytes s.board.memory x ≡ false)
    → Stands s.board
    (by_making d (unless f (word_made d (making s.words s.board.stack s.board.memory) s.words.pending x))
    s).state.board
making_stands l d (Some t) x s r h = stays s.board r
making_stands l d None x s r h =
    opened_stands l s.board (opens d) _
    (by_space l s.board _ r (made_kept l d s.words.pending x s.words s.board.stack s.board.memory r (h refl)))

has_bytes : {S : Type 0} (s : State S) (x : Option Made)
    → counting (defining_faults (making s.words s.board.stack s.board.memory) x) ≡ None
    → has_no_bytes s.board.memory x ≡ false
has_bytes s x e =
    let fifth = fault_if (has_no_bytes s.board.memory x) dictionary_overflow ∷ [] in
    let fourth = fault_if (nat_le capacity (length s.words.dictionary)) dictionary_overflow ∷ fifth in
    let third = fault_if (is_none x) stack_underflow ∷ fourth in
    let second = fault_if (is_none s.words.pending) compiler_nesting ∷ third in
    let rest = found_none (is_some s.words.defining) compiler_nesting second e in
    let after = found_none (is_none s.words.pending) compiler_nesting third rest.1 in
    let later = found_none (is_none x) stack_underflow fourth after.1 in
    let last = found_none (nat_le capacity (length s.words.dictionary)) dictionary_overflow fifth later.1 in
    (found_none (has_no_bytes s.board.memory x) dictionary_overflow [] last.1).0

slot_stands : {S : Type 0} (l : Laws) (k : Slot) (f : Option Throw) (home : Option Phandle) (x : Option SlotMade)
    (r : Result (ℕ × (InstanceTable × DataSpace)) InstanceFault) (s : State S)
    → slot_given home x (slot_making s.words s.board.stack s.board.memory s.board.instances) ≡ r
    → IsSound s.board.memory
    → Stands s.board
    (by_slot_making
    (unless f
    (slot_word_made k s.words.pending x r (slot_making s.words s.board.stack s.board.memory s.board.instances)))
    s).state.board
slot_stands l k (Some t) home x r s e sound = stays s.board sound
slot_stands l k None home x r s e sound =
    by_space l s.board _ sound
    (slot_word_kept l k s.words.pending home x r
    (slot_making s.words s.board.stack s.board.memory s.board.instances) sound e)

word_stands : {S : Type 0} (l : Laws) (c : Calls S) (d : DefiningWord) (o : Option Slot) (s : State S)
    → IsSound s.board.memory → Stands s.board (word_made_as c d o s).state.board
word_stands l c d None s r =
    let x = made_by d (c.ends_at s.code) (aligned s.board.memory.here) s.board.stack in
    making_stands l d (counting (defining_faults (making s.words s.board.stack s.board.memory) x)) x s r (has_bytes s x)
word_stands l c d (Some k) s r =
    let g = slot_making s.words s.board.stack s.board.memory s.board.instances in
    let home = s.board.active.«package» in
    let x = slot_made k s.board.stack in
    slot_stands l k (counting (slot_faults home x (slot_given home x g) g)) home x (slot_given home x g) s refl r

define_stands : {S : Type 0} (l : Laws) (c : Calls S) (d : DefiningWord) (s : State S) → IsSound s.board.memory
    → Stands s.board (define_entry c d s).state.board
define_stands l c d s r =
    then_known_stands l s.board s.board.active.«package» (known_at_once d s.words.dictionary) (word_defined c d s)
    (word_stands l c d (awaited d s.words) s r)

closed_stands : {S : Type 0} (l : Laws) (e : Result (Unit {0}) Throw) (code : S) (s : State S)
    → IsSound s.board.memory
    → Stands s.board (by_code (record { code = code; ended = e }) (closed_if e s)).state.board
closed_stands l (Ok x) code s r =
    by_space l s.board (with_state s.board.memory false) r (by_state l s.board.memory false r)
closed_stands l (Err t) code s r = stays s.board r

ending_stands : {S : Type 0} (l : Laws) (c : Calls S) (o : Option ℕ) (s : State S) → IsSound s.board.memory
    → Stands s.board (definition_ended c o s).state.board
ending_stands l c None s r = stays s.board r
ending_stands l c (Some n) s r =
    let a = c.semicolon (record { 0 = xt_of n }) s.code in closed_stands l a.ended a.code s r

-- ---- strings

put_stands : {S : Type 0} (l : Laws) (e : Result (Unit {0}) Throw) (code : S) (m : DataSpace) (s : State S)
    → IsSound s.board.memory → Keeps s.board.memory m → Stands s.board (string_put e code m s).state.board
put_stands l (Ok x) code m s r h =
    by_space l s.board (rounded m) r (then_kept s.board.memory m (rounded m) h (rounded_kept l m h.sound))
put_stands l (Err t) code m s r h = stays s.board r

refused_stands : {S : Type 0} (e : Result (Unit {0}) Throw) (t : Throw) (s : State S) → IsSound s.board.memory
    → Stands s.board (string_refused e t s).state.board
refused_stands (Ok x) t s r = stays s.board r
refused_stands (Err first) t s r = stays s.board r

string_stands : {S : Type 0} (l : Laws) (a : Answered S) (r : Result (ℕ × DataSpace) MemFault) (s : State S)
    → IsSound s.board.memory → IsAnswered s.board.memory r → Stands s.board (string_kept a r s).state.board
string_stands l a (Ok x) s sound h = put_stands l a.ended a.code x.1 s sound h
string_stands l a (Err fault) s sound h = refused_stands a.ended _ s sound

-- ---- the end of an image

back_kept : (l : Laws) (i : Input) (w : Board) → IsSound w.memory
    → Kept true w (record w { memory = given_back i w.memory })
back_kept l input.Nothing w r = inl (stays w r)
back_kept l (input.Text n) w r = inl (stays w r)
back_kept l (input.Image size n) w r =
    let m = w.memory in
    let stored = l.stored.by_others m (image_popped m) w.tree r (l.properties.by_pop m r) in
    inr (l.sound.by_pop m r, stored, inl (popped m r))

ended_leaves : {S : Type 0} (l : Laws) (c : Calls S) (s : State S) → IsSound s.board.memory
    → Leaves true s.board (ended c s)
ended_leaves l c s r =
    either true s.board (ends_inside s) _ _
    (given_up_stands l c s r) (back_kept l s.flow.reading.input s.board r)

-- ---- acts

-- what is left elsewhere may be left at the end of an image
weaken_by : (b : Bool) (w after : Board) (e : Result (Unit {0}) Throw) → KeptBy false w after e → KeptBy b w after e
weaken_by false w after e h = h
weaken_by true w after (Ok x) (inl h) = inl h
weaken_by true w after (Ok x) (inr h) = inr (h.0, h.1, inr h.2)
weaken_by true w after (Err t) h = h

weaken : {S : Type 0} (b : Bool) (w : Board) (o : Outcome S) → Leaves false w o → Leaves b w o
weaken b w o h = weaken_by b w o.state.board o.ended h

-- and where all stands that is left anywhere
stands : {S : Type 0} (b : Bool) (w : Board) (o : Outcome S) → Stands w o.state.board → Leaves b w o
stands b w o h = stands_by b w o.state.board o.ended h

appended_leaves : {S : Type 0} (code : S) (e : Result (Unit {0}) Throw) (cells : List Cell) (s : State S)
    → IsSound s.board.memory
    → Leaves false s.board (appended (record { code = code; ended = e }) cells s)
appended_leaves code (Ok x) cells s sound = left s.board sound
appended_leaves code (Err t) cells s sound = stays s.board sound

gone_leaves : {S : Type 0} (to : To) (s : State S) → IsSound s.board.memory
    → Kept false s.board (gone to s).board
gone_leaves act.Behind s sound = left s.board sound
gone_leaves (act.Next to) s sound = left s.board sound

-- the images stand, and then more is done
stood_kept : (w after last : Board) → IsSound w.memory → Stands w after → Kept false after last → Kept false w last
stood_kept w after last sound h (inl k) = inl (then_stands w after last h k)
stood_kept w after last sound h (inr (full, stored, (image, e))) =
    inr (
      full,
      (λ a. stored (h.2 a)),
      (image, e ∙ ap (λ x. image ∷ x) (all_run w.memory after.memory sound.images h.0)),
    )

stood_by : (w after last : Board) (e : Result (Unit {0}) Throw) → IsSound w.memory → Stands w after
    → KeptBy false after last e → KeptBy false w last e
stood_by w after last (Ok x) sound h k = stood_kept w after last sound h k
stood_by w after last (Err t) sound h k = then_stands w after last h k

stood_leaves : {S : Type 0} (w after : Board) (o : Outcome S) → IsSound w.memory → Stands w after
    → Leaves false after o → Leaves false w o
stood_leaves w after o sound h k = stood_by w after o.state.board o.ended sound h k

loaded : (l : Laws) (w : Board) (m : DataSpace) → IsSound w.memory → Begins w.memory m
    → Changes false w (record w { memory = m })
loaded l w m sound h =
    (h.sound, (λ a. l.stored.by_others w.memory m w.tree sound h.properties a), h.one)

worked_leaves : {S : Type 0} (l : Laws) (c : Calls S) (a : WordAct) (s : State S) → IsWork (running_rules S) s a
    → IsSound s.board.memory → Leaves false s.board (worked c a s)
unfolding worked
worked_leaves l c (act.Fails t) s h sound = stays s.board sound
worked_leaves l c (act.Raises t cells) s h sound = stays s.board sound
worked_leaves l c (act.Leaves cells) s h sound = left s.board sound
worked_leaves l c (act.Works w) s h sound = ordinary l w s sound
worked_leaves l c (act.Listens w) s h sound = listens l w s sound
worked_leaves l c (act.Reaches w) s h sound = reaches l w s sound
worked_leaves l c (act.Moves cells move to) s h sound =
    gone_leaves to (with_stack cells (with_items (doing.moved move s.flow.items) s)) sound
worked_leaves l c (act.Knows w cells) s h sound = left s.board sound
worked_leaves l c (act.Stores m cells) s h sound =
    inl (by_space l s.board m sound (slot_kept l s.board h.0 h.1 m sound h.2))
worked_leaves l c act.Compiles s h sound =
    inl (by_space l s.board (with_state s.board.memory true) sound (by_state l s.board.memory true sound))
worked_leaves l c (act.Prints text) s h sound = left s.board sound
worked_leaves l c (act.Appends e cells) s h sound =
    appended_leaves (c.element e s.code).code (c.element e s.code).ended cells s sound
worked_leaves l c (act.Loads size m cells) s h sound = inr (loaded l s.board m sound (h l))
worked_leaves l c (act.Reads text cells) s h sound = left s.board sound
worked_leaves l c (act.Takes cells a) s h sound = worked_leaves l c a (with_stack cells s) h sound
worked_leaves l c (act.Guards cells a) s h sound = worked_leaves l c a (guarded cells s) h sound
worked_leaves l c (act.Enters cells d ih a) s h sound = worked_leaves l c a (entered cells d ih s) h.1 sound
worked_leaves l c (act.Opens x a) s h sound =
    let kept = instance_stands l x s h.1 sound in
    stood_leaves s.board (furnished x s).board (worked c a (furnished x s)) sound kept
    (worked_leaves l c a (furnished x s) h.2 kept.1)
worked_leaves l c (act.Refuses t) s h sound = stays s.board sound

ends_leave : {S : Type 0} (l : Laws) (at_end : Bool) (c : Calls S) (s : State S) → at_end ≡ true
    → IsSound s.board.memory → Leaves at_end s.board (ended c s)
ends_leave l true c s e r = ended_leaves l c s r
ends_leave l false c s e r = absurd cc

acted_leaves : {S : Type 0} (l : Laws) (c : Calls S) (at_end : Bool) (a : Act) (s : State S)
    → IsAct (running_rules S) (running_turns S at_end) s a → IsSound s.board.memory
    → Leaves at_end s.board (acted c a s)
unfolding acted
acted_leaves l c at_end (act.Does a) s h sound =
    weaken at_end s.board (worked c a s) (worked_leaves l c a s h sound)
acted_leaves l c at_end (act.Goes cells move n) s h sound =
    weaken_by at_end s.board s.board (Ok tt) (left s.board sound)
acted_leaves l c at_end (act.Copies a n) s h sound =
    let r = append_copied s.board.memory a n [] in
    stands at_end s.board (string_compiled c a n s)
    (string_stands l _ r s sound (by_append_copy l s.board.memory a n [] r sound no_bytes refl))
acted_leaves l c at_end (act.Makes d) s h sound =
    stands at_end s.board (define_entry c d s) (define_stands l c d s sound)
acted_leaves l c at_end act.Closes s h sound =
    stands at_end s.board (semicolon_entry c s.words.defining s)
    (then_known_stands l s.board s.flow.home s.words.defining _ (ending_stands l c s.words.defining s sound))
acted_leaves l c at_end act.Ends s h sound = ends_leave l at_end c s h sound

-- ---- items

item_due_leaves : {S : Type 0} (l : Laws) (c : Calls S) (x : Option (Item × Place)) (s : State S)
    → IsSound s.board.memory → Leaves false s.board (item_due c x s)
item_due_leaves l c None s sound = stays s.board sound
item_due_leaves {S} l c (Some x) s sound =
    let on = with_next (continuation.Code x.1.cell) s in
    let R = running_rules S in
    acted_leaves l c false (item_act x.0 (front_of on)) on
    (item_acts R (running_turns S false) x.0 on (anywhere R (λ n y. tt) (target_of x.0) on) (λ m. sound)
    (all_executed R tt (plan_of_item x.0 (plan_in on)) on (λ m. sound) tt (λ y e. tt)))
    sound

-- ---- tokens

found_leaves : {S : Type 0} (l : Laws) (c : Calls S) (x : Option (Token × ℕ)) (size : OffsetSize) (position : ℕ)
    (s : State S) → IsSound s.board.memory → Leaves (token_ends x) s.board (found_token c x size position s)
found_leaves l c None size position s sound = stays s.board sound
found_leaves {S} l c (Some x) size position s sound =
    let on = read_on (size_behind x.0.code.0 size) x.1 s in
    let here = spot_in s.board.memory position x.1 in
    let R = running_rules S in
    let T = running_turns S (token_ends (Some x)) in
    acted_leaves l c (token_ends (Some x)) (act_of (typed_of x.0) here (front_of on)) on
    (typed_acts R T (typed_of x.0) here on (λ m. sound)
    (typed_may R T (word_numbered x.0.code.0) x.0.code x.0.argument on.flow.is_compiling on
    (record {
      positions = tt;
      ends = λ e. e;
      makes = λ e. tt;
      closes = λ e z. tt;
      appends = λ e. tt;
      executes = all_executed R tt _ on (λ m. sound) tt (λ y e. tt);
    })))
    sound

token_leaves : {S : Type 0} (l : Laws) (c : Calls S) (i : Input) (s : State S) → IsSound s.board.memory
    → Leaves (reading_ends s.board.memory i) s.board (token_due c i s)
token_leaves l c (input.Image size position) s sound =
    found_leaves l c (token_from (latest_image s.board.memory) position size) size position s sound
token_leaves l c (input.Text position) s sound = stays s.board sound
token_leaves l c input.Nothing s sound = stays s.board sound

-- ---- words that a text names

named_kept : (l : Laws) (d : DefiningWord) (name : List ℕ) (x : Option Made) (w : WordsState) (cells : List Cell)
    (m : DataSpace) → IsSound m → has_no_bytes m x ≡ false → Keeps m (named_made d name (making w cells m) x).memory
named_kept l d name None w cells m sound e = same m sound
named_kept l d name (Some x) w cells m sound e = zeros_kept l m x.bytes sound e

named_stands : {S : Type 0} (l : Laws) (d : DefiningWord) (name : List ℕ) (f : Option Throw) (x : Option Made)
    (s : State S) → IsSound s.board.memory → (f ≡ None → has_no_bytes s.board.memory x ≡ false)
    → Stands s.board
    (by_making d (unless f (named_made d name (making s.words s.board.stack s.board.memory) x)) s).state.board
named_stands l d name (Some t) x s r h = stays s.board r
named_stands l d name None x s r h =
    opened_stands l s.board (opens d) _
    (by_space l s.board _ r (named_kept l d name x s.words s.board.stack s.board.memory r (h refl)))

second_none : (f g : Option Throw) → counted f g ≡ None → g ≡ None
second_none None g e = e
second_none (Some t) None e = refl
second_none (Some t) (Some u) e = absurd cc

named_bytes : {S : Type 0} (name : List ℕ) (s : State S) (x : Option Made)
    → counting (naming_faults name (making s.words s.board.stack s.board.memory) x) ≡ None
    → has_no_bytes s.board.memory x ≡ false
named_bytes name s x e =
    let fifth = fault_if (has_no_bytes s.board.memory x) dictionary_overflow ∷ [] in
    let fourth = fault_if (nat_le capacity (length s.words.dictionary)) dictionary_overflow ∷ fifth in
    let third = name_fault (Some name) ∷ fourth in
    let second = fault_if (is_none x) stack_underflow ∷ third in
    let rest = found_none (is_some s.words.defining) compiler_nesting second e in
    let after = found_none (is_none x) stack_underflow third rest.1 in
    let later = second_none (name_fault (Some name)) (counting fourth) after.1 in
    let last = found_none (nat_le capacity (length s.words.dictionary)) dictionary_overflow fifth later in
    (found_none (has_no_bytes s.board.memory x) dictionary_overflow [] last.1).0

slot_named_stands : {S : Type 0} (l : Laws) (k : Slot) (name : List ℕ) (f : Option Throw) (home : Option Phandle)
    (x : Option SlotMade) (r : Result (ℕ × (InstanceTable × DataSpace)) InstanceFault) (s : State S)
    → slot_given home x (slot_making s.words s.board.stack s.board.memory s.board.instances) ≡ r
    → IsSound s.board.memory
    → Stands s.board
    (by_slot_making
    (unless f
    (slot_word_named k name x r (slot_making s.words s.board.stack s.board.memory s.board.instances)))
    s).state.board
slot_named_stands l k name (Some t) home x r s e sound = stays s.board sound
slot_named_stands l k name None home x r s e sound =
    by_space l s.board _ sound
    (slot_named_kept l k name home x r
    (slot_making s.words s.board.stack s.board.memory s.board.instances) sound e)

word_named_stands : {S : Type 0} (l : Laws) (c : Calls S) (d : DefiningWord) (name : List ℕ) (o : Option Slot)
    (s : State S) → IsSound s.board.memory → Stands s.board (word_named_as c d name o s).state.board
word_named_stands l c d name None s r =
    let x = made_by d (c.ends_at s.code) (aligned s.board.memory.here) s.board.stack in
    named_stands l d name (counting (naming_faults name (making s.words s.board.stack s.board.memory) x)) x s r
    (named_bytes name s x)
word_named_stands l c d name (Some k) s r =
    let g = slot_making s.words s.board.stack s.board.memory s.board.instances in
    let home = s.board.active.«package» in
    let x = slot_made k s.board.stack in
    slot_named_stands l k name (counting (slot_naming_faults name home x (slot_given home x g) g)) home x
    (slot_given home x g) s refl r

naming_stands : {S : Type 0} (l : Laws) (c : Calls S) (d : DefiningWord) (name : List ℕ) (s : State S)
    → IsSound s.board.memory → Stands s.board (naming_done c d name s).state.board
naming_stands l c d name s r =
    then_known_stands l s.board s.board.active.«package» (known_at_once d s.words.dictionary) (word_named c d name s)
    (word_named_stands l c d name (awaited d s.words) s r)

-- ---- strings of a text

written_kept : (l : Laws) (m : DataSpace) (a : ℕ) (xs : List ℕ) (after : DataSpace) → IsSound m → AreBytes xs
    → bytes_written m a xs ≡ Ok after → Keeps m after
written_kept l m a xs after sound small e = record {
  sound = l.sound.by_bytes m after a xs sound small e;
  images = l.images.by_bytes m after a xs sound e;
  properties = l.properties.by_bytes m after a xs sound e;
}

left_string : {S : Type 0} (l : Laws) (r : Result (List Cell) Throw) (m : Result DataSpace MemFault) (n : ℕ)
    (s : State S) → IsSound s.board.memory → ((x : DataSpace) → m ≡ Ok x → Keeps s.board.memory x)
    → Stands s.board (by_string (string_left r m n s.board) s).state.board
left_string l (Err t) m n s sound h = stays s.board sound
left_string l (Ok cells) (Err fault) n s sound h = stays s.board sound
left_string l (Ok cells) (Ok m) n s sound h = by_space l s.board m sound (h m refl)

pub said_stands : {S : Type 0} (l : Laws) (bytes : List ℕ) (s : State S) → IsSound s.board.memory → AreBytes bytes
    → Stands s.board (said bytes s).state.board
said_stands l bytes s sound small =
    let at = place_for s.flow.strings (length bytes) in
    let cells = record { 0 = length bytes } ∷ record { 0 = strings_start + at } ∷ s.board.stack in
    left_string l (within cells) (bytes_written s.board.memory (strings_start + at) bytes) (at + length bytes) s sound
    (λ x e. written_kept l s.board.memory (strings_start + at) bytes x sound small e)

left_spelt : {S : Type 0} (l : Laws) (r : Result (Unit {0}) Throw) (code : S) (m : Result (ℕ × DataSpace) MemFault)
    (s : State S) → IsSound s.board.memory → IsAnswered s.board.memory m
    → Stands s.board (by_spelling (string_left_in r code (bytes_put m)) s).state.board
left_spelt l (Ok x) code (Ok m) s sound h =
    by_space l s.board (rounded m.1) sound
    (then_kept s.board.memory m.1 (rounded m.1) h (rounded_kept l m.1 h.sound))
left_spelt l (Ok x) code (Err fault) s sound h = stays s.board sound
left_spelt l (Err t) code m s sound h = stays s.board sound

pub spelt_stands : {S : Type 0} (l : Laws) (c : Calls S) (bytes : List ℕ) (es : List (Element PlainItem)) (s : State S)
    → IsSound s.board.memory → AreBytes bytes → Stands s.board (spelt c bytes es s).state.board
spelt_stands l c bytes es s sound small =
    let m = s.board.memory in
    let a = all_appended c (string_element m.here (length bytes) ∷ es) s.code in
    left_spelt l a.ended a.code (with_bytes m bytes) s sound (by_append l m bytes (with_bytes m bytes) sound small refl)

-- ---- words of a text

text_leaves : {S : Type 0} (l : Laws) (c : Calls S) (a : TextAct) (s : State S)
    → IsTextAct (running_rules S) (running_turns S false) AreBytes s a → IsSound s.board.memory
    → Leaves false s.board (text_acted c a s)
unfolding text_acted worked
text_leaves l c (Acts a) s h sound = acted_leaves l c false a s h sound
text_leaves l c (AppendsAll es cells) s h sound =
    let a = all_appended c es s.code in appended_leaves a.code a.ended cells s sound
text_leaves l c (Names d name) s h sound =
    stands false s.board (naming_done c d name s) (naming_stands l c d name s sound)
text_leaves l c (Says bytes) s h sound = stands false s.board (said bytes s) (said_stands l bytes s sound h)
text_leaves l c (Spells bytes es) s h sound =
    stands false s.board (spelt c bytes es s) (spelt_stands l c bytes es s sound h.1)
text_leaves l c Interprets s h sound =
    inl (by_space l s.board (with_state s.board.memory false) sound (by_state l s.board.memory false sound))
text_leaves l c (Selects node) s h sound = left s.board sound
text_leaves l c (Sees xt) s h sound = left s.board sound

-- a text that ends gives nothing back
word_leaves : {S : Type 0} (l : Laws) (c : Calls S) (w : TextWord) (next : ℕ) (s : State S) → IsSaid w → HasSoundSpace s
    → Leaves false s.board (word_done c (record { word = w; next = next }) s)
unfolding text_acted text_act acted
word_leaves l c text.End next s said sound =
    let on = read_from next s in
    either false s.board (ends_inside on) _ _ (given_up_stands l c on sound.0) (left s.board sound.0)
word_leaves {S} l c w next s said sound =
    let on = read_from next s in
    let R = running_rules S in
    text_leaves l c (text_act w (front_of on)) on
    (text_acts R (running_turns S false) AreBytes w on (λ m. sound.0)
    (record {
      said = said;
      ends = λ e. absurd cc;
      makes = tt;
      closes = λ e. tt;
      appends = λ e. tt;
      prints = tt;
      executes = all_executed R tt _ on (λ m. sound.0) tt (λ y e. tt);
      strings = λ n. strings_are s.flow.texts n sound.1;
      quotes = λ at. quotes_are s.flow.texts at sound.1;
    }))
    sound.0

reading_leaves : {S : Type 0} (l : Laws) (c : Calls S) (i : Input) (s : State S) → HasSoundSpace s
    → Leaves (reading_ends s.board.memory i) s.board (reading_due c i s)
reading_leaves l c (input.Image size position) s sound = token_leaves l c (input.Image size position) s sound.0
reading_leaves l c (input.Text position) s sound =
    let x = said_at position s in word_leaves l c x.word x.next s (word_said position s) sound
reading_leaves l c input.Nothing s sound = token_leaves l c input.Nothing s sound.0

-- ---- what comes next

pub due_leaves : {S : Type 0} (l : Laws) (c : Calls S) (to : Continuation) (s : State S) → HasSoundSpace s
    → Leaves (is_at_end to s) s.board (due c to s)
due_leaves l c continuation.Source s sound = reading_leaves l c s.flow.reading.input s sound
due_leaves l c (continuation.Code n) s sound = item_due_leaves l c (c.fetch s.code (record { cell = n })) s sound.0
