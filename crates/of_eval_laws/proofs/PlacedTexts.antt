-- What a word of a text leaves placed.
use Rattle.std.specs.Result.{is_err}
use Rattle.std.proofs.Common.{◌≡◌, ℕ, ◌+◌, Bool, true, false, List, [], ◌∷◌, ◌++◌, length, Option, Some, None, Result}
use Rattle.std.proofs.Common.{Ok, Err, is_some, is_none, refl, sym, ap, ◌∙◌, subst, nat_le}
use Rattle.std.proofs.lemmas.Bool.{false≢true}
use Rattle.of_cells.specs.declared.cells.Cell.{Cell}
use Rattle.of_stacks.specs.declared.throws.Throw.{Throw}
use Rattle.of_stacks.specs.Order.{counting, fault_if, unless}
use Rattle.of_stacks.specs.Throws.{compiler_nesting, dictionary_overflow, no_node, stack_underflow}
use Rattle.of_memory.specs.DataSpace.{DataSpace}
use Rattle.of_memory.specs.Growth.{aligned, appended as with_bytes, with_zeros}
use Rattle.of_nodes.specs.declared.phandles.Phandle.{Phandle}
use Rattle.of_dict.specs.declared.word.Kind.TheVariants as kind
use Rattle.of_dict.specs.declared.word.Slot.{Slot}
use Rattle.of_dict.specs.declared.word.Word.{Word as OwnWord}
use Rattle.of_dict.specs.Calls.{made}
use Rattle.of_dict.specs.Words.{capacity}
use Rattle.of_ihandles.specs.declared.instance_fault.InstanceFault.{InstanceFault}
use Rattle.of_ihandles.specs.Table.{InstanceTable}
use Rattle.of_control.specs.Element.{Element}
use Rattle.of_compile.specs.declared.defining.DefiningWord.{DefiningWord}
use Rattle.of_compile.specs.declared.element.PlainItem.{PlainItem}
use Rattle.of_compile.specs.Structured.{Definitions, has_room}
use Rattle.of_compile.specs.Defining.{Made, has_no_bytes, made_by, making, named_made, naming_faults, opened_in, opens}
use Rattle.of_compile.specs.Defining.{with_named}
use Rattle.of_compile.specs.Elements.{element_cells, own_item}
use Rattle.of_compile.specs.SlotWords.{SlotMade, SlotMaking, awaited, slot_given, slot_made, slot_making}
use Rattle.of_compile.specs.SlotWords.{slot_naming_faults, slot_word_named}
use Rattle.of_compile.specs.Words.{name_fault}
use Rattle.of_board.specs.declared.board.Board.{Board}
use Rattle.of_eval.specs.Defining.{by_making, by_slot_making, known_at_once, string_element}
use Rattle.of_eval.specs.Doing.{appended, worked}
use Rattle.of_eval.specs.Naming.{naming_done, word_named, word_named_as}
use Rattle.of_interpret.specs.Strings.{all_appended, by_spelling, by_string, bytes_put, string_left_in}
use Rattle.of_interpret.specs.Strings.{string_said, unless_thrown}
use Rattle.of_interpret.specs.TextActs.{Acts, AppendsAll, Interprets, Names, Says, Sees, Selects, Spells, TextAct}
use Rattle.of_interpret.specs.TextActs.{text_acted}
use Rattle.of_state.specs.State.{Answered, State}
use Rattle.of_eval_laws.specs.Structured.{structured_calls}
use Rattle.of_eval_laws.specs.Placed.{AllPlaced, ArePlaced, finished_end}
use Rattle.of_eval_laws.proofs.Placed.{interprets_placed, more_placed, none_open, none_placed, opened_placed}
use Rattle.of_eval_laws.proofs.Placed.{pushed_placed}
use Rattle.of_eval_laws.proofs.PlacedActs.{Starts, acted_placed, element_if, found_none, made_starts, next_start}
use Rattle.of_eval_laws.proofs.PlacedActs.{then_left}
use Rattle.of_eval_laws.proofs.PlacedEnds.{LeavesPlaced, thrown}
use Rattle.of_eval_laws.proofs.PlacedRules.{placed, placed_turns}
use Rattle.of_eval_laws.proofs.WalkTexts.{AnyBytes, IsTextAct}

-- ---- words that a text names

-- where nothing is thrown, no definition is open, and the cells that are taken are there
abbrev CanName : State Definitions → Option Made → Type 0
CanName s x = (s.words.defining ≡ None) × (is_none x ≡ false)

named_left :
    (d : DefiningWord) (name : List ℕ) (f : Option Throw) (x : Option Made) (start : ℕ) (s : State Definitions)
    → (f ≡ None → CanName s x) → (s.words.defining ≡ None → start ≡ finished_end s.code)
    → Starts (opens d) start x → AllPlaced s
    → LeavesPlaced (by_making d (unless f (named_made d name (making s.words s.board.stack s.board.memory) x)) s)
named_left d name (Some t) x start s h at starts p = thrown s p
named_left d name None None start s h at starts p = absurd (false≢true (sym (h refl).1))
named_left d name None (Some x) start s h at starts p =
    let none = (h refl).0 in
    let now = none_placed s none p in
    opened_placed (opens d)
    (record s {
      words = with_named d x.kind name s.words;
      board = record s.board { stack = x.stack; memory = with_zeros s.board.memory x.bytes };
    })
    now.0
    (pushed_placed (opens d) (record (made (Some name) x.kind) { hidden = opens d }) s.flow.next s.flow.items
    s.words.dictionary s.code (starts ∙ ap (λ n. opened_in (opens d) n) (at none)) now.1)

can_name : (name : List ℕ) (s : State Definitions) (x : Option Made)
    → counting (naming_faults name (making s.words s.board.stack s.board.memory) x) ≡ None → CanName s x
can_name name s x e =
    let rest =
    name_fault (Some name)
    ∷ fault_if (nat_le capacity (length s.words.dictionary)) dictionary_overflow
    ∷ fault_if (has_no_bytes s.board.memory x) dictionary_overflow
    ∷ [] in
    let first =
    found_none (is_some s.words.defining) compiler_nesting (fault_if (is_none x) stack_underflow ∷ rest) e in
    let second = found_none (is_none x) stack_underflow rest first.1 in
    (none_open s.words.defining first.0, second.0)

-- with one more word that opens nothing
more_words : (w : OwnWord) (s : State Definitions) → s.words.defining ≡ None
    → ArePlaced s.flow.next s.flow.items false (s.words.dictionary ++ Some w ∷ []) None s.code
    → s.flow.is_compiling ≡ false
    → ArePlaced s.flow.next s.flow.items s.flow.is_compiling (s.words.dictionary ++ Some w ∷ []) s.words.defining s.code
more_words w s none p compiles =
    let words = s.words.dictionary ++ Some w ∷ [] in
    subst (λ o. ArePlaced s.flow.next s.flow.items s.flow.is_compiling words o s.code) (sym none)
    (subst (λ b. ArePlaced s.flow.next s.flow.items b words None s.code) (sym compiles) p)

slot_named_left : (k : Slot) (name : List ℕ) (f : Option Throw) (x : Option SlotMade)
    (r : Result (ℕ × (InstanceTable × DataSpace)) InstanceFault) (s : State Definitions)
    → (f ≡ None → s.words.defining ≡ None) → AllPlaced s
    → LeavesPlaced
    (by_slot_making
    (unless f
    (slot_word_named k name x r (slot_making s.words s.board.stack s.board.memory s.board.instances))) s)
slot_named_left k name (Some t) x r s h p = thrown s p
slot_named_left k name None None r s h p = p
slot_named_left k name None (Some x) (Err fault) s h p = p
slot_named_left k name None (Some x) (Ok r) s h p =
    let none = h refl in
    let now = none_placed s none p in
    let w = made (Some name) (kind.PerInstance k r.0) in
    more_words w s none
    (pushed_placed false w s.flow.next s.flow.items s.words.dictionary s.code refl now.1) now.0

slot_shut : (name : List ℕ) (home : Option Phandle) (x : Option SlotMade)
    (r : Result (ℕ × (InstanceTable × DataSpace)) InstanceFault) (g : SlotMaking)
    → counting (slot_naming_faults name home x r g) ≡ None → g.words.defining ≡ None
slot_shut name home x r g e =
    let rest =
    fault_if (is_none x) stack_underflow
    ∷ fault_if (is_none home) no_node
    ∷ name_fault (Some name)
    ∷ fault_if (nat_le capacity (length g.words.dictionary)) dictionary_overflow
    ∷ fault_if (nat_le capacity (length g.instances.slots)) dictionary_overflow
    ∷ fault_if (is_err r) dictionary_overflow
    ∷ [] in
    none_open g.words.defining (found_none (is_some g.words.defining) compiler_nesting rest e).0

word_left : (d : DefiningWord) (name : List ℕ) (o : Option Slot) (s : State Definitions) → AllPlaced s
    → LeavesPlaced (word_named_as structured_calls d name o s)
word_left d name (Some k) s p =
    let g = slot_making s.words s.board.stack s.board.memory s.board.instances in
    let home = s.board.active.«package» in
    let x = slot_made k s.board.stack in
    let r = slot_given home x g in
    slot_named_left k name (counting (slot_naming_faults name home x r g)) x r s (slot_shut name home x r g) p
word_left d name None s p =
    let start = finished_end s.code + element_cells s.code.elements in
    let x = made_by d start (aligned s.board.memory.here) s.board.stack in
    named_left d name (counting (naming_faults name (making s.words s.board.stack s.board.memory) x)) x start s
    (can_name name s x) (next_start s p) (made_starts d start (aligned s.board.memory.here) s.board.stack) p

naming_left : (d : DefiningWord) (name : List ℕ) (s : State Definitions) → AllPlaced s
    → LeavesPlaced (naming_done structured_calls d name s)
naming_left d name s p =
    then_left s.board.active.«package» (known_at_once d s.words.dictionary) (word_named structured_calls d name s)
    (word_left d name (awaited d s.words) s p)

-- ---- several elements

-- with other definitions
abbrev with_code : Definitions → State Definitions → State Definitions
with_code d s = record s { code = d }

element_placed : (room : Bool) (e : Element PlainItem) (s : State Definitions) → (s.words.defining ≡ None → ⊥)
    → AllPlaced s → AllPlaced (with_code (element_if room e s.code).code s)
element_placed true e s h p = more_placed s e h p
element_placed false e s h p = p

rest_placed : (r : Result (Unit {0}) Throw) (a : Answered Definitions) (f : Definitions → Answered Definitions)
    (s : State Definitions) → AllPlaced (with_code a.code s)
    → (AllPlaced (with_code a.code s) → AllPlaced (with_code (f a.code).code s))
    → AllPlaced (with_code (unless_thrown r a f).code s)
rest_placed (Ok x) a f s p k = k p
rest_placed (Err t) a f s p k = p

all_placed : (es : List (Element PlainItem)) (s : State Definitions) → (s.words.defining ≡ None → ⊥) → AllPlaced s
    → AllPlaced (with_code (all_appended structured_calls es s.code).code s)
all_placed [] s h p = p
all_placed (e ∷ es) s h p =
    let a = structured_calls.element e s.code in
    rest_placed a.ended a (λ d. all_appended structured_calls es d) s
    (element_placed (has_room (own_item e) s.code) e s h p) (λ q. all_placed es (with_code a.code s) h q)

appended_placed : (a : Answered Definitions) (r : Result (Unit {0}) Throw) (cells : List Cell) (s : State Definitions)
    → AllPlaced (with_code a.code s) → LeavesPlaced (appended (record { code = a.code; ended = r }) cells s)
appended_placed a (Ok x) cells s p = p
appended_placed a (Err t) cells s p = thrown (with_code a.code s) p

-- ---- strings

said_placed : (r : Result (ℕ × Board) Throw) (s : State Definitions) → AllPlaced s → LeavesPlaced (by_string r s)
said_placed (Ok x) s p = p
said_placed (Err t) s p = thrown s p

spelt_placed : (r : Result (Unit {0}) Throw) (d : Definitions) (m : Result DataSpace Throw) (s : State Definitions)
    → AllPlaced (with_code d s) → AllPlaced s → LeavesPlaced (by_spelling (string_left_in r d m) s)
spelt_placed (Ok x) d (Ok m) s q p = q
spelt_placed (Ok x) d (Err t) s q p = thrown s p
spelt_placed (Err t) d m s q p = thrown s p

-- ---- all words of a text

pub text_placed : (a : TextAct) (s : State Definitions) → IsTextAct placed placed_turns AnyBytes s a → AllPlaced s
    → LeavesPlaced (text_acted structured_calls a s)
unfolding text_acted worked
text_placed (Acts a) s h p = acted_placed a s h p
text_placed (AppendsAll es cells) s h p =
    let a = all_appended structured_calls es s.code in
    appended_placed a a.ended cells s (all_placed es s h p)
text_placed (Names d name) s h p = naming_left d name s p
text_placed (Says bytes) s h p = said_placed (string_said bytes s.flow.strings s.board) s p
text_placed (Spells bytes es) s h p =
    let all = string_element s.board.memory.here (length bytes) ∷ es in
    let a = all_appended structured_calls all s.code in
    spelt_placed a.ended a.code (bytes_put (with_bytes s.board.memory bytes)) s (all_placed all s h.0 p) p
text_placed Interprets s h p = interprets_placed s p
text_placed (Selects node) s h p = p
text_placed (Sees xt) s h p = p
