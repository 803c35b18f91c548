-- The law `memory_is_asked`.
use Rattle.std.proofs.Common.{◌≡◌, ◌⊎◌, ℕ, Bool, true, false, List, Option, Some, None, Result, Ok, Err, inl, inr}
use Rattle.std.proofs.Common.{refl, sym, ◌∙◌, if◌then◌else◌}
use Rattle.std.proofs.lemmas.Bool.{false≢true}
use Rattle.std.specs.Prelude.{◌&&◌, [], ◌∷◌, is_some, length, nat_lt, not}
use Rattle.of_cells.specs.declared.cells.Cell.{Cell}
use Rattle.of_code.specs.declared.item.Item.{Item}
use Rattle.of_code.specs.declared.item.Item.TheVariants as item
use Rattle.of_code.specs.Items.{target_of}
use Rattle.of_stacks.specs.declared.throws.Throw.{Throw}
use Rattle.of_stacks.specs.Throws.{compile_only, invalid_argument}
use Rattle.of_nodes.specs.declared.phandles.Phandle.{Phandle}
use Rattle.of_fcodes.specs.declared.codes.FCode.{FCode}
use Rattle.of_fcodes.specs.declared.token_table.TokenEntry.{TokenEntry}
use Rattle.of_fcodes.specs.declared.words.StreamWord.{StreamWord}
use Rattle.of_fcodes.specs.declared.words.StreamWord.TheVariants as stream
use Rattle.of_fcodes.specs.declared.words.Word.{Word}
use Rattle.of_fcodes.specs.declared.words.Word.TheVariants as word
use Rattle.of_fcodes.specs.Lookup.{word_numbered}
use Rattle.of_fcodes.specs.Tokens.{entry_in}
use Rattle.of_stream.specs.Decoding.{Argument, Named, Nothing}
use Rattle.of_compile.specs.Defining.{may_define}
use Rattle.of_compile.specs.Words.{WordsState}
use Rattle.of_flow.specs.declared.token.Token.{Token}
use Rattle.of_flow.specs.declared.token.Token.TheVariants as token
use Rattle.of_eval.specs.declared.tokens.Spot.{Spot}
use Rattle.of_own.specs.Stores.{InSlot, InWord, Stored, store_entry}
use Rattle.of_eval.specs.Acts.{Act, Fails, Front, WordAct, front_of, knowing_under, leaving}
use Rattle.of_eval.specs.Acts.{keeping as keeping_stored}
use Rattle.of_eval.specs.Acts as act
use Rattle.of_eval.specs.Doing.{act_grows, executed_grows, work_grows}
use Rattle.of_eval.specs.Executing.{Plan, entered, guarded, plan_in}
use Rattle.of_eval.specs.Items.{item_act}
use Rattle.of_state.specs.State.{State, with_stack}
use Rattle.of_eval.specs.Reading.{typed_grows}
use Rattle.of_steps.specs.Steps.{item_grows_in}
use Rattle.of_eval.specs.Tokens.{act_of, compiling_act, token_act}
use Rattle.of_flow.specs.Tokens.{Plain, typed, typed_word}
use Rattle.of_flow.specs.Returns.{pushed}
use Rattle.of_interpret.specs.TextActs.{Acts, Says, Spells, TextAct, text_grows}
use Rattle.of_interpret.specs.TextWords.{literal_act, longest_string, only_compiling, selecting, stored_act, string_act}
use Rattle.of_interpret.specs.TextWords.{text_act, to_act, with_found}
use Rattle.of_eval_laws.specs.Asking.{MemoryIsAsked, Runs}
use Rattle.of_eval_laws.specs.Listed.{plan_of_item, plan_with}
use Rattle.of_eval_laws.proofs.Walk.{IsAct, Turns, item_acts, typed_acts}
use Rattle.of_eval_laws.proofs.WalkFree.{anywhere, free_turns, keeping}
use Rattle.of_eval_laws.proofs.WalkTyped.{typed_may}
use Rattle.of_eval_laws.proofs.WalkWords.{IsWork, Rules}

-- ---- acts

-- an act that runs no ordinary word, and appends nothing
abbrev asking : (S : Type 0) → Rules S
asking S = record (keeping S (λ s. Unit {0}) ((λ cells d ih s k p. (tt, tt, tt)), (λ x s o p. tt))) {
  Runs = ⊥;
  Works = λ w. ⊥;
  Appends = λ s. ⊥;
  Reads = λ s text. ⊥;
  Opening = ⊥;
  asks = λ r. tt;
  works = λ r w. absurd r;
  may_open = λ r. absurd r;
  opens = λ r s p e. absurd r;
  reads = λ r a n text s p shut e. absurd r;
}

-- it may make a word, or end a definition
abbrev asking_turns : (S : Type 0) → Type 0 → Type 0 → Turns (asking S)
asking_turns S makes closes =
    record (free_turns (asking S) (λ s p. tt) (λ l s. tt) (λ n s. tt)) { Makes = makes; Closes = closes }

work_none : {S : Type 0} (a : WordAct) (s : State S) → IsWork (asking S) s a → work_grows a ≡ false
work_none (act.Works w) s h = absurd h
work_none (act.Appends e cells) s h = absurd h
work_none (act.Prints text) s h = absurd h
work_none (act.Reads text cells) s h = absurd h
work_none (act.Takes cells a) s h = work_none a (with_stack cells s) h
work_none (act.Guards cells a) s h = work_none a (guarded cells s) h
work_none (act.Enters cells d ih a) s h = work_none a (entered cells d ih s) h.1
work_none (act.Opens x a) s h = absurd h.0
work_none (act.Refuses t) s h = absurd h.0
work_none a s h = refl

-- so it asks for memory only there
act_asks : {S : Type 0} (makes closes : Type 0) (a : Act) (s : State S)
    → IsAct (asking S) (asking_turns S makes closes) s a → act_grows a s.words ≡ true
    → (makes × (may_define s.words ≡ true)) ⊎ (closes × (is_some s.words.defining ≡ true))
act_asks makes closes (act.Does a) s h e = let no : work_grows a ≡ false = work_none a s h in absurd cc
act_asks makes closes (act.Goes cells move n) s h e = absurd cc
act_asks makes closes (act.Copies a n) s h e = absurd h
act_asks makes closes (act.Makes d) s h e = inl (h, e)
act_asks makes closes act.Closes s h e = inr (h, e)
act_asks makes closes act.Ends s h e = absurd cc

act_none : {S : Type 0} (a : Act) (s : State S) → IsAct (asking S) (asking_turns S ⊥ ⊥) s a
    → act_grows a s.words ≡ true → ⊥
act_none a s h e = elim (act_asks ⊥ ⊥ a s h e) [
  | inl x ↦ x.0
  | inr x ↦ x.0
]

not_true : (b : Bool) → (b ≡ true → ⊥) → b ≡ false
not_true true h = absurd (h refl)
not_true false h = refl

-- ---- tokens that are interpreted

no_plan : (a : Argument) (w : StreamWord) (e : Option TokenEntry) (b : Bool) (plans : ℕ → Plan)
    → plan_with a (Some (word.Stream w)) e b plans ≡ None
no_plan Nothing w e b plans = refl
no_plan a w e b plans = refl

none_executed : (p : Option Plan) (q : Plan) → p ≡ None → p ≡ Some q → ⊥
none_executed None q e f = absurd cc
none_executed (Some p) q e f = absurd cc

interpreted : {S : Type 0} (makes closes : Type 0) (w : StreamWord) (k : FCode) (a : Argument) (here : Spot)
    (s : State S) → s.flow.is_compiling ≡ false → (a ≡ Nothing → makes) → (a ≡ Nothing → closes)
    → IsAct (asking S) (asking_turns S makes closes) s (act_of (typed (Some (word.Stream w)) k a) here (front_of s))
interpreted {S} makes closes w k a here s e m c =
    typed_acts (asking S) (asking_turns S makes closes) (typed (Some (word.Stream w)) k a) here s tt
    (typed_may (asking S) (asking_turns S makes closes) (Some (word.Stream w)) k a s.flow.is_compiling s
    (record {
      positions = tt;
      ends = λ z. tt;
      makes = m;
      closes = λ z y. c y;
      appends = λ z. false≢true (sym e ∙ z);
      executes = λ xt z.
          absurd (none_executed _ _ (no_plan a w (entry_in s.words.table k.0) s.flow.is_compiling (plan_in s)) z);
    }))

held_none : {S : Type 0} (w : StreamWord) (k : FCode) (a : Argument) (here : Spot) (s : State S) → (a ≡ Nothing → ⊥)
    → s.flow.is_compiling ≡ false → typed_grows (typed (Some (word.Stream w)) k a) here s ≡ false
held_none w k a here s h e =
    let t = act_of (typed (Some (word.Stream w)) k a) here (front_of s) in
    not_true (act_grows t s.words) (λ z. act_none t s (interpreted ⊥ ⊥ w k a here s e h h) z)

bare : {S : Type 0} (w : StreamWord) (k : FCode) (here : Spot) (s : State S) → s.flow.is_compiling ≡ false
    → typed_grows (typed (Some (word.Stream w)) k Nothing) here s ≡ true
    → (may_define s.words ≡ true) ⊎ (is_some s.words.defining ≡ true)
bare w k here s e grows =
    let t = act_of (typed (Some (word.Stream w)) k Nothing) here (front_of s) in
    let U = Unit {0} in
    elim (act_asks U U t s (interpreted U U w k Nothing here s e (λ z. tt) (λ z. tt)) grows) [
      | inl x ↦ inl x.1
      | inr x ↦ inr x.1
    ]

-- ---- tokens that ask for none, compiled or not

abbrev is_still : Token → Bool
is_still token.Case = true
is_still token.Mark = true
is_still token.Resolve = true
is_still token.Offset16 = true
is_still token.End = true
is_still token.Stray = true
is_still t = false

compiled_none : (t : Token) (here : Spot) (f : Front) (w : WordsState) → is_still t ≡ true
    → act_grows (compiling_act t here f) w ≡ false
unfolding compiling_act token_act
compiled_none token.Case here f w e = refl
compiled_none token.Mark here f w e = refl
compiled_none token.Resolve here f w e = refl
compiled_none token.Offset16 here f w e = refl
compiled_none token.End here f w e = refl
compiled_none token.Stray here f w e = refl
compiled_none t here f w e = absurd cc

acting_none : (t : Token) (here : Spot) (f : Front) (w : WordsState) → is_still t ≡ true
    → act_grows (token_act t here f) w ≡ false
unfolding token_act
acting_none token.Case here f w e = refl
acting_none token.Mark here f w e = refl
acting_none token.Resolve here f w e = refl
acting_none token.Offset16 here f w e = refl
acting_none token.End here f w e = refl
acting_none token.Stray here f w e = refl
acting_none t here f w e = absurd cc

none_if : (b : Bool) (p q : Act) (w : WordsState) → act_grows p w ≡ false → act_grows q w ≡ false
    → act_grows (if b then p else q) w ≡ false
none_if true p q w hp hq = hp
none_if false p q w hp hq = hq

still_none : {S : Type 0} (t : Token) (here : Spot) (s : State S) → is_still t ≡ true
    → typed_grows (Plain t) here s ≡ false
still_none t here s e =
    none_if s.flow.is_compiling _ _ s.words (compiled_none t here (front_of s) s.words e)
    (acting_none t here (front_of s) s.words e)

-- ---- tokens with a name

announced : (r : Result WordsState Throw) (s : List Cell) (w : WordsState)
    → act_grows (act.Does (knowing_under r s)) w ≡ false
announced (Ok x) s w = refl
announced (Err t) s w = refl

name_none : {S : Type 0} (w : Option Word) (k : FCode) (name : List ℕ) (code : FCode) (here : Spot) (s : State S)
    → typed_grows (typed w k (Named name code)) here s ≡ false
unfolding typed_word
name_none (Some (word.Stream stream.NamedToken)) k name code here s = announced _ s.board.stack s.words
name_none (Some (word.Stream stream.ExternalToken)) k name code here s = announced _ s.board.stack s.words
name_none (Some (word.Stream w)) k name code here s = still_none token.Stray here s refl
name_none w k name code here s = still_none token.Stray here s refl

-- ---- items

item_none : {S : Type 0} (i : Item) (s : State S) → plan_of_item i (plan_in s) ≡ None → item_grows_in i s ≡ true → ⊥
item_none {S} i s e grows =
    act_none (item_act i (front_of s)) s
    (item_acts (asking S) (asking_turns S ⊥ ⊥) i s (anywhere (asking S) (λ n x. tt) (target_of i) s) tt
    (λ xt z. absurd (none_executed _ _ e z)))
    grows

runs : {S : Type 0} (i : Item) (s : State S) → item_grows_in i s ≡ true
    → (xt : Cell) × Runs i xt × (executed_grows s xt.0 ≡ true)
unfolding item_act
runs (item.Operation xt) s e = (xt, inl refl, e)
runs (item.Call xt) s e = (xt, inr refl, e)
runs i s e = absurd (item_none i s refl e)

-- ---- words of a text

-- a choice that isn't taken
other_none : (b : Bool) (p q : WordAct) → b ≡ false → work_grows q ≡ false
    → work_grows (if b then p else q) ≡ false
other_none true p q e h = absurd cc
other_none false p q e h = h

other_act_none : (b : Bool) (p q : TextAct) (w : WordsState) → b ≡ false → text_grows q w ≡ false
    → text_grows (if b then p else q) w ≡ false
other_act_none true p q w e h = absurd cc
other_act_none false p q w e h = h

leaving_none : (r : Result (List Cell) Throw) → work_grows (leaving r) ≡ false
leaving_none (Ok cells) = refl
leaving_none (Err t) = refl

keeping_none : (r : Result Stored Throw) → work_grows (keeping_stored r) ≡ false
keeping_none (Ok (InWord w cells)) = refl
keeping_none (Ok (InSlot m cells)) = refl
keeping_none (Err t) = refl

pushed_none : (r : Result Cell Throw) (cells : List Cell)
    → work_grows (with_found r (λ x. leaving (pushed x cells))) ≡ false
pushed_none (Ok x) cells = leaving_none (pushed x cells)
pushed_none (Err t) cells = refl

char_none : (b : Bool) (r : Result Cell Throw) (cells : List Cell)
    → work_grows (if b then Fails compile_only else with_found r (λ x. leaving (pushed x cells))) ≡ false
char_none true r cells = refl
char_none false r cells = pushed_none r cells

selecting_none : (r : Result Phandle Throw) (w : WordsState) → text_grows (selecting r) w ≡ false
selecting_none (Ok node) w = refl
selecting_none (Err t) w = refl

literal_none : {S : Type 0} (r : Result Cell Throw) (s : State S) → s.flow.is_compiling ≡ false
    → work_grows (with_found r (λ x. literal_act x (front_of s))) ≡ false
literal_none (Ok x) s e =
    other_none s.flow.is_compiling _ (leaving (pushed x s.board.stack)) e (leaving_none (pushed x s.board.stack))
literal_none (Err t) s e = refl

long_none : (b : Bool) (a : TextAct) (w : WordsState) → text_grows a w ≡ false
    → text_grows (if b then Acts (act.Does (Fails invalid_argument)) else a) w ≡ false
long_none true a w h = refl
long_none false a w h = h

string_none : {S : Type 0} (bytes : List ℕ) (s : State S) → s.flow.is_compiling ≡ false
    → text_grows (string_act bytes (front_of s)) s.words ≡ false
string_none bytes s e =
    long_none (nat_lt longest_string (length bytes)) _ s.words
    (other_act_none s.flow.is_compiling (Spells bytes []) (Says bytes) s.words e refl)

stored_none : {S : Type 0} (r : Result Cell Throw) (cells : List Cell) (s : State S)
    → work_grows (stored_act r cells (front_of s)) ≡ false
stored_none (Ok xt) cells s = keeping_none (store_entry xt.0 s.words s.board)
stored_none (Err t) [] s = refl
stored_none (Err t) (x ∷ cells) s = refl

to_none : {S : Type 0} (r : Result Cell Throw) (s : State S) → s.flow.is_compiling ≡ false
    → work_grows (to_act r (front_of s)) ≡ false
to_none r s e =
    other_none s.flow.is_compiling _ (stored_act r s.board.stack (front_of s)) e (stored_none r s.board.stack s)

only_none : {S : Type 0} (a : TextAct) (s : State S) → s.flow.is_compiling ≡ false
    → text_grows (only_compiling (front_of s) a) s.words ≡ false
only_none a s e =
    other_act_none s.flow.is_compiling a (Acts (act.Does (Fails compile_only))) s.words e refl

found_grows : (b c : Bool) (p q : WordAct) → work_grows (if b && c then p else q) ≡ true
    → (work_grows q ≡ true) ⊎ (b ≡ true)
found_grows true c p q e = inr refl
found_grows false c p q e = inl e

pub memory_is_asked : {S : Type 0} → MemoryIsAsked S
unfolding typed_word text_act
memory_is_asked = record {
  end0 = λ k here s. still_none token.End here s refl;
  end1 = λ k here s. still_none token.End here s refl;
  offset16 = λ k here s. still_none token.Offset16 here s refl;
  mark = λ k here s. still_none token.Mark here s refl;
  resolve = λ k here s. still_none token.Resolve here s refl;
  case = λ k here s. still_none token.Case here s refl;
  named = λ k name code here s. name_none (word_numbered k.0) k name code here s;
  held = λ w k a here s h e. held_none w k a here s h e;
  bare = λ w k here s e grows. bare w k here s e grows;
  item = λ i s e. runs i s e;
  text_end = λ s. refl;
  comment = λ s. refl;
  tick = λ r s. pushed_none r s.board.stack;
  char = λ r s. char_none s.flow.is_compiling r s.board.stack;
  device = λ p s. selecting_none _ s.words;
  number = λ r s e. literal_none r s e;
  plain = λ p s e. string_none _ s e;
  quoted = λ at s e. string_none _ s e;
  store = λ r s e. to_none r s e;
  compiling = λ w s e. only_none _ s e;
  bracket_tick = λ r s e. only_none _ s e;
  bracket_char = λ r s e. only_none _ s e;
  found = λ xt i s e. found_grows s.flow.is_compiling (not i) _ _ e;
  defining = λ d p s e. e;
}
