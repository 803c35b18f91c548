-- The walk of the table of texts: what a word of a text comes to is what a law asks of it, by the rules of the law.
use Rattle.std.proofs.Common.{◌≡◌, ◌&&◌, ℕ, nat_lt, Bool, true, false, List, [], ◌∷◌, length, Option, Some, None}
use Rattle.std.proofs.Common.{Result, Ok, Err, refl, ap, if◌then◌else◌}
use Rattle.std.proofs.lemmas.Bool.{and_parts}
use Rattle.std.specs.Prelude.{not}
use Rattle.of_cells.specs.declared.cells.Cell.{Cell}
use Rattle.of_stacks.specs.declared.throws.Throw.{Throw}
use Rattle.of_stacks.specs.Throws.{ThrowsListed, is_listed, listed_numbers}
use Rattle.of_fcodes.specs.declared.console_words.CompilingWord.{CompilingWord}
use Rattle.of_fcodes.specs.declared.console_words.CompilingWord.TheVariants as compiling
use Rattle.of_fcodes.specs.declared.words.DictionaryWord.TheVariants as dictionary
use Rattle.of_fcodes.specs.declared.words.Word.TheVariants as word
use Rattle.of_nodes.specs.declared.phandles.Phandle.{Phandle}
use Rattle.of_compile.specs.Words.{is_word}
use Rattle.of_flow.specs.Texts.{latest_text}
use Rattle.of_text.specs.declared.words.Part.{Part}
use Rattle.of_text.specs.declared.words.TextWord.{TextWord}
use Rattle.of_text.specs.declared.words.TextWord.TheVariants as text
use Rattle.of_text.specs.Reading.{bytes_in}
use Rattle.of_eval.specs.Acts.{WordAct, front_of}
use Rattle.of_eval.specs.Executing.{plan_in}
use Rattle.of_interpret.specs.TextActs.{Acts, AppendsAll, Interprets, Names, Says, Sees, Selects, Spells, TextAct}
use Rattle.of_interpret.specs.TextWords.{call_act, compiling_act, found_act, literal_act, literal_taken, longest_string}
use Rattle.of_interpret.specs.TextWords.{node_at, printed_act, quoted_bytes, recursing, roll_taken, seeing, selecting}
use Rattle.of_interpret.specs.TextWords.{store_taken, stored_act, string_act, text_act, to_act, unless_long, with_found}
use Rattle.of_state.specs.State.{State}
use Rattle.of_eval_laws.specs.Frames.{is_text_end}
use Rattle.of_eval_laws.specs.Listed.{is_text_semicolon, plan_said}
use Rattle.of_eval_laws.proofs.TextFaults.{IsSaid, node_listed}
use Rattle.of_eval_laws.proofs.Walk.{IsAct, Turns}
use Rattle.of_eval_laws.proofs.WalkWords.{Executes, IsWork, Rules, if_works, pushed_works, store_works}

-- What a law asks of what a word of a text comes to: beside what it asks of acts, this of the bytes of a string.
abbrev pub IsTextAct : {S : Type 0} (R : Rules S) → Turns R → (List ℕ → Type 0) → State S → TextAct → Type 0
IsTextAct R T B s (Acts a) = IsAct R T s a
IsTextAct R T B s (AppendsAll es cells) = R.Appends s
IsTextAct R T B s (Names d name) = T.Makes
IsTextAct R T B s (Says bytes) = B bytes
IsTextAct R T B s (Spells bytes es) = R.Appends s × B bytes
IsTextAct R T B s Interprets = Unit {0}
IsTextAct R T B s (Selects node) = Unit {0}
IsTextAct R T B s (Sees xt) = R.Works (word.Dictionary dictionary.PrintWords)

-- nothing is asked of them
abbrev pub AnyBytes : List ℕ → Type 0
AnyBytes bytes = Unit {0}

-- what may be done by a word of a text
pub record MaySay {S : Type 0} (R : Rules S) (T : Turns R) (B : List ℕ → Type 0) (w : TextWord) (s : State S) : Type 0
  where
    pub said : IsSaid w
    pub ends : is_text_end w ≡ true → T.Ends
    pub makes : T.Makes
    pub closes : is_text_semicolon w ≡ true → T.Closes
    pub appends : s.flow.is_compiling ≡ true → R.Appends s
    pub prints : R.Works (word.Dictionary dictionary.PrintWords)
    pub executes : Executes R (plan_said w s.flow.is_compiling (plan_in s)) s
    pub strings : (p : Part) → B (bytes_in (latest_text s.flow.texts) p)
    pub quotes : (at : ℕ) → B (quoted_bytes (latest_text s.flow.texts) at)

if_says : {S : Type 0} (R : Rules S) (T : Turns R) (B : List ℕ → Type 0) (b : Bool) (x y : TextAct) (s : State S)
    → (b ≡ true → IsTextAct R T B s x) → (b ≡ false → IsTextAct R T B s y) → IsTextAct R T B s (if b then x else y)
if_says R T B true x y s p q = p refl
if_says R T B false x y s p q = q refl

-- ---- words in both states

with_found_works : {S : Type 0} (R : Rules S) (r : Result Cell Throw) (a : Cell → WordAct) (s : State S)
    → ThrowsListed r → ((x : Cell) → IsWork R s (a x)) → IsWork R s (with_found r a)
with_found_works R (Ok x) a s l h = h x
with_found_works R (Err t) a s l h = R.fails t l

call_works : {S : Type 0} (R : Rules S) (xt : Cell) (s : State S) → R.Appends s → IsWork R s (call_act xt (front_of s))
unfolding is_listed listed_numbers
call_works R xt s o =
    if_works R (is_word s.words.dictionary xt.0) _ _ s (λ e. o) (λ e. R.fails _ refl)

found_works : {S : Type 0} (R : Rules S) (xt : Cell) (immediate : Bool) (s : State S)
    → (s.flow.is_compiling ≡ true → R.Appends s)
    → Executes R (plan_said (text.Found xt immediate) s.flow.is_compiling (plan_in s)) s
    → IsWork R s (found_act xt immediate (front_of s))
found_works R xt immediate s o h =
    if_works R (s.flow.is_compiling && not immediate) _ _ s
    (λ e. call_works R xt s (o (and_parts s.flow.is_compiling (not immediate) e).0))
    (λ e. h xt.0 (ap (λ b. if b then None else Some (plan_in s xt.0)) e))

literal_works : {S : Type 0} (R : Rules S) (x : Cell) (s : State S) → (s.flow.is_compiling ≡ true → R.Appends s)
    → IsWork R s (literal_act x (front_of s))
literal_works R x s o = if_works R s.flow.is_compiling _ _ s (λ e. o e) (λ e. pushed_works R x s.board.stack s)

stored_works : {S : Type 0} (R : Rules S) (r : Result Cell Throw) (cells : List Cell) (s : State S) → R.Held s
    → ThrowsListed r → IsWork R s (stored_act r cells (front_of s))
unfolding is_listed listed_numbers
stored_works R (Ok xt) cells s p l = store_works R xt.0 s p
stored_works R (Err t) [] s p l = R.fails _ refl
stored_works R (Err t) (x ∷ cells) s p l = R.fails t l

to_works : {S : Type 0} (R : Rules S) (r : Result Cell Throw) (s : State S) → R.Held s → ThrowsListed r
    → (s.flow.is_compiling ≡ true → R.Appends s) → IsWork R s (to_act r (front_of s))
to_works R r s p l o =
    if_works R s.flow.is_compiling _ _ s (λ e. with_found_works R r _ s l (λ x. o e))
    (λ e. stored_works R r s.board.stack s p l)

-- ---- strings and paths

unless_says : {S : Type 0} (R : Rules S) (T : Turns R) (B : List ℕ → Type 0) (bytes : List ℕ) (a : TextAct)
    (s : State S) → IsTextAct R T B s a → IsTextAct R T B s (unless_long bytes a)
unfolding is_listed listed_numbers
unless_says R T B bytes a s h =
    if_says R T B (nat_lt longest_string (length bytes)) _ a s (λ e. R.fails _ refl) (λ e. h)

string_says : {S : Type 0} (R : Rules S) (T : Turns R) (B : List ℕ → Type 0) (bytes : List ℕ) (s : State S)
    → (s.flow.is_compiling ≡ true → R.Appends s) → B bytes → IsTextAct R T B s (string_act bytes (front_of s))
string_says R T B bytes s o b =
    unless_says R T B bytes _ s (if_says R T B s.flow.is_compiling _ _ s (λ e. (o e, b)) (λ e. b))

printed_says : {S : Type 0} (R : Rules S) (T : Turns R) (B : List ℕ → Type 0) (bytes : List ℕ) (s : State S)
    → (s.flow.is_compiling ≡ true → R.Appends s) → R.Works (word.Dictionary dictionary.PrintWords) → B bytes
    → IsTextAct R T B s (printed_act bytes (front_of s))
printed_says R T B bytes s o k b =
    unless_says R T B bytes _ s (if_says R T B s.flow.is_compiling _ _ s (λ e. (o e, b)) (λ e. k))

selecting_says : {S : Type 0} (R : Rules S) (T : Turns R) (B : List ℕ → Type 0) (r : Result Phandle Throw) (s : State S)
    → ThrowsListed r → IsTextAct R T B s (selecting r)
selecting_says R T B (Ok node) s l = tt
selecting_says R T B (Err t) s l = R.fails t l

seeing_says : {S : Type 0} (R : Rules S) (T : Turns R) (B : List ℕ → Type 0) (r : Result Cell Throw) (s : State S)
    → ThrowsListed r → R.Works (word.Dictionary dictionary.PrintWords) → IsTextAct R T B s (seeing r)
seeing_says R T B (Ok xt) s l k = k
seeing_says R T B (Err t) s l k = R.fails t l

-- ---- words that serve while words are compiled

recursing_works : {S : Type 0} (R : Rules S) (o : Option ℕ) (s : State S) → R.Appends s
    → IsWork R s (recursing o (front_of s))
unfolding is_listed listed_numbers
recursing_works R None s a = R.fails _ refl
recursing_works R (Some n) s a = a

literal_taken_works : {S : Type 0} (R : Rules S) (cells : List Cell) (s : State S) → R.Appends s
    → IsWork R s (literal_taken cells)
unfolding is_listed listed_numbers
literal_taken_works R [] s a = R.fails _ refl
literal_taken_works R (x ∷ cells) s a = a

roll_taken_works : {S : Type 0} (R : Rules S) (cells : List Cell) (s : State S) → R.Appends s
    → IsWork R s (roll_taken cells)
unfolding is_listed listed_numbers
roll_taken_works R [] s a = R.fails _ refl
roll_taken_works R (n ∷ cells) s a = a

store_taken_works : {S : Type 0} (R : Rules S) (cells : List Cell) (s : State S) → R.Appends s
    → IsWork R s (store_taken cells (front_of s))
unfolding is_listed listed_numbers
store_taken_works R [] s a = R.fails _ refl
store_taken_works R (xt ∷ cells) s a =
    if_works R (is_word s.words.dictionary xt.0) _ _ s (λ e. a) (λ e. R.fails _ refl)

compiling_says : {S : Type 0} (R : Rules S) (T : Turns R) (B : List ℕ → Type 0) (w : CompilingWord) (s : State S)
    → R.Appends s → (is_text_semicolon (text.Compiling w) ≡ true → T.Closes)
    → IsTextAct R T B s (compiling_act w (front_of s))
unfolding compiling_act is_listed listed_numbers
compiling_says R T B compiling.Semicolon s a h = h refl
compiling_says R T B compiling.LeaveCompiling s a h = tt
compiling_says R T B compiling.BracketTick s a h = R.fails _ refl
compiling_says R T B compiling.BracketChar s a h = R.fails _ refl
compiling_says R T B compiling.Recurse s a h = recursing_works R s.words.defining s a
compiling_says R T B compiling.Literal s a h = literal_taken_works R s.board.stack s a
compiling_says R T B compiling.ControlRoll s a h = roll_taken_works R s.board.stack s a
compiling_says R T B compiling.CommaTo s a h = store_taken_works R s.board.stack s a
compiling_says R T B w s a h = a

-- ---- all words of a text

pub text_acts : {S : Type 0} (R : Rules S) (T : Turns R) (B : List ℕ → Type 0) (w : TextWord) (s : State S) → R.Held s
    → MaySay R T B w s → IsTextAct R T B s (text_act w (front_of s))
unfolding text_act is_listed listed_numbers
text_acts R T B text.End s p m = m.ends refl
text_acts R T B (text.Found xt immediate) s p m = found_works R xt immediate s m.appends m.executes
text_acts R T B (text.Number r) s p m = with_found_works R r _ s m.said (λ x. literal_works R x s m.appends)
text_acts R T B (text.Defining d n) s p m = m.makes
text_acts R T B (text.Tick r) s p m = with_found_works R r _ s m.said (λ x. pushed_works R x s.board.stack s)
text_acts R T B (text.To r) s p m = to_works R r s p m.said m.appends
text_acts R T B (text.See r) s p m = seeing_says R T B r s m.said m.prints
text_acts R T B (text.Device n) s p m =
    selecting_says R T B (node_at (bytes_in (latest_text s.flow.texts) n) s.board) s
    (node_listed (bytes_in (latest_text s.flow.texts) n) s.board)
text_acts R T B (text.Plain n) s p m =
    string_says R T B (bytes_in (latest_text s.flow.texts) n) s m.appends (m.strings n)
text_acts R T B (text.Quoted at) s p m =
    string_says R T B (quoted_bytes (latest_text s.flow.texts) at) s m.appends (m.quotes at)
text_acts R T B (text.Printed n) s p m =
    printed_says R T B (bytes_in (latest_text s.flow.texts) n) s m.appends m.prints (m.strings n)
text_acts R T B (text.Char r) s p m =
    if_works R s.flow.is_compiling _ _ s (λ e. R.fails _ refl)
    (λ e. with_found_works R r _ s m.said (λ x. pushed_works R x s.board.stack s))
text_acts R T B (text.BracketTick r) s p m =
    if_says R T B s.flow.is_compiling _ _ s (λ e. with_found_works R r _ s m.said (λ x. m.appends e))
    (λ e. R.fails _ refl)
text_acts R T B (text.BracketChar r) s p m =
    if_says R T B s.flow.is_compiling _ _ s (λ e. with_found_works R r _ s m.said (λ x. m.appends e))
    (λ e. R.fails _ refl)
text_acts R T B text.Comment s p m = tt
text_acts R T B (text.Compiling w) s p m =
    if_says R T B s.flow.is_compiling _ _ s (λ e. compiling_says R T B w s (m.appends e) m.closes)
    (λ e. R.fails _ refl)
