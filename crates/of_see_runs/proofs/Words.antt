-- What one word of a text leaves that doesn't throw.
use Rattle.std.proofs.Common.{◌≡◌, ◌<◌, ℕ, ◌&&◌, Bool, true, false, not, nat_lt, List, [], ◌∷◌, length, Option, Some}
use Rattle.std.proofs.Common.{Result, Ok, Err, refl, ap, sym, ◌∙◌, if◌then◌else◌}
use Rattle.std.specs.Prelude.{is_none}
use Rattle.std.proofs.lemmas.Bool.{ltb-true}
use Rattle.of_cells.specs.declared.cells.Cell.{Cell}
use Rattle.of_stacks.specs.declared.throws.Throw.{Throw}
use Rattle.of_stacks.specs.Order.{counting, fault_if, refused_if}
use Rattle.of_stacks.specs.Throws.{bad_handle, compile_only, invalid_argument, stack_overflow}
use Rattle.of_fcodes.specs.declared.console_words.CompilingWord.{CompilingWord}
use Rattle.of_fcodes.specs.declared.console_words.CompilingWord.TheVariants as compiling
use Rattle.of_fcodes.specs.declared.words.DictionaryWord.{DictionaryWord}
use Rattle.of_fcodes.specs.declared.words.DictionaryWord.TheVariants as dictionary
use Rattle.of_fcodes.specs.declared.words.Word.TheVariants as word
use Rattle.of_fcodes.specs.Finding.{FindsEachWord}
use Rattle.of_fcodes.specs.Finding.{xt_of as written_xt}
use Rattle.of_memory.specs.DataSpace.{DataSpace}
use Rattle.of_memory.specs.Growth.{appended as put_at_here}
use Rattle.of_dict.specs.Words.{xt_of}
use Rattle.of_control.specs.Element.{Element, Plain, Roll}
use Rattle.of_compile.specs.Coding.{Coding, compiling as compiling_of}
use Rattle.of_compile.specs.Coding.{Outcome as CodingOutcome}
use Rattle.of_compile.specs.declared.element.PlainItem.{PlainItem}
use Rattle.of_compile.specs.declared.element.PlainItem.TheVariants as P
use Rattle.of_compile.specs.Tokens.{called, text_elements}
use Rattle.of_compile.specs.Words.{is_word}
use Rattle.of_text.specs.declared.words.TextWord.{TextWord}
use Rattle.of_text.specs.declared.words.TextWord.TheVariants as text
use Rattle.of_eval.specs.Acts.{Appends, Compiles, Does, Fails, Front, front_of, leaving, unless}
use Rattle.of_eval.specs.Defining.{string_element}
use Rattle.of_eval.specs.Doing.{acted, appended, worked}
use Rattle.of_eval.specs.Executing.{comma_act, dictionary_act, execution, written_act}
use Rattle.of_eval.specs.Laws.{WordsAreExecuted}
use Rattle.of_flow.specs.Returns.{pushed}
use Rattle.of_flow.specs.Texts.{latest_text}
use Rattle.of_interpret.specs.Strings.{all_appended, bytes_put, by_spelling, string_kept_in, string_left_in}
use Rattle.of_interpret.specs.Strings.{unless_thrown}
use Rattle.of_interpret.specs.TextActs.{Acts, Says, Spells, text_acted}
use Rattle.of_interpret.specs.TextWords.{call_act, compiling_act, control, quoted_bytes}
use Rattle.of_interpret.specs.TextWords.{recursing, roll_taken, store_taken, stored_act, text_act}
use Rattle.of_state.specs.State.{Answered, Outcome, State, done, failed, flat_calls, with_compiling}
use Rattle.of_state.specs.State.{with_stack}

-- what a word of a text makes of the state that is read behind it
abbrev pub after : TextWord → State Coding → Outcome Coding
after w s = text_acted flat_calls (text_act w (front_of s)) s

-- an element was appended, and this data stack left
pub record IsAppended (e : Element PlainItem) (cells : List Cell) (s t : State Coding) : Type 0 where
  pub element : compiling_of e s.code ≡ record { coding = t.code; ended = Ok tt }
  pub left : t ≡ record (with_stack cells s) { code = t.code }

-- ---- what was done didn't throw

thrown : {A : Type 0} (t : Throw) (s u : State Coding) → failed t s ≡ done u → A
thrown t s u h = let e : ◌≡◌ {A = Result (Unit {0}) Throw} (Err t) (Ok tt) = ap (λ o. o.ended) h in absurd cc

pub state_of : (s t : State Coding) → done s ≡ done t → s ≡ t
state_of s t h = ap (λ (o : Outcome Coding). o.state) h

appended_code : (d : Coding) (r : Result (Unit {0}) Throw) (cells : List Cell) (s t : State Coding)
    → appended (record { code = d; ended = r }) cells s ≡ done t
    → (◌≡◌ {A = CodingOutcome} (record { coding = d; ended = r }) (record { coding = t.code; ended = Ok tt }))
    × (t ≡ record (with_stack cells s) { code = t.code })
appended_code d (Ok x) cells s t h =
    let e : record (with_stack cells s) { code = d } ≡ t = ap (λ (o : Outcome Coding). o.state) h in
    let code : d ≡ t.code = ap (λ (u : State Coding). u.code) e in (
      ap (λ c. record { coding = c; ended = Ok tt }) code,
      sym e ∙ ap (λ c. record (with_stack cells s) { code = c }) code,
    )
appended_code d (Err u) cells s t h =
    let e : ◌≡◌ {A = Result (Unit {0}) Throw} (Err u) (Ok tt) = ap (λ o. o.ended) h in absurd cc

pub put_on : (e : Element PlainItem) (cells : List Cell) (s t : State Coding)
    → worked flat_calls (Appends e cells) s ≡ done t → IsAppended e cells s t
unfolding worked
put_on e cells s t h =
    let o = compiling_of e s.code in
    let both = appended_code o.coding o.ended cells s t h in
    record { element = both.0; left = both.1 }

alone : (r : Result (Unit {0}) Throw) (code : Coding)
    → unless_thrown r (record { code = code; ended = r }) (λ d. record { code = d; ended = Ok tt })
    ≡ record { code = code; ended = r }
alone (Ok x) code = refl
alone (Err t) code = refl

pub one : (e : Element PlainItem) (code : Coding) → all_appended flat_calls (e ∷ []) code ≡ flat_calls.element e code
one e code = alone (flat_calls.element e code).ended (flat_calls.element e code).code

-- an act of a word, if it is done where a test passes
passed : {A : Type 0} (b : Bool) (x y z : A) → b ≡ true → (if b then x else y) ≡ z → x ≡ z
passed true x y z e h = h
passed false x y z e h = absurd cc

missed : {A : Type 0} (b : Bool) (x y z : A) → b ≡ false → (if b then x else y) ≡ z → y ≡ z
missed false x y z e h = h
missed true x y z e h = absurd cc

-- ---- while words are compiled

pub controlled : (w : CompilingWord) (e : Element PlainItem) (f : Front) → text_elements w ≡ e ∷ []
    → compiling_act w f ≡ control w f
unfolding compiling_act
controlled compiling.Semicolon e f h = absurd cc
controlled compiling.If e f h = refl
controlled compiling.Else e f h = refl
controlled compiling.Then e f h = refl
controlled compiling.Ahead e f h = refl
controlled compiling.Begin e f h = refl
controlled compiling.While e f h = refl
controlled compiling.Repeat e f h = refl
controlled compiling.Until e f h = refl
controlled compiling.Again e f h = refl
controlled compiling.Do e f h = refl
controlled compiling.QuestionDo e f h = refl
controlled compiling.Loop e f h = refl
controlled compiling.PlusLoop e f h = refl
controlled compiling.Leave e f h = refl
controlled compiling.Case e f h = refl
controlled compiling.Of e f h = refl
controlled compiling.EndOf e f h = refl
controlled compiling.EndCase e f h = refl
controlled compiling.Recurse e f h = absurd cc
controlled compiling.Literal e f h = absurd cc
controlled compiling.LeaveCompiling e f h = absurd cc
controlled compiling.BracketTick e f h = absurd cc
controlled compiling.BracketChar e f h = absurd cc
controlled compiling.ControlRoll e f h = absurd cc
controlled compiling.CommaTo e f h = absurd cc

-- a word that serves while words are compiled
compiles_by : (w : CompilingWord) (s t : State Coding) → s.flow.is_compiling ≡ true
    → after (text.Compiling w) s ≡ done t → text_acted flat_calls (compiling_act w (front_of s)) s ≡ done t
unfolding text_act
compiles_by w s t on h =
    sym (ap (λ b. text_acted flat_calls (if b then compiling_act w (front_of s)
    else Acts (Does (Fails compile_only))) s) on) ∙ h

-- a word of control
pub by_control : (w : CompilingWord) (e : Element PlainItem) (s t : State Coding) → text_elements w ≡ e ∷ []
    → s.flow.is_compiling ≡ true → after (text.Compiling w) s ≡ done t → IsAppended e s.board.stack s t
unfolding text_acted
by_control w e s t alone_in on h =
    let acts = compiles_by w s t on h in
    let act = sym (ap (λ a. text_acted flat_calls a s) (controlled w e (front_of s) alone_in)) ∙ acts in
    let all = sym (ap (λ es. appended (all_appended flat_calls es s.code) s.board.stack s) alone_in) ∙ act in
    let put = sym (ap (λ a. appended a s.board.stack s) (one e s.code)) ∙ all in
    let o = compiling_of e s.code in
    let both = appended_code o.coding o.ended s.board.stack s t put in
    record { element = both.0; left = both.1 }

-- a word that is called is one
called_is : (b : Bool) (e : Element PlainItem) (s t : State Coding)
    → worked flat_calls (if b then Appends e s.board.stack else Fails bad_handle) s ≡ done t
    → IsAppended e s.board.stack s t
unfolding worked
called_is true e s t h = put_on e s.board.stack s t h
called_is false e s t h = thrown bad_handle s t h

pub by_call : (xt : Cell) (s t : State Coding) → s.flow.is_compiling ≡ true → after (text.Found xt false) s ≡ done t
    → IsAppended (Plain (called xt)) s.board.stack s t
unfolding text_act text_acted acted
by_call xt s t on h =
    let calls = sym (ap (λ b. worked flat_calls (if b && true then call_act xt (front_of s)
    else execution xt.0 (front_of s)) s) on) ∙ h in
    called_is (is_word s.words.dictionary xt.0) (Plain (called xt)) s t calls

pub by_literal : (x : Cell) (s t : State Coding) → s.flow.is_compiling ≡ true
    → after (text.Number (Ok x)) s ≡ done t → IsAppended (Plain (P.Literal x)) s.board.stack s t
unfolding text_act text_acted acted
by_literal x s t on h =
    put_on (Plain (P.Literal x)) s.board.stack s t
    (sym (ap (λ b. worked flat_calls (if b then Appends (Plain (P.Literal x)) s.board.stack
    else leaving (pushed x s.board.stack)) s) on) ∙ h)

pub by_recursion : (k : ℕ) (s t : State Coding) → s.flow.is_compiling ≡ true → s.words.defining ≡ Some k
    → after (text.Compiling compiling.Recurse) s ≡ done t
    → IsAppended (Plain (called (record { 0 = xt_of k }))) s.board.stack s t
unfolding compiling_act text_acted acted
by_recursion k s t on defines h =
    let act = compiles_by compiling.Recurse s t on h in
    put_on (Plain (called (record { 0 = xt_of k }))) s.board.stack s t
    (sym (ap (λ o. worked flat_calls (recursing o (front_of s)) s) defines) ∙ act)

pub by_store : (xt : Cell) (s t : State Coding) → s.flow.is_compiling ≡ true → after (text.To (Ok xt)) s ≡ done t
    → IsAppended (Plain (P.Store xt)) s.board.stack s t
unfolding text_act text_acted acted
by_store xt s t on h =
    put_on (Plain (P.Store xt)) s.board.stack s t
    (sym (ap (λ b. worked flat_calls (if b then Appends (Plain (P.Store xt)) s.board.stack
    else stored_act (Ok xt) s.board.stack (front_of s)) s) on) ∙ h)

-- ---- strings

-- a string was copied to `here`, and its element appended
pub record IsSpelt (bytes : List ℕ) (s t : State Coding) : Type 0 where
  pub element :
      compiling_of (string_element s.board.memory.here (length bytes)) s.code
      ≡ record { coding = t.code; ended = Ok tt }
  pub memory : bytes_put (put_at_here s.board.memory bytes) ≡ Ok t.board.memory
  pub left : t ≡ record s { code = t.code; board = record s.board { memory = t.board.memory } }

spelt_as : (d : Coding) (r : Result (Unit {0}) Throw) (m : Result DataSpace Throw) (s t : State Coding)
    → by_spelling (string_left_in r d m) s ≡ done t
    → (◌≡◌ {A = CodingOutcome} (record { coding = d; ended = r }) (record { coding = t.code; ended = Ok tt }))
    × (m ≡ Ok t.board.memory)
    × (t ≡ record s { code = t.code; board = record s.board { memory = t.board.memory } })
spelt_as d (Ok x) (Ok m) s t h =
    let e : record s { code = d; board = record s.board { memory = m } } ≡ t
    = ap (λ (o : Outcome Coding). o.state) h in
    let code : d ≡ t.code = ap (λ (u : State Coding). u.code) e in
    let space : m ≡ t.board.memory = ap (λ (u : State Coding). u.board.memory) e in (
      ap (λ c. record { coding = c; ended = Ok tt }) code,
      ap (λ n. Ok n) space,
      sym e ∙ ap (λ c. record s { code = c; board = record s.board { memory = m } }) code
          ∙ ap (λ n. record s { code = t.code; board = record s.board { memory = n } }) space,
    )
spelt_as d (Ok x) (Err u) s t h = thrown u s t h
spelt_as d (Err u) m s t h = thrown u s t h

spelt_by : (bytes : List ℕ) (s t : State Coding) → text_acted flat_calls (Spells bytes []) s ≡ done t
    → IsSpelt bytes s t
unfolding text_acted
spelt_by bytes s t h =
    let e = string_element s.board.memory.here (length bytes) in
    let put = bytes_put (put_at_here s.board.memory bytes) in
    let all = sym (ap (λ (a : Answered Coding). by_spelling (string_kept_in a put) s) (one e s.code)) ∙ h in
    let o = compiling_of e s.code in
    let parts = spelt_as o.coding o.ended put s t all in
    record { element = parts.0; memory = parts.1; left = parts.2 }

short_enough : (b : Bool) (bytes : List ℕ) (s t : State Coding) → s.flow.is_compiling ≡ true
    → text_acted flat_calls (if b then Acts (Does (Fails invalid_argument))
    else (if s.flow.is_compiling then Spells bytes [] else Says bytes)) s ≡ done t → IsSpelt bytes s t
unfolding acted worked text_acted
short_enough true bytes s t on h = thrown invalid_argument s t h
short_enough false bytes s t on h =
    spelt_by bytes s t (sym (ap (λ b. text_acted flat_calls (if b then Spells bytes [] else Says bytes) s) on) ∙ h)

pub by_string : (at : ℕ) (s t : State Coding) → s.flow.is_compiling ≡ true → after (text.Quoted at) s ≡ done t
    → IsSpelt (quoted_bytes (latest_text s.flow.texts) at) s t
unfolding text_act
by_string at s t on h =
    let bytes = quoted_bytes (latest_text s.flow.texts) at in
    short_enough (nat_lt 255 (length bytes)) bytes s t on h

-- ---- while words are interpreted in between

pub by_bracket : (s t : State Coding) → s.flow.is_compiling ≡ true
    → after (text.Compiling compiling.LeaveCompiling) s ≡ done t → t ≡ with_compiling false s
unfolding compiling_act text_acted
by_bracket s t on h = sym (state_of (with_compiling false s) t (compiles_by compiling.LeaveCompiling s t on h))

left_on : (b : Bool) (x : Cell) (s t : State Coding)
    → worked flat_calls (leaving (refused_if b stack_overflow (x ∷ s.board.stack))) s ≡ done t
    → t ≡ with_stack (x ∷ s.board.stack) s
unfolding worked
left_on false x s t h = sym (state_of (with_stack (x ∷ s.board.stack) s) t h)
left_on true x s t h = thrown stack_overflow s t h

pub by_number : (x : Cell) (s t : State Coding) → s.flow.is_compiling ≡ false
    → after (text.Number (Ok x)) s ≡ done t → t ≡ with_stack (x ∷ s.board.stack) s
unfolding text_act text_acted acted
by_number x s t off h =
    left_on (nat_lt 256 (length (x ∷ s.board.stack))) x s t
    (sym (ap (λ b. worked flat_calls (if b then Appends (Plain (P.Literal x)) s.board.stack
    else leaving (pushed x s.board.stack)) s) off) ∙ h)

module _ (law : WordsAreExecuted Coding) (found : FindsEachWord) where
  -- a word on words that is executed
  executes : (w : DictionaryWord) (s t : State Coding) → written_xt (word.Dictionary w) < 0xC000_052C
      → s.flow.is_compiling ≡ false
      → after (text.Found (record { 0 = written_xt (word.Dictionary w) }) false) s ≡ done t
      → worked flat_calls (dictionary_act w (front_of s)) s ≡ done t
  unfolding text_act text_acted acted written_act
  executes w s t low off h =
      let xt = written_xt (word.Dictionary w) in
      let runs = sym (ap (λ b. worked flat_calls (if b && true then call_act (record { 0 = xt }) (front_of s)
      else execution xt (front_of s)) s) off) ∙ h in
      sym (law.written flat_calls (word.Dictionary w) xt s low (found.by_xt (word.Dictionary w)) refl) ∙ runs

  pub by_enter : (k : ℕ) (s t : State Coding) → s.flow.is_compiling ≡ false → s.words.defining ≡ Some k
      → after (text.Found (record { 0 = written_xt (word.Dictionary dictionary.EnterCompiling) }) false) s ≡ done t
      → t ≡ with_compiling true s
  unfolding dictionary_act worked
  by_enter k s t off defines h =
      let acts = executes dictionary.EnterCompiling s t (ltb-true _ 0xC000_052C refl) off h in
      sym (state_of (with_compiling true s) t
      (sym (ap (λ (o : Option ℕ). worked flat_calls (if is_none o then Fails compile_only else Compiles) s) defines)
      ∙ acts))

  comma_is : (b : Bool) (x : Cell) (cells : List Cell) (s t : State Coding)
      → worked flat_calls (unless (counting (fault_if false compile_only ∷ fault_if (not b) bad_handle ∷ []))
      (Appends (Plain (called x)) cells)) s ≡ done t → IsAppended (Plain (called x)) cells s t
  unfolding worked
  comma_is true x cells s t h = put_on (Plain (called x)) cells s t h
  comma_is false x cells s t h = thrown bad_handle s t h

  pub by_comma : (k : ℕ) (x : Cell) (cells : List Cell) (s t : State Coding) → s.flow.is_compiling ≡ false
      → s.words.defining ≡ Some k → s.board.stack ≡ x ∷ cells
      → after (text.Found (record { 0 = written_xt (word.Dictionary dictionary.CompileComma) }) false) s ≡ done t
      → IsAppended (Plain (called x)) cells s t
  unfolding dictionary_act
  by_comma k x cells s t off defines stack h =
      let acts = executes dictionary.CompileComma s t (ltb-true _ 0xC000_052C refl) off h in
      let taken = sym (ap (λ l. worked flat_calls (comma_act s.words l) s) stack) ∙ acts in
      comma_is (is_word s.words.dictionary x.0) x cells s t
      (sym (ap (λ (o : Option ℕ). worked flat_calls (unless (counting (fault_if (is_none o) compile_only
      ∷ fault_if (not (is_word s.words.dictionary x.0)) bad_handle ∷ []))
      (Appends (Plain (called x)) cells)) s) defines)
      ∙ taken)

pub by_roll : (x : Cell) (cells : List Cell) (s t : State Coding) → s.flow.is_compiling ≡ true
    → s.board.stack ≡ x ∷ cells → after (text.Compiling compiling.ControlRoll) s ≡ done t
    → IsAppended (Roll x.0) cells s t
unfolding compiling_act text_acted acted
by_roll x cells s t on stack h =
    let act = compiles_by compiling.ControlRoll s t on h in
    put_on (Roll x.0) cells s t (sym (ap (λ l. worked flat_calls (roll_taken l) s) stack) ∙ act)

stored_is : (b : Bool) (x : Cell) (cells : List Cell) (s t : State Coding)
    → worked flat_calls (if b then Appends (Plain (P.Store x)) cells else Fails bad_handle) s ≡ done t
    → IsAppended (Plain (P.Store x)) cells s t
unfolding worked
stored_is true x cells s t h = put_on (Plain (P.Store x)) cells s t h
stored_is false x cells s t h = thrown bad_handle s t h

pub by_comma_to : (x : Cell) (cells : List Cell) (s t : State Coding) → s.flow.is_compiling ≡ true
    → s.board.stack ≡ x ∷ cells → after (text.Compiling compiling.CommaTo) s ≡ done t
    → IsAppended (Plain (P.Store x)) cells s t
unfolding compiling_act text_acted acted
by_comma_to x cells s t on stack h =
    let act = compiles_by compiling.CommaTo s t on h in
    stored_is (is_word s.words.dictionary x.0) x cells s t
    (sym (ap (λ l. worked flat_calls (store_taken l (front_of s)) s) stack) ∙ act)
