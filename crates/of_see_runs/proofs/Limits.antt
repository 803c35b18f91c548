-- What a word that is printed of a definition leaves or throws.
use Rattle.std.proofs.Common.{◌≡◌, ◌<◌, ◌⊎◌, inl, inr, ℕ, ◌+◌, ◌&&◌, Bool, true, false, not, nat_le, nat_lt, List, []}
use Rattle.std.proofs.Common.{◌∷◌, length, Option, Some, Result, Ok, Err, refl, sym, subst, if◌then◌else◌}
use Rattle.std.specs.Prelude.{is_none}
use Rattle.std.proofs.lemmas.Bool.{ltb-true}
use Rattle.of_cells.specs.declared.cells.Cell.{Cell}
use Rattle.of_stacks.specs.declared.throws.Throw.{Throw}
use Rattle.of_stacks.specs.Order.{counting, fault_if, refused_if}
use Rattle.of_stacks.specs.Throws.{bad_handle, compile_only, dictionary_overflow, invalid_argument, stack_overflow}
use Rattle.of_fcodes.specs.declared.console_words.CompilingWord.{CompilingWord}
use Rattle.of_fcodes.specs.declared.console_words.CompilingWord.TheVariants as compiling
use Rattle.of_fcodes.specs.declared.words.DictionaryWord.{DictionaryWord}
use Rattle.of_fcodes.specs.declared.words.DictionaryWord.TheVariants as dictionary
use Rattle.of_fcodes.specs.declared.words.Word.TheVariants as word
use Rattle.of_fcodes.specs.Finding.{FindsEachWord}
use Rattle.of_fcodes.specs.Finding.{xt_of as written_xt}
use Rattle.of_memory.specs.DataSpace.{DataSpace}
use Rattle.of_memory.specs.Growth.{appended as put_at_here}
use Rattle.of_memory.specs.Regions.{data_limit}
use Rattle.of_memory.specs.declared.fault.MemFault.TheVariants.{Full}
use Rattle.of_dict.specs.Words.{xt_of}
use Rattle.of_control.specs.Element.{Element, Plain, Roll}
use Rattle.of_compile.specs.Coding.{Coding, compiled, compiling as compiling_of, fits}
use Rattle.of_compile.specs.Coding.{Outcome as CodingOutcome}
use Rattle.of_compile.specs.declared.element.PlainItem.{PlainItem}
use Rattle.of_compile.specs.declared.element.PlainItem.TheVariants as P
use Rattle.of_compile.specs.Elements.{own_item}
use Rattle.of_compile.specs.Tokens.{called, text_elements}
use Rattle.of_compile.specs.Words.{is_word}
use Rattle.of_text.specs.declared.words.TextWord.TheVariants as text
use Rattle.of_eval.specs.Acts.{Appends, Compiles, Does, Fails, leaving, unless}
use Rattle.of_eval.specs.Acts.{front_of}
use Rattle.of_eval.specs.Defining.{string_element}
use Rattle.of_eval.specs.Doing.{acted, appended, worked}
use Rattle.of_eval.specs.Executing.{comma_act, dictionary_act, execution, written_act}
use Rattle.of_eval.specs.Laws.{WordsAreExecuted}
use Rattle.of_flow.specs.Returns.{pushed}
use Rattle.of_flow.specs.Texts.{latest_text}
use Rattle.of_interpret.specs.Strings.{all_appended, by_spelling, bytes_put, string_left_in}
use Rattle.of_interpret.specs.TextActs.{Acts, Says, Spells, text_acted}
use Rattle.of_interpret.specs.TextWords.{call_act, compiling_act, control, quoted_bytes, recursing, roll_taken}
use Rattle.of_interpret.specs.TextWords.{store_taken, stored_act, text_act}
use Rattle.of_state.specs.State.{Answered, State, flat_calls, with_compiling, with_stack}
use Rattle.of_see_runs.proofs.Words.{after, controlled, one}
use Rattle.of_see_runs.specs.Limits.{IsDoneOrFull}

-- ---- room for an element

-- something has room, or -8 is thrown
abbrev HasRoomOrNot : Result (Unit {0}) Throw → Type 0
HasRoomOrNot r = (r ≡ Ok tt) ⊎ (r ≡ Err dictionary_overflow)

abbrev kept_or_not : Bool → Coding → Coding → CodingOutcome
kept_or_not b c d =
    if b then record { coding = c; ended = Ok tt } else record { coding = d; ended = Err dictionary_overflow }

has_room_or_not : (e : Element PlainItem) (c : Coding) → HasRoomOrNot (compiling_of e c).ended
unfolding compiling_of
has_room_or_not e c = by_fit (fits (own_item e) c.code)
  where
    by_fit : (b : Bool) → HasRoomOrNot (kept_or_not b (compiled e c) c).ended
    by_fit true = inl refl
    by_fit false = inr refl

put_so : (d : Coding) (r : Result (Unit {0}) Throw) (cells : List Cell) (s : State Coding) → HasRoomOrNot r
    → IsDoneOrFull (appended (record { code = d; ended = r }) cells s)
put_so d r cells s (inl e) =
    subst (λ x. IsDoneOrFull (appended (record { code = d; ended = x }) cells s)) (sym e)
    (inl (record (with_stack cells s) { code = d }, refl))
put_so d r cells s (inr e) =
    subst (λ x. IsDoneOrFull (appended (record { code = d; ended = x }) cells s)) (sym e) (inr (inr refl))

put : (e : Element PlainItem) (cells : List Cell) (s : State Coding)
    → IsDoneOrFull (worked flat_calls (Appends e cells) s)
unfolding worked
put e cells s =
    let o = compiling_of e s.code in
    put_so o.coding o.ended cells s (has_room_or_not e s.code)

-- ---- while words are compiled

compiles : (w : CompilingWord) (s : State Coding) → s.flow.is_compiling ≡ true
    → IsDoneOrFull (text_acted flat_calls (compiling_act w (front_of s)) s)
    → IsDoneOrFull (after (text.Compiling w) s)
unfolding text_act
compiles w s on h =
    subst (λ b. IsDoneOrFull (text_acted flat_calls (if b then compiling_act w (front_of s)
    else Acts (Does (Fails compile_only))) s)) (sym on) h

pub control_ends : (w : CompilingWord) (e : Element PlainItem) (s : State Coding) → text_elements w ≡ e ∷ []
    → s.flow.is_compiling ≡ true → IsDoneOrFull (after (text.Compiling w) s)
unfolding text_acted
control_ends w e s alone_in on =
    let o = compiling_of e s.code in
    let element : IsDoneOrFull (appended (flat_calls.element e s.code) s.board.stack s)
    = put_so o.coding o.ended s.board.stack s (has_room_or_not e s.code) in
    let all : IsDoneOrFull (appended (all_appended flat_calls (e ∷ []) s.code) s.board.stack s)
    = subst (λ (a : Answered Coding). IsDoneOrFull (appended a s.board.stack s)) (sym (one e s.code)) element in
    let act : IsDoneOrFull (text_acted flat_calls (control w (front_of s)) s)
    = subst (λ es. IsDoneOrFull (appended (all_appended flat_calls es s.code) s.board.stack s)) (sym alone_in) all in
    compiles w s on
    (subst (λ a. IsDoneOrFull (text_acted flat_calls a s)) (sym (controlled w e (front_of s) alone_in)) act)

pub call_ends : (xt : Cell) (s : State Coding) → s.flow.is_compiling ≡ true
    → is_word s.words.dictionary xt.0 ≡ true → IsDoneOrFull (after (text.Found xt false) s)
unfolding text_act text_acted acted
call_ends xt s on known =
    subst (λ b. IsDoneOrFull (worked flat_calls (if b && true then call_act xt (front_of s)
    else execution xt.0 (front_of s)) s)) (sym on)
    (subst (λ b. IsDoneOrFull (worked flat_calls (if b then Appends (Plain (called xt)) s.board.stack
    else Fails bad_handle) s)) (sym known) (put (Plain (called xt)) s.board.stack s))

pub literal_ends : (x : Cell) (s : State Coding) → s.flow.is_compiling ≡ true
    → IsDoneOrFull (after (text.Number (Ok x)) s)
unfolding text_act text_acted acted
literal_ends x s on =
    subst (λ b. IsDoneOrFull (worked flat_calls (if b then Appends (Plain (P.Literal x)) s.board.stack
    else leaving (pushed x s.board.stack)) s)) (sym on) (put (Plain (P.Literal x)) s.board.stack s)

pub recursion_ends : (k : ℕ) (s : State Coding) → s.flow.is_compiling ≡ true → s.words.defining ≡ Some k
    → IsDoneOrFull (after (text.Compiling compiling.Recurse) s)
unfolding compiling_act text_acted acted
recursion_ends k s on defines =
    compiles compiling.Recurse s on
    (subst (λ o. IsDoneOrFull (worked flat_calls (recursing o (front_of s)) s)) (sym defines)
    (put (Plain (called (record { 0 = xt_of k }))) s.board.stack s))

pub store_ends : (xt : Cell) (s : State Coding) → s.flow.is_compiling ≡ true
    → IsDoneOrFull (after (text.To (Ok xt)) s)
unfolding text_act text_acted acted
store_ends xt s on =
    subst (λ b. IsDoneOrFull (worked flat_calls (if b then Appends (Plain (P.Store xt)) s.board.stack
    else stored_act (Ok xt) s.board.stack (front_of s)) s)) (sym on) (put (Plain (P.Store xt)) s.board.stack s)

-- ---- strings

abbrev HasSpaceOrNot : Result DataSpace Throw → Type 0
HasSpaceOrNot r = ((m : DataSpace) × (r ≡ Ok m)) ⊎ (r ≡ Err dictionary_overflow)

has_space_or_not : (m : DataSpace) (bytes : List ℕ) → HasSpaceOrNot (bytes_put (put_at_here m bytes))
has_space_or_not m bytes = by_room (nat_le (m.here + length bytes) data_limit) _
  where
    by_room : (b : Bool) (x : ℕ × DataSpace) → HasSpaceOrNot (bytes_put (if b then Ok x else Err Full))
    by_room true x = inl (_, refl)
    by_room false x = inr refl

spelt_so : (d : Coding) (r : Result (Unit {0}) Throw) (m : Result DataSpace Throw) (s : State Coding)
    → HasRoomOrNot r → HasSpaceOrNot m → IsDoneOrFull (by_spelling (string_left_in r d m) s)
spelt_so d r m s (inl e) (inl f) =
    subst (λ x. IsDoneOrFull (by_spelling (string_left_in x d m) s)) (sym e)
    (subst (λ x. IsDoneOrFull (by_spelling (string_left_in (Ok tt) d x) s)) (sym f.1)
    (inl (record s { code = d; board = record s.board { memory = f.0 } }, refl)))
spelt_so d r m s (inl e) (inr f) =
    subst (λ x. IsDoneOrFull (by_spelling (string_left_in x d m) s)) (sym e)
    (subst (λ x. IsDoneOrFull (by_spelling (string_left_in (Ok tt) d x) s)) (sym f) (inr (inr refl)))
spelt_so d r m s (inr e) f =
    subst (λ x. IsDoneOrFull (by_spelling (string_left_in x d m) s)) (sym e) (inr (inr refl))

spells : (bytes : List ℕ) (s : State Coding) → IsDoneOrFull (text_acted flat_calls (Spells bytes []) s)
unfolding text_acted
spells bytes s =
    let e = string_element s.board.memory.here (length bytes) in
    let space = bytes_put (put_at_here s.board.memory bytes) in
    let o = compiling_of e s.code in
    subst (λ (a : Answered Coding). IsDoneOrFull (by_spelling (string_left_in a.ended a.code space) s))
    (sym (one e s.code))
    (spelt_so o.coding o.ended space s (has_room_or_not e s.code) (has_space_or_not s.board.memory bytes))

pub string_ends : (at : ℕ) (s : State Coding) → s.flow.is_compiling ≡ true
    → nat_lt 255 (length (quoted_bytes (latest_text s.flow.texts) at)) ≡ false
    → IsDoneOrFull (after (text.Quoted at) s)
unfolding text_act
string_ends at s on short =
    let bytes = quoted_bytes (latest_text s.flow.texts) at in
    subst (λ b. IsDoneOrFull (text_acted flat_calls (if b then Acts (Does (Fails invalid_argument))
    else (if s.flow.is_compiling then Spells bytes [] else Says bytes)) s)) (sym short)
    (subst (λ b. IsDoneOrFull (text_acted flat_calls (if b then Spells bytes [] else Says bytes) s)) (sym on)
    (spells bytes s))

-- ---- while words are interpreted in between

pub bracket_ends : (s : State Coding) → s.flow.is_compiling ≡ true
    → IsDoneOrFull (after (text.Compiling compiling.LeaveCompiling) s)
unfolding compiling_act text_acted
bracket_ends s on = compiles compiling.LeaveCompiling s on (inl (with_compiling false s, refl))

pushes : (b : Bool) (x : Cell) (s : State Coding)
    → IsDoneOrFull (worked flat_calls (leaving (refused_if b stack_overflow (x ∷ s.board.stack))) s)
unfolding worked
pushes false x s = inl (with_stack (x ∷ s.board.stack) s, refl)
pushes true x s = inr (inl refl)

pub number_ends : (x : Cell) (s : State Coding) → s.flow.is_compiling ≡ false
    → IsDoneOrFull (after (text.Number (Ok x)) s)
unfolding text_act text_acted acted
number_ends x s off =
    subst (λ b. IsDoneOrFull (worked flat_calls (if b then Appends (Plain (P.Literal x)) s.board.stack
    else leaving (pushed x s.board.stack)) s)) (sym off) (pushes (nat_lt 256 (length (x ∷ s.board.stack))) x s)

module _ (law : WordsAreExecuted Coding) (found : FindsEachWord) where
  executed_ends : (w : DictionaryWord) (s : State Coding) → written_xt (word.Dictionary w) < 0xC000_052C
      → s.flow.is_compiling ≡ false → IsDoneOrFull (worked flat_calls (dictionary_act w (front_of s)) s)
      → IsDoneOrFull (after (text.Found (record { 0 = written_xt (word.Dictionary w) }) false) s)
  unfolding text_act text_acted acted written_act
  executed_ends w s low off h =
      let xt = written_xt (word.Dictionary w) in
      subst (λ b. IsDoneOrFull (worked flat_calls (if b && true then call_act (record { 0 = xt }) (front_of s)
      else execution xt (front_of s)) s)) (sym off)
      (subst (λ o. IsDoneOrFull o)
      (sym (law.written flat_calls (word.Dictionary w) xt s low (found.by_xt (word.Dictionary w)) refl)) h)

  pub enter_ends : (k : ℕ) (s : State Coding) → s.flow.is_compiling ≡ false → s.words.defining ≡ Some k
      → IsDoneOrFull (after (text.Found (record { 0 = written_xt (word.Dictionary dictionary.EnterCompiling) })
      false) s)
  unfolding dictionary_act worked
  enter_ends k s off defines =
      executed_ends dictionary.EnterCompiling s (ltb-true _ 0xC000_052C refl) off
      (subst (λ (o : Option ℕ). IsDoneOrFull (worked flat_calls (if is_none o then Fails compile_only else Compiles)
      s)) (sym defines) (inl (with_compiling true s, refl)))

  comma_so : (b : Bool) (x : Cell) (cells : List Cell) (s : State Coding) → b ≡ true
      → IsDoneOrFull (worked flat_calls (unless (counting (fault_if false compile_only
      ∷ fault_if (not b) bad_handle ∷ [])) (Appends (Plain (called x)) cells)) s)
  comma_so true x cells s e = put (Plain (called x)) cells s
  comma_so false x cells s e = absurd cc

  pub comma_ends : (k : ℕ) (x : Cell) (cells : List Cell) (s : State Coding) → s.flow.is_compiling ≡ false
      → s.words.defining ≡ Some k → s.board.stack ≡ x ∷ cells → is_word s.words.dictionary x.0 ≡ true
      → IsDoneOrFull (after (text.Found (record { 0 = written_xt (word.Dictionary dictionary.CompileComma) })
      false) s)
  unfolding dictionary_act
  comma_ends k x cells s off defines stack known =
      executed_ends dictionary.CompileComma s (ltb-true _ 0xC000_052C refl) off
      (subst (λ l. IsDoneOrFull (worked flat_calls (comma_act s.words l) s)) (sym stack)
      (subst (λ (o : Option ℕ). IsDoneOrFull (worked flat_calls (unless (counting (fault_if (is_none o) compile_only
      ∷ fault_if (not (is_word s.words.dictionary x.0)) bad_handle ∷ [])) (Appends (Plain (called x)) cells)) s))
      (sym defines) (comma_so (is_word s.words.dictionary x.0) x cells s known)))

pub roll_ends : (x : Cell) (cells : List Cell) (s : State Coding) → s.flow.is_compiling ≡ true
    → s.board.stack ≡ x ∷ cells → IsDoneOrFull (after (text.Compiling compiling.ControlRoll) s)
unfolding compiling_act text_acted acted
roll_ends x cells s on stack =
    compiles compiling.ControlRoll s on
    (subst (λ l. IsDoneOrFull (worked flat_calls (roll_taken l) s)) (sym stack) (put (Roll x.0) cells s))

pub comma_to_ends : (x : Cell) (cells : List Cell) (s : State Coding) → s.flow.is_compiling ≡ true
    → s.board.stack ≡ x ∷ cells → is_word s.words.dictionary x.0 ≡ true
    → IsDoneOrFull (after (text.Compiling compiling.CommaTo) s)
unfolding compiling_act text_acted acted
comma_to_ends x cells s on stack known =
    compiles compiling.CommaTo s on
    (subst (λ l. IsDoneOrFull (worked flat_calls (store_taken l (front_of s)) s)) (sym stack)
    (subst (λ b. IsDoneOrFull (worked flat_calls (if b then Appends (Plain (P.Store x)) cells
    else Fails bad_handle) s)) (sym known) (put (Plain (P.Store x)) cells s)))
