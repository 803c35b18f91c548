-- What single words of a text do, without the table (Forth 2012, 3.4, 6.1.0070, 6.1.1310, 6.1.1780, 6.1.2120,
-- 6.1.2140, 6.1.2430, 6.1.2500, 6.2.0702, 15.6.2.1020; IEEE 1275-1994, 7.3).
use Rattle.std.specs.Prelude.{◌≡◌, ℕ, ◌<◌, Bool, true, false, List, ◌∷◌, ◌++◌, length, Some, Result, Ok}
use Rattle.of_cells.specs.declared.cells.Cell.{Cell}
use Rattle.of_stacks.specs.declared.throws.Throw.{Throw}
use Rattle.of_stacks.specs.Throws.{compile_only, compiler_nesting}
use Rattle.of_fcodes.specs.declared.console_words.CompilingWord.{CompilingWord}
use Rattle.of_fcodes.specs.declared.console_words.CompilingWord.TheVariants as compiling
use Rattle.of_fcodes.specs.declared.words.PrintingWord.TheVariants as printing
use Rattle.of_fcodes.specs.declared.words.Word.TheVariants.{Printing}
use Rattle.of_fcodes.specs.Finding.{xt_of as written_xt}
use Rattle.of_dict.specs.Words.{xt_of}
use Rattle.of_control.specs.Element.{Element, Plain, Roll}
use Rattle.of_compile.specs.declared.element.PlainItem.{PlainItem}
use Rattle.of_compile.specs.declared.element.PlainItem.TheVariants as plain
use Rattle.of_compile.specs.Tokens.{called, text_elements}
use Rattle.of_compile.specs.Words.{is_word}
use Rattle.of_text.specs.declared.words.TextWord.{TextWord}
use Rattle.of_text.specs.declared.words.TextWord.TheVariants as text
use Rattle.of_eval.specs.Acts.{front_of}
use Rattle.of_eval.specs.Doing.{executed}
use Rattle.of_interpret.specs.TextActs.{text_acted}
use Rattle.of_interpret.specs.TextWords.{text_act, type_element}
use Rattle.of_state.specs.Settling.{ends_inside, is_line, source_ended}
use Rattle.of_state.specs.State.{Calls, Outcome, State, done, failed, given_up, with_compiling, with_stack}

-- what a word of a text makes of the state that is read behind it
abbrev pub after : {S : Type 0} → Calls S → TextWord → State S → Outcome S
after c w s = text_acted c (text_act w (front_of s)) s

-- a word makes this of a state, or throws and changes nothing
abbrev pub Does : {S : Type 0} → Calls S → TextWord → State S → State S → Type 0
Does c w s new = after c w s ≡ done new

abbrev pub Throws : {S : Type 0} → Calls S → TextWord → State S → Throw → Type 0
Throws c w s t = after c w s ≡ failed t s

-- an element finds room in the open definition, and leaves this code
abbrev pub Leaves : {S : Type 0} → Calls S → Element PlainItem → State S → S → Type 0
Leaves c e s code = c.element e s.code ≡ record { code = code; ended = Ok tt }

pub record TextWordsDo (S : Type 0) : Type 0 where
  -- While words are executed a number is left, and a word that is found is executed.
  pub number :
      (c : Calls S) (x : Cell) (s : State S) → s.flow.is_compiling ≡ false → length s.board.stack < 256 →
      Does c (text.Number (Ok x)) s (with_stack (x ∷ s.board.stack) s)
  pub runs :
      (c : Calls S) (xt : Cell) (i : Bool) (s : State S) → s.flow.is_compiling ≡ false →
      after c (text.Found xt i) s ≡ executed c xt.0 s
  -- While they are compiled a number is appended as a literal, and a word that is found is called; but an immediate one
  -- is executed.
  pub literal :
      (c : Calls S) (x : Cell) (s : State S) (d : S) → s.flow.is_compiling ≡ true →
      Leaves c (Plain (plain.Literal x)) s d → Does c (text.Number (Ok x)) s (record s { code = d })
  pub calls :
      (c : Calls S) (xt : Cell) (s : State S) (d : S) → s.flow.is_compiling ≡ true →
      is_word s.words.dictionary xt.0 ≡ true → Leaves c (Plain (called xt)) s d →
      Does c (text.Found xt false) s (record s { code = d })
  pub immediate :
      (c : Calls S) (xt : Cell) (s : State S) → after c (text.Found xt true) s ≡ executed c xt.0 s
  -- `'` leaves what its name finds, in both states.
  pub ticks :
      (c : Calls S) (xt : Cell) (s : State S) → length s.board.stack < 256 →
      Does c (text.Tick (Ok xt)) s (with_stack (xt ∷ s.board.stack) s)
  -- Words that serve only while words are compiled throw -14 else; `char` throws it while they are.
  pub only_compiling :
      (c : Calls S) (w : CompilingWord) (s : State S) → s.flow.is_compiling ≡ false →
      Throws c (text.Compiling w) s compile_only
  pub only_tick :
      (c : Calls S) (r : Result Cell Throw) (s : State S) → s.flow.is_compiling ≡ false →
      Throws c (text.BracketTick r) s compile_only
  pub only_char :
      (c : Calls S) (r : Result Cell Throw) (s : State S) → s.flow.is_compiling ≡ false →
      Throws c (text.BracketChar r) s compile_only
  pub only_executing :
      (c : Calls S) (r : Result Cell Throw) (s : State S) → s.flow.is_compiling ≡ true →
      Throws c (text.Char r) s compile_only
  -- Behind `[` words are executed.
  pub leaves_compiling :
      (c : Calls S) (s : State S) → s.flow.is_compiling ≡ true →
      Does c (text.Compiling compiling.LeaveCompiling) s (with_compiling false s)
  -- `else` is `ahead` and resolves the branch that was the latest before it, `while` is `if`, `repeat` is `again then`.
  pub else_is :
      text_elements compiling.Else ≡ text_elements compiling.Ahead ++ Roll 1 ∷ text_elements compiling.Then
  pub while_is : text_elements compiling.While ≡ text_elements compiling.If
  pub repeat_is :
      text_elements compiling.Repeat ≡ text_elements compiling.Again ++ text_elements compiling.Then
  -- `recurse` calls the open definition, `literal`, `cs-roll` and `to,` take a cell.
  pub recurses :
      (c : Calls S) (n : ℕ) (s : State S) (d : S) → s.flow.is_compiling ≡ true → s.words.defining ≡ Some n →
      Leaves c (Plain (called (record { 0 = xt_of n }))) s d →
      Does c (text.Compiling compiling.Recurse) s (record s { code = d })
  pub takes_literal :
      (c : Calls S) (x : Cell) (cells : List Cell) (s : State S) (d : S) → s.flow.is_compiling ≡ true →
      s.board.stack ≡ x ∷ cells → Leaves c (Plain (plain.Literal x)) s d →
      Does c (text.Compiling compiling.Literal) s (record (with_stack cells s) { code = d })
  pub takes_roll :
      (c : Calls S) (n : Cell) (cells : List Cell) (s : State S) (d : S) → s.flow.is_compiling ≡ true →
      s.board.stack ≡ n ∷ cells → Leaves c (Roll n.0) s d →
      Does c (text.Compiling compiling.ControlRoll) s (record (with_stack cells s) { code = d })
  pub takes_store :
      (c : Calls S) (xt : Cell) (cells : List Cell) (s : State S) (d : S) → s.flow.is_compiling ≡ true →
      s.board.stack ≡ xt ∷ cells → is_word s.words.dictionary xt.0 ≡ true → Leaves c (Plain (plain.Store xt)) s d →
      Does c (text.Compiling compiling.CommaTo) s (record (with_stack cells s) { code = d })
  -- `type` stands behind a string that is compiled to be printed.
  pub prints_by_type : type_element ≡ Plain (called (record { 0 = written_xt (Printing printing.«Type») }))
  -- A comment changes nothing.
  pub comment : (c : Calls S) (s : State S) → Does c text.Comment s s
  -- The end of a console line keeps an open definition; that of another text gives up one that was opened in it.
  pub line_ends :
      (c : Calls S) (s : State S) → is_line s.flow.reading.input s.flow.items ≡ true →
      Does c text.End s (source_ended s)
  pub gives_up :
      (c : Calls S) (s : State S) → ends_inside s ≡ true →
      after c text.End s ≡ failed compiler_nesting (given_up c s)
