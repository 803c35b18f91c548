-- Which token each FCode of the stream is, what tokens of control do in an image that is interpreted, and what they
-- leave in an open definition (IEEE 1275-1994, 5.2.2, 5.3.3.1 and annex A; Forth 2012, 9.6.1.2275).
use Rattle.std.specs.Prelude.{◌≡◌, ℕ, ℤ, ◌<◌, true, false, List, ◌∷◌, length, Option, Some, None, Ok}
use Rattle.of_cells.specs.declared.cells.Cell.{Cell}
use Rattle.of_cells.specs.Arithmetic.{plus}
use Rattle.of_cells.specs.Numbers.{signed}
use Rattle.of_stacks.specs.declared.return_item.Input.TheVariants as input
use Rattle.of_stacks.specs.declared.return_item.LoopExit.TheVariants as exit
use Rattle.of_stacks.specs.declared.return_item.LoopParameters.{LoopParameters}
use Rattle.of_stacks.specs.declared.return_item.ReturnItem.{ReturnItem}
use Rattle.of_stacks.specs.declared.return_item.ReturnItem.TheVariants.{Loop}
use Rattle.of_stacks.specs.Loops.{passes_limit}
use Rattle.of_stacks.specs.Throws.{image_ended}
use Rattle.of_fcodes.specs.declared.codes.FCode.{FCode}
use Rattle.of_fcodes.specs.declared.words.StreamWord.{StreamWord}
use Rattle.of_fcodes.specs.declared.words.StreamWord.TheVariants as stream
use Rattle.of_fcodes.specs.declared.words.DictionaryWord.TheVariants as dictionary
use Rattle.of_fcodes.specs.declared.words.ThrowsWord.TheVariants as throws
use Rattle.of_fcodes.specs.declared.words.Word.TheVariants as word
use Rattle.of_stream.specs.declared.stream.OffsetSize.{OffsetSize}
use Rattle.of_stream.specs.Decoding.{Argument, Code, Literal, Named, Nothing, Offset, String}
use Rattle.of_stream.specs.Targets.{landing, target_at, within_tokens}
use Rattle.of_control.specs.Element.{Element}
use Rattle.of_control.specs.Element as element
use Rattle.of_compile.specs.declared.defining.DefiningWord.TheVariants as defining
use Rattle.of_compile.specs.declared.element.PlainItem.{PlainItem}
use Rattle.of_compile.specs.Tokens.{called, offset_element}
use Rattle.of_compile.specs.DictionaryWords.{immediate_entry}
use Rattle.of_compile.specs.Words.{WordsState, is_word}
use Rattle.of_own.specs.Finding.{find_of}
use Rattle.of_board.specs.Text.{printed}
use Rattle.of_console.specs.Names.{words_text}
use Rattle.of_flow.specs.declared.control.ControlWord.{ControlWord}
use Rattle.of_flow.specs.declared.control.ControlWord.TheVariants as control
use Rattle.of_flow.specs.declared.token.Token.{Token}
use Rattle.of_flow.specs.declared.token.Token.TheVariants as token
use Rattle.of_eval.specs.declared.tokens.Spot.{Spot}
use Rattle.of_eval.specs.Doing.{executed}
use Rattle.of_eval.specs.Executing.{Written, plan_in}
use Rattle.of_flow.specs.Turns.{loop_item, one}
use Rattle.of_state.specs.State.{Calls, State, done, failed, with_board, with_compiling, with_items, with_stack}
use Rattle.of_state.specs.State.{with_words}
use Rattle.of_eval.specs.Reading.{plain_done}
use Rattle.of_flow.specs.Tokens.{ExternalToken, NamedToken, Plain, Typed, typed_of}
use Rattle.of_eval_laws.specs.Going.{on}

-- ---- FCodes

-- an FCode with what stands behind it is this token
abbrev pub Is : ℕ → Argument → Typed → Type 0
Is code a t = typed_of (record { code = record { 0 = code }; argument = a }) ≡ t

-- an FCode with nothing behind it, and one with an offset
abbrev pub IsBare : ℕ → Token → Type 0
IsBare code t = Is code Nothing (Plain t)

abbrev pub IsControl : ℕ → ControlWord → Type 0
IsControl code w = (by : ℤ) → Is code (Offset by) (Plain (token.Control w by))

-- The FCodes of the stream, by their numbers.
pub record TokensAreTyped : Type 0 where
  pub end0 : IsBare 0x000 token.End
  pub literal : (x : Cell) → Is 0x010 (Literal x) (Plain (token.Literal x))
  pub tick : (k : FCode) → Is 0x011 (Code k) (Plain (token.Tick k))
  pub string : (s : List ℕ) → Is 0x012 (String s) (Plain (token.String (length s)))
  pub branch : IsControl 0x013 control.Branch
  pub branch_if_zero : IsControl 0x014 control.BranchIfZero
  pub «loop» : IsControl 0x015 control.Loop
  pub plus_loop : IsControl 0x016 control.PlusLoop
  pub begin_loop : IsControl 0x017 control.Do
  pub question_do : IsControl 0x018 control.QuestionDo
  pub leave : IsBare 0x01b token.Leave
  pub of : IsControl 0x01c control.Of
  pub mark : IsBare 0x0b1 token.Mark
  pub resolve : IsBare 0x0b2 token.Resolve
  pub new_token : (k : FCode) → Is 0x0b5 (Code k) (Plain (token.NewToken k))
  pub named_token : (name : List ℕ) (k : FCode) → Is 0x0b6 (Named name k) (NamedToken name k)
  pub colon : IsBare 0x0b7 (token.Define defining.Colon)
  pub value : IsBare 0x0b8 (token.Define defining.Value)
  pub variable : IsBare 0x0b9 (token.Define defining.Variable)
  pub constant : IsBare 0x0ba (token.Define defining.Constant)
  pub create : IsBare 0x0bb (token.Define defining.Create)
  pub defer : IsBare 0x0bc (token.Define defining.Defer)
  pub buffer : IsBare 0x0bd (token.Define defining.Buffer)
  pub field_word : IsBare 0x0be (token.Define defining.Field)
  pub semicolon : IsBare 0x0c2 token.Semicolon
  pub to : (k : FCode) → Is 0x0c3 (Code k) (Plain (token.To k))
  pub case : IsBare 0x0c4 token.Case
  pub endcase : IsBare 0x0c5 token.EndCase
  pub endof : IsControl 0x0c6 control.EndOf
  pub external_token : (name : List ℕ) (k : FCode) → Is 0x0ca (Named name k) (ExternalToken name k)
  pub offset16 : IsBare 0x0cc token.Offset16
  pub end1 : IsBare 0x0ff token.End

-- ---- an image that is interpreted

-- an image is read on at a position, with offsets of a size
abbrev pub reading : {S : Type 0} → OffsetSize → ℕ → State S → State S
reading size n s =
    record s { flow = record s.flow { reading = record s.flow.reading { input = input.Image size n } } }

-- a token whose word of control has its target at position n makes this of a state in which an image is read on at p
abbrev pub Goes : {S : Type 0} → Calls S → ControlWord → State S → State S → Type 0
Goes {S} c w s n =
    (here : Spot) (by : ℤ) (size : OffsetSize) (p to : ℕ) → landing here.size here.position by ≡ Some to →
    plain_done c (token.Control w by) here (reading size p s) ≡ done (reading size to n)

-- What tokens of control make of both stacks, and at which position the image is read on, where words are executed.
pub record TokensGo (S : Type 0) : Type 0 where
  -- a branch goes to its target, one on zero where it takes a 0
  pub branch : (c : Calls S) (s : State S) → s.flow.is_compiling ≡ false → Goes c control.Branch s s
  pub on_zero :
      (c : Calls S) (s : State S) (x : Cell) (cells : List Cell) → s.flow.is_compiling ≡ false → x.0 ≡ 0 →
      Goes c control.BranchIfZero (with_stack (x ∷ cells) s) (with_stack cells s)
  -- -257 where the target isn't in the image
  pub nowhere :
      (c : Calls S) (here : Spot) (by : ℤ) (s : State S) → s.flow.is_compiling ≡ false →
      landing here.size here.position by ≡ None →
      plain_done c (token.Control control.Branch by) here s ≡ failed image_ended s
  -- a loop keeps the position at which it is left
  pub begins :
      (c : Calls S) (here : Spot) (by : ℤ) (e : ℕ) (s : State S) (index limit : Cell) (cells : List Cell)
      (r : List ReturnItem) → s.flow.is_compiling ≡ false → length r < 256 →
      target_at here.position by ≡ Some e →
      plain_done c (token.Control control.Do by) here (on (index ∷ limit ∷ cells) r s)
      ≡ done (on cells (loop_item index limit (exit.Position e) ∷ r) s)
  pub skips :
      (c : Calls S) (s : State S) (index limit : Cell) (cells : List Cell) → s.flow.is_compiling ≡ false →
      index.0 ≡ limit.0 → Goes c control.QuestionDo (with_stack (index ∷ limit ∷ cells) s) (with_stack cells s)
  -- one that goes on goes to its target, with the next index
  pub repeats :
      (c : Calls S) (s : State S) (l : LoopParameters) (r : List ReturnItem) → s.flow.is_compiling ≡ false →
      passes_limit l.index l.limit one ≡ false →
      Goes c control.Loop (with_items (Loop l ∷ r) s)
      (with_items (Loop (record l { index = plus l.index one }) ∷ r) s)
  -- `b(leave)` drops the loop on top, and goes where that loop says
  pub leaves :
      (c : Calls S) (here : Spot) (size : OffsetSize) (p e : ℕ) (s : State S) (l : LoopParameters)
      (r : List ReturnItem) → s.flow.is_compiling ≡ false → l.exit ≡ exit.Position e →
      within_tokens here.size (Some e) ≡ Some e →
      plain_done c token.Leave here (reading size p (with_items (Loop l ∷ r) s))
      ≡ done (reading size e (with_items r s))
  -- `b(of)` of another number goes to the next arm, and `b(endof)` past its case
  pub another :
      (c : Calls S) (s : State S) (y x : Cell) (cells : List Cell) → s.flow.is_compiling ≡ false →
      (x.0 ≡ y.0 → ⊥) → Goes c control.Of (with_stack (y ∷ x ∷ cells) s) (with_stack (x ∷ cells) s)
  pub arm : (c : Calls S) (s : State S) → s.flow.is_compiling ≡ false → Goes c control.EndOf s s

-- ---- an open definition

-- the word of the stream that a word of control with an offset is
abbrev pub stream_word : ControlWord → Option StreamWord
stream_word control.Branch = Some stream.Branch
stream_word control.BranchIfZero = Some stream.BranchIfZero
stream_word control.Do = Some stream.Do
stream_word control.QuestionDo = Some stream.QuestionDo
stream_word control.Loop = Some stream.Loop
stream_word control.PlusLoop = Some stream.PlusLoop
stream_word control.Of = Some stream.Of
stream_word control.EndOf = Some stream.EndOf
stream_word control.EndCase = None

-- While words are compiled a token of control leaves the element of its word, by the table of elements, where that
-- finds room; `compile,` leaves a call of the word whose cell it takes.
pub record TokensCompile (S : Type 0) : Type 0 where
  pub control :
      (c : Calls S) (w : ControlWord) (by : ℤ) (here : Spot) (s : State S) (k : StreamWord) (e : Element PlainItem)
      (d : S) → s.flow.is_compiling ≡ true → stream_word w ≡ Some k → offset_element k here.position by ≡ Some e →
      c.element e s.code ≡ record { code = d; ended = Ok tt } →
      plain_done c (token.Control w by) here s ≡ done (record s { code = d })
  pub call :
      (c : Calls S) (xt : ℕ) (s : State S) (n : ℕ) (x : Cell) (cells : List Cell) (d : S) →
      plan_in s xt ≡ Written (word.Dictionary dictionary.CompileComma) → s.words.defining ≡ Some n →
      is_word s.words.dictionary x.0 ≡ true → s.board.stack ≡ x ∷ cells →
      c.element (element.Plain (called x)) s.code ≡ record { code = d; ended = Ok tt } →
      executed c xt s ≡ done (record (with_stack cells s) { code = d })

-- `throw` takes the number that it throws, unless that is 0, which throws nothing.
pub record ThrowTakes (S : Type 0) : Type 0 where
  pub takes :
      (c : Calls S) (xt : ℕ) (s : State S) (n : Cell) (cells : List Cell) → (n.0 ≡ 0 → ⊥) →
      plan_in s xt ≡ Written (word.Throws throws.Throw) → s.board.stack ≡ n ∷ cells →
      executed c xt s ≡ failed (record { 0 = signed n }) (with_stack cells s)
  pub zero :
      (c : Calls S) (xt : ℕ) (s : State S) (n : Cell) (cells : List Cell) → n.0 ≡ 0 →
      plan_in s xt ≡ Written (word.Throws throws.Throw) → s.board.stack ≡ n ∷ cells →
      executed c xt s ≡ done (with_stack cells s)

-- `]` changes whether words are compiled and the cell `state` that says so, `immediate` the words, `$find` the data
-- stack and `words` the printed text, and nothing else.
pub record DictionaryWordsKeep (S : Type 0) : Type 0 where
  pub bracket :
      (c : Calls S) (xt : ℕ) (s : State S) (n : ℕ) →
      plan_in s xt ≡ Written (word.Dictionary dictionary.EnterCompiling) → s.words.defining ≡ Some n →
      executed c xt s ≡ done (with_compiling true s)
  pub mark :
      (c : Calls S) (xt : ℕ) (s : State S) (w : WordsState) →
      plan_in s xt ≡ Written (word.Dictionary dictionary.Immediate) → immediate_entry s.words ≡ Ok w →
      executed c xt s ≡ done (with_words w s)
  pub find :
      (c : Calls S) (xt : ℕ) (s : State S) (cells : List Cell) →
      plan_in s xt ≡ Written (word.Dictionary dictionary.Find) → find_of s.words s.board s.board.stack ≡ Ok cells →
      executed c xt s ≡ done (with_stack cells s)
  pub names :
      (c : Calls S) (xt : ℕ) (s : State S) → plan_in s xt ≡ Written (word.Dictionary dictionary.PrintWords) →
      executed c xt s
      ≡ done (with_board (record s.board {
        console = printed s.board.console (words_text s.board.tree s.board.active.«package» s.words.dictionary);
      }) s)
