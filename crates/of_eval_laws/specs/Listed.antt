-- What words and steps throw has a listed number, unless a program throws it by `throw`; and -22 is thrown at the end
-- of a definition alone.
use Rattle.std.specs.Prelude.{◌≡◌, ◌⊎◌, ℕ, Bool, true, false, ◌&&◌, not, List, ◌∷◌, Option, Some, None, Result, Ok}
use Rattle.std.specs.Prelude.{Err, if◌then◌else◌}
use Rattle.of_cells.specs.declared.cells.Cell.{Cell}
use Rattle.of_cells.specs.Numbers.{signed}
use Rattle.of_code.specs.declared.item.Item.{Item}
use Rattle.of_code.specs.declared.item.Item.TheVariants.{Call, Operation}
use Rattle.of_code.specs.declared.item.Place.{Place}
use Rattle.of_stacks.specs.declared.return_item.Continuation.{Continuation}
use Rattle.of_stacks.specs.declared.return_item.Continuation.TheVariants as continuation
use Rattle.of_stacks.specs.declared.return_item.Input.{Input}
use Rattle.of_stacks.specs.declared.return_item.Input.TheVariants as input
use Rattle.of_stacks.specs.declared.throws.Throw.{Throw}
use Rattle.of_stacks.specs.Throws.{ThrowsListed, control_mismatch, is_listed}
use Rattle.of_fcodes.specs.declared.console_words.CompilingWord.TheVariants as compiled
use Rattle.of_fcodes.specs.declared.token_table.TokenEntry.{TokenEntry}
use Rattle.of_fcodes.specs.declared.words.StreamWord.TheVariants as stream
use Rattle.of_fcodes.specs.declared.words.ThrowsWord.TheVariants as throws
use Rattle.of_fcodes.specs.declared.words.Word.{Word}
use Rattle.of_fcodes.specs.declared.words.Word.TheVariants as word
use Rattle.of_fcodes.specs.Lookup.{word_numbered}
use Rattle.of_fcodes.specs.Tokens.{entry_in}
use Rattle.of_stream.specs.declared.stream.OffsetSize.{OffsetSize}
use Rattle.of_stream.specs.Sizes.{size_behind}
use Rattle.of_stream.specs.Decoding.{Argument, Nothing, Token, token_from}
use Rattle.of_memory.specs.Images.{latest_image}
use Rattle.of_text.specs.declared.words.Found.{Found}
use Rattle.of_text.specs.declared.words.TextWord.{TextWord}
use Rattle.of_text.specs.declared.words.TextWord.TheVariants as text
use Rattle.of_compile.specs.Structured.{Definitions}
use Rattle.of_compile.specs.Coding.{Coding}
use Rattle.of_board.specs.declared.board.Board.{Board}
use Rattle.of_eval.specs.Executing.{Call, Catch, Execute, Open, Plan, Written, plan_in}
use Rattle.of_state.specs.State.{Calls, State, flat_calls, with_next}
use Rattle.of_eval.specs.Reading.{read_on}
use Rattle.of_interpret.specs.Reading.{read_from, word_at}
use Rattle.of_steps.specs.Steps.{due}
use Rattle.of_words.specs.Words.{word_entry}
use Rattle.of_eval_laws.specs.Structured.{structured_calls}

-- the throws of the table are listed
pub record WordsThrowListed : Type 0 where
  pub words : (w : Word) (m : Board) → ThrowsListed (word_entry w m)

-- ---- what comes next

-- the token that is read next, if one is
abbrev pub token_of : Option (Token × ℕ) → Option Token
token_of None = None
token_of (Some x) = Some x.0

abbrev pub token_read : {S : Type 0} → Input → State S → Option Token
token_read (input.Image size position) s = token_of (token_from (latest_image s.board.memory) position size)
token_read (input.Text position) s = None
token_read input.Nothing s = None

-- the plan of an FCode that names a word, if that is executed, by the plans of execution tokens
abbrev pub plan_named : Option TokenEntry → Bool → (ℕ → Plan) → Option Plan
plan_named None compiling plans = None
plan_named (Some e) compiling plans = if compiling && not e.immediate then None else Some (plans e.xt)

abbrev pub plan_bare : Option Word → Option TokenEntry → Bool → (ℕ → Plan) → Option Plan
plan_bare (Some (word.Stream w)) e compiling plans = None
plan_bare w e compiling plans = plan_named e compiling plans

abbrev pub plan_with : Argument → Option Word → Option TokenEntry → Bool → (ℕ → Plan) → Option Plan
plan_with Nothing w e compiling plans = plan_bare w e compiling plans
plan_with a w e compiling plans = None

-- of a token that was read, in the state in which the image is read on behind it
abbrev pub plan_read : {S : Type 0} → Option (Token × ℕ) → OffsetSize → State S → Option Plan
plan_read None size s = None
plan_read (Some x) size s =
    plan_with x.0.argument (word_numbered x.0.code.0) (entry_in s.words.table x.0.code.0) s.flow.is_compiling
    (plan_in (read_on (size_behind x.0.code.0 size) x.1 s))

-- of a word of a text, if it executes a word
abbrev pub plan_said : TextWord → Bool → (ℕ → Plan) → Option Plan
plan_said (text.Found xt immediate) compiling plans = if compiling && not immediate then None else Some (plans xt.0)
plan_said w compiling plans = None

-- the same with what it parses, in the state in which the text is read on behind it
abbrev pub plan_spoken : {S : Type 0} → Found → State S → Option Plan
plan_spoken x s = plan_said x.word s.flow.is_compiling (plan_in (read_from x.next s))

-- and of what stands next in what is read
abbrev pub plan_reading : {S : Type 0} → Input → State S → Option Plan
plan_reading (input.Image size position) s = plan_read (token_from (latest_image s.board.memory) position size) size s
plan_reading (input.Text position) s = plan_spoken (word_at position s) s
plan_reading input.Nothing s = None

-- and of an item
abbrev pub plan_of_item : Item → (ℕ → Plan) → Option Plan
plan_of_item (Operation xt) plans = Some (plans xt.0)
plan_of_item (Call xt) plans = Some (plans xt.0)
plan_of_item i plans = None

abbrev pub plan_fetched : {S : Type 0} → Option (Item × Place) → State S → Option Plan
plan_fetched None s = None
plan_fetched (Some x) s = plan_of_item x.0 (plan_in (with_next (continuation.Code x.1.cell) s))

-- the plan that is carried out next, if one is
abbrev pub plan_next : {S : Type 0} → Calls S → Continuation → State S → Option Plan
plan_next c continuation.Source s = plan_reading s.flow.reading.input s
plan_next c (continuation.Code n) s = plan_fetched (c.fetch s.code (record { cell = n })) s

-- the cell that `throw` takes where a plan comes to it, with these cells on the data stack (Forth 2012, 9.6.1.2275)
abbrev pub cell_in : Plan → List Cell → Option Cell
cell_in (Written (word.Throws throws.Throw)) (x ∷ cells) = Some x
cell_in (Execute left p) cells = cell_in p left
cell_in (Catch left p) cells = cell_in p left
cell_in (Call left d ih p) cells = cell_in p left
cell_in (Open x p) cells = cell_in p cells
cell_in p cells = None

abbrev pub cell_of : Option Plan → List Cell → Option Cell
cell_of None cells = None
cell_of (Some p) cells = cell_in p cells

-- the cell that `throw` takes next, if it runs next
abbrev pub cell_next : {S : Type 0} → Calls S → Continuation → State S → Option Cell
cell_next c to s = cell_of (plan_next c to s) s.board.stack

-- a word of the stream ends a definition
abbrev pub is_semicolon : Option Word → Bool
is_semicolon (Some (word.Stream stream.Semicolon)) = true
is_semicolon w = false

abbrev pub closes : Option Token → Bool
closes None = false
closes (Some x) = is_semicolon (word_numbered x.code.0)

-- so does `;` of a text
abbrev pub is_text_semicolon : TextWord → Bool
is_text_semicolon (text.Compiling compiled.Semicolon) = true
is_text_semicolon w = false

abbrev pub closes_reading : {S : Type 0} → Input → State S → Bool
closes_reading (input.Image size position) s = closes (token_read (input.Image size position) s)
closes_reading (input.Text position) s = is_text_semicolon (word_at position s).word
closes_reading input.Nothing s = false

-- whether `b(;)` or `;` comes next
abbrev pub closes_next : {S : Type 0} → Continuation → State S → Bool
closes_next continuation.Source s = closes_reading s.flow.reading.input s
closes_next (continuation.Code n) s = false

-- ---- what is thrown

-- a listed throw; or, where a definition is ended, -22, which is listed nowhere; or the number of the cell that `throw`
-- takes
abbrev pub IsRaised : Option Cell → Bool → Throw → Type 0
IsRaised taken ends t =
    (is_listed t ≡ true)
    ⊎ (((ends ≡ true) × (t ≡ control_mismatch)) ⊎ ((x : Cell) × (taken ≡ Some x) × (t.0 ≡ signed x)))

-- what is thrown is such a throw, if something is
abbrev pub Raises : Option Cell → Bool → Result (Unit {0}) Throw → Type 0
Raises taken ends (Ok x) = Unit {0}
Raises taken ends (Err t) = IsRaised taken ends t

-- The throws of tokens, of the words of a text and of items are listed, but for -22 at `b(;)` and `;`, and for what
-- `throw` throws where it runs.
pub record StepsThrowListed : Type 0 where
  -- where definitions are cells
  pub flat :
      (s : State Coding) →
      Raises (cell_next flat_calls s.flow.next s) (closes_next s.flow.next s) (due flat_calls s.flow.next s).ended
  -- where they are structured bodies
  pub structured :
      (s : State Definitions) →
      Raises (cell_next structured_calls s.flow.next s) (closes_next s.flow.next s)
      (due structured_calls s.flow.next s).ended
  -- -22 is no listed number
  pub mismatch : is_listed control_mismatch ≡ false
