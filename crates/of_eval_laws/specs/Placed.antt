-- Control goes on in what is read or in a finished definition, and each step keeps it so.
use Rattle.std.specs.Prelude.{◌≡◌, ◌⊎◌, ℕ, ◌<◌, Bool, false, List, [], ◌∷◌, length, Option, Some, None}
use Rattle.of_stacks.specs.declared.return_item.Continuation.{Continuation}
use Rattle.of_stacks.specs.declared.return_item.LoopExit.{LoopExit}
use Rattle.of_stacks.specs.declared.return_item.LoopExit.TheVariants as exit
use Rattle.of_stacks.specs.declared.return_item.ReturnItem.{ReturnItem}
use Rattle.of_stacks.specs.declared.return_item.ReturnItem.TheVariants.{Return, Loop, User, Handler, Source, Caller}
use Rattle.of_nodes.specs.declared.phandles.Phandle.{Phandle}
use Rattle.of_dict.specs.declared.word.Kind.{Kind}
use Rattle.of_dict.specs.declared.word.Kind.TheVariants as kind
use Rattle.of_dict.specs.declared.word.Word.{Word}
use Rattle.of_dict.specs.Words.{kind_in, word_at}
use Rattle.of_compile.specs.Structured.{Definitions, laid_all}
use Rattle.of_compile.specs.Words.{IsNewestOpen}
use Rattle.of_state.specs.State.{State}
use Rattle.of_steps.specs.Steps.{stepped}
use Rattle.of_state.specs.Loading.{begun, first_state, line_begun}
use Rattle.of_eval_laws.specs.Structured.{IsPlaced, IsPlacedIn, structured_calls, no_definitions}

-- the code cell at which the finished definitions end
abbrev pub finished_end : Definitions → ℕ
finished_end d = length (laid_all d.finished)

-- ---- the return stack

-- `leave` goes past a loop in a finished definition, unless the loop is one of an image
abbrev pub IsExitIn : ℕ → LoopExit → Type 0
IsExitIn end (exit.Code n) = n < end
IsExitIn end (exit.Position n) = Unit {0}

-- where control goes on by an item lies in a finished definition or in what is read
abbrev pub IsItemIn : ℕ → ReturnItem → Type 0
IsItemIn end (Return to) = IsPlacedIn end to
IsItemIn end (Handler h) = IsPlacedIn end h.resume
IsItemIn end (Loop l) = IsExitIn end l.exit
IsItemIn end (User x) = Unit {0}
IsItemIn end (Source r) = Unit {0}
IsItemIn end (Caller d) = Unit {0}

abbrev pub AreItemsIn : ℕ → List ReturnItem → Type 0
AreItemsIn end [] = Unit {0}
AreItemsIn end (item ∷ r) = IsItemIn end item × AreItemsIn end r

-- ---- own words

-- the code cell at which a word begins, if it is a colon definition
abbrev pub code_start : Option Kind → Option ℕ
code_start (Some (kind.Colon start)) = Some start
code_start k = None

abbrev pub start_at : List (Option Word) → ℕ → Option ℕ
start_at words n = code_start (kind_in (word_at words n))

-- ---- a state

-- what is so of these board of a state
pub record ArePlaced
    (to : Continuation) (items : List ReturnItem) (is_compiling : Bool) (words : List (Option Word))
    (defining : Option ℕ) (code : Definitions) : Type 0 where
  -- control goes on in what is read or in a finished definition
  pub goes_on : IsPlacedIn (finished_end code) to
  -- and so it does by each item of the return stack
  pub goes_back : AreItemsIn (finished_end code) items
  -- each colon definition begins in the finished ones, but for the open one
  pub begins :
      (n start : ℕ) → start_at words n ≡ Some start → (start < finished_end code) ⊎ (defining ≡ Some n)
  -- the open one begins where the finished ones end
  pub opened : (n : ℕ) → defining ≡ Some n → start_at words n ≡ Some (finished_end code)
  -- and is the newest word
  pub newest : IsNewestOpen words defining
  -- words are compiled only while a definition is open
  pub compiles : defining ≡ None → is_compiling ≡ false
  -- and only an open one has elements
  pub closed : defining ≡ None → code.elements ≡ []

abbrev pub AllPlaced : State Definitions → Type 0
AllPlaced s =
    ArePlaced s.flow.next s.flow.items s.flow.is_compiling s.words.dictionary s.words.defining s.code

-- ---- the law

-- All is placed from the beginning on, so the next place always lies in what is read or in a finished definition.
pub record StatesStayPlaced : Type 0 where
  -- the evaluator as it is made
  pub first : AllPlaced (first_state no_definitions)
  -- an image that begins
  pub begun : (image : List ℕ) (node : Phandle) (s : State Definitions) → AllPlaced s → AllPlaced (begun image node s)
  -- a console line that begins
  pub line : (text : List ℕ) (s : State Definitions) → AllPlaced s → AllPlaced (line_begun text s)
  -- a step
  pub step : (s : State Definitions) → AllPlaced s → AllPlaced (stepped structured_calls s)
  -- control goes on in what is read or in a finished definition
  pub next : (s : State Definitions) → AllPlaced s → IsPlaced s
