-- What was printed stays, and what is printed goes behind it (IEEE 1275-1994, 7.4.8 and annex A; Forth 2012, 6.1.1320,
-- 6.1.2310).
use Rattle.std.specs.Prelude.{◌≡◌, ℕ, List, ◌++◌, Option, Some, Ok}
use Rattle.of_asking.specs.declared.query.Answer.{Answer}
use Rattle.of_board.specs.declared.board.Board.{Board}
use Rattle.of_fcodes.specs.declared.words.Word.{Word}
use Rattle.of_nodes.specs.declared.phandles.Phandle.{Phandle}
use Rattle.of_stacks.specs.declared.return_item.ReturnItem.{ReturnItem}
use Rattle.of_stacks.specs.declared.throws.Throw.{Throw}
use Rattle.of_state.specs.Loading.{begun, line_begun}
use Rattle.of_state.specs.Settling.{settled}
use Rattle.of_state.specs.State.{Calls, State}
use Rattle.of_steps.specs.Steps.{answered, due, stepped, steps_from}
use Rattle.of_words.specs.Words.{word_entry}

-- the one text begins the other
abbrev pub Begins : List ℕ → List ℕ → Type 0
Begins part whole = (rest : List ℕ) × (whole ≡ part ++ rest)

-- all that was printed on a board
abbrev pub output_on : Board → List ℕ
output_on b = b.console.text

-- and in a state
abbrev pub output : {S : Type 0} → State S → List ℕ
output s = output_on s.board

-- over any code of definitions
pub record PrintedStays (S : Type 0) : Type 0 where
  -- an image that begins, or is refused, prints nothing, nor does a console line that begins
  pub begun : (image : List ℕ) (node : Phandle) (s : State S) → output (begun image node s) ≡ output s
  pub line : (text : List ℕ) (s : State S) → output (line_begun text s) ≡ output s
  -- an ordinary word
  pub words :
      (w : Word) (b after : Board) → word_entry w b ≡ Ok after → Begins (output_on b) (output_on after)
  -- a token, a word of a text or an item, whatever it throws
  pub done : (c : Calls S) (s : State S) → Begins (output s) (output (due c s.flow.next s).state)
  -- the end of a step
  pub settled :
      (c : Calls S) (items : List ReturnItem) (thrown : Option Throw) (s : State S) →
      Begins (output s) (output (settled c items thrown s))
  -- a step, one that asked, made with its answer, and any number of steps
  pub step : (c : Calls S) (s : State S) → Begins (output s) (output (stepped c s))
  pub answered : (c : Calls S) (answer : Answer) (s : State S) → Begins (output s) (output (answered c answer s))
  pub steps :
      (c : Calls S) (n : ℕ) (s after : State S) → steps_from c n s ≡ Some after → Begins (output s) (output after)
