-- The data space stays sound: it has all its bytes, what is taken of each region lies in that region, and no two blocks
-- or images that stand in it meet (IEEE 1275-1994, 5.2.2; Forth 2012, 3.3.3). And the properties of the tree stay
-- stored in it (IEEE 1275-1994, 3.2.2.1).
use Rattle.std.specs.Prelude.{◌≡◌, ℕ, List, [], ◌∷◌, Option, Some, Ok}
use Rattle.of_stacks.specs.declared.throws.Throw.{Throw}
use Rattle.of_stacks.specs.declared.return_item.ReturnItem.{ReturnItem}
use Rattle.of_fcodes.specs.declared.words.Word.{Word}
use Rattle.of_memory.specs.DataSpace.{IsSound}
use Rattle.of_memory.specs.SoundChanges.{AreBytes}
use Rattle.of_nodes.specs.Stored.{AreStored}
use Rattle.of_nodes.specs.declared.phandles.Phandle.{Phandle}
use Rattle.of_board.specs.declared.board.Board.{Board}
use Rattle.of_state.specs.Loading.{begun, first_board, first_state, line_begun}
use Rattle.of_state.specs.Settling.{settled}
use Rattle.of_state.specs.State.{Calls, State, with_board}
use Rattle.of_steps.specs.Steps.{due, stepped, steps_from}
use Rattle.of_words.specs.Words.{word_entry}

-- each text that is read is of bytes
abbrev pub AreTexts : List (List ℕ) → Type 0
AreTexts [] = Unit {0}
AreTexts (text ∷ texts) = AreBytes text × AreTexts texts

-- a state whose data space is sound, and whose texts are of bytes: strings of a text are put into the data space
abbrev pub HasSoundSpace : {S : Type 0} → State S → Type 0
HasSoundSpace s = IsSound s.board.memory × AreTexts s.flow.texts

-- what is left of a state is such a one, and its properties are stored if they were
pub record StaysSound {S : Type 0} (s after : State S) : Type 0 where
  pub sound : HasSoundSpace after
  pub stored : AreStored s.board.memory s.board.tree → AreStored after.board.memory after.board.tree

-- The data space is sound at first, and has the properties of the first tree; and all that is done leaves it so, over
-- any code of definitions.
pub record SpaceStaysSound (S : Type 0) : Type 0 where
  pub first : (code : S) → HasSoundSpace (first_state code)
  pub first_stored : AreStored first_board.memory first_board.tree
  -- an image that begins, or is refused
  pub begun :
      (image : List ℕ) (node : Phandle) (s : State S) → HasSoundSpace s → AreBytes image →
      StaysSound s (begun image node s)
  -- a console line that begins
  pub line : (text : List ℕ) (s : State S) → HasSoundSpace s → AreBytes text → StaysSound s (line_begun text s)
  -- an ordinary word
  pub words :
      (w : Word) (after : Board) (s : State S) → HasSoundSpace s → word_entry w s.board ≡ Ok after →
      StaysSound s (with_board after s)
  -- a token, a word of a text or an item, whatever it throws
  pub done : (c : Calls S) (s : State S) → HasSoundSpace s → StaysSound s (due c s.flow.next s).state
  -- the end of a step
  pub settled :
      (c : Calls S) (items : List ReturnItem) (thrown : Option Throw) (s : State S) → HasSoundSpace s →
      StaysSound s (settled c items thrown s)
  -- a step, and any number of them
  pub step : (c : Calls S) (s : State S) → HasSoundSpace s → StaysSound s (stepped c s)
  pub steps :
      (c : Calls S) (n : ℕ) (s after : State S) → HasSoundSpace s → steps_from c n s ≡ Some after →
      StaysSound s after
