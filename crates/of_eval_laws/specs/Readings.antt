-- The images that stand in the image region are as many as those that are being read (IEEE 1275-1994, 5.2.2, 5.2.2.5,
-- 5.3.3.1).
use Rattle.std.specs.Prelude.{◌≡◌, ◌⊎◌, ℕ, Bool, true, false, List, [], ◌∷◌, length, Option, Some, None, Ok}
use Rattle.of_stacks.specs.declared.throws.Throw.{Throw}
use Rattle.of_stacks.specs.declared.return_item.Input.{Input}
use Rattle.of_stacks.specs.declared.return_item.Input.TheVariants as input
use Rattle.of_stacks.specs.declared.return_item.ReturnItem.{ReturnItem}
use Rattle.of_stacks.specs.declared.return_item.ReturnItem.TheVariants.{Return, Loop, User, Handler, Source, Caller}
use Rattle.of_stacks.specs.Unwinding.{latest_handler}
use Rattle.of_fcodes.specs.declared.words.Word.{Word}
use Rattle.of_nodes.specs.declared.phandles.Phandle.{Phandle}
use Rattle.of_flow.specs.declared.control_state.Flow.{Flow}
use Rattle.of_board.specs.declared.board.Board.{Board}
use Rattle.of_state.specs.Loading.{begun, first_state, line_begun}
use Rattle.of_state.specs.Settling.{settled}
use Rattle.of_state.specs.State.{Calls, State, with_board}
use Rattle.of_steps.specs.Steps.{due, stepped, steps_from}
use Rattle.of_words.specs.Words.{word_entry}
use Rattle.of_eval_laws.specs.Returning.{is_return_top}
use Rattle.of_eval_laws.specs.Sound.{HasSoundSpace}
use Rattle.of_eval_laws.specs.Throws.{image_more}

-- ---- what is being read

-- how many images are to be read on with: one for each source that keeps the reading of one
abbrev pub kept_readings : List ReturnItem → ℕ
kept_readings [] = 0
kept_readings (Source r ∷ items) = image_more r.input (kept_readings items)
kept_readings (Return to ∷ items) = kept_readings items
kept_readings (Loop l ∷ items) = kept_readings items
kept_readings (User x ∷ items) = kept_readings items
kept_readings (Handler h ∷ items) = kept_readings items
kept_readings (Caller d ∷ items) = kept_readings items

-- how many images are being read over these items: those, and one more if what is read now is one
abbrev pub readings_over : Input → List ReturnItem → ℕ
readings_over now items = image_more now (kept_readings items)

abbrev pub readings : Flow → ℕ
readings f = readings_over f.reading.input f.items

abbrev pub is_image : Input → Bool
is_image input.Nothing = false
is_image (input.Text position) = false
is_image (input.Image size position) = true

-- What is read began inside what its source keeps: control goes back there at the return beneath the source, or no
-- image is read there. What was read first of all has no source, and is no image.
abbrev pub BeganInside : Input → List ReturnItem → Type 0
BeganInside now [] = is_image now ≡ false
BeganInside now (Source r ∷ items) =
    ((is_return_top items ≡ true) ⊎ (readings_over r.input items ≡ 0)) × BeganInside r.input items
BeganInside now (Return to ∷ items) = BeganInside now items
BeganInside now (Loop l ∷ items) = BeganInside now items
BeganInside now (User x ∷ items) = BeganInside now items
BeganInside now (Handler h ∷ items) = BeganInside now items
BeganInside now (Caller d ∷ items) = BeganInside now items

-- The images that stand are those that are being read:
pub record HasItsImages {S : Type 0} (s : State S) : Type 0 where
  -- they are as many
  pub as_many : length s.board.memory.images ≡ readings s.flow
  -- each has a source beneath it, which is cut where it ends
  pub inside : BeganInside s.flow.reading.input s.flow.items
  -- and none is read where nothing runs
  pub idle : s.flow.is_running ≡ false → readings s.flow ≡ 0

-- ---- the law

-- The images that stand are those that are being read, at first and whatever is done, over any code of definitions.
pub record ImagesAreReadings (S : Type 0) : Type 0 where
  pub first : (code : S) → HasItsImages (first_state code)
  -- an image that begins where nothing runs, or is refused
  pub begun :
      (image : List ℕ) (node : Phandle) (s : State S) → HasSoundSpace s → HasItsImages s → s.flow.is_running ≡ false →
      HasItsImages (begun image node s)
  -- a console line that begins where nothing runs
  pub line :
      (text : List ℕ) (s : State S) → HasItsImages s → s.flow.is_running ≡ false → HasItsImages (line_begun text s)
  -- an ordinary word
  pub words :
      (w : Word) (after : Board) (s : State S) → HasSoundSpace s → HasItsImages s →
      word_entry w s.board ≡ Ok after → HasItsImages (with_board after s)
  -- a token or an item where something runs, whatever it throws
  pub done :
      (c : Calls S) (s : State S) → HasSoundSpace s → HasItsImages s → s.flow.is_running ≡ true →
      HasItsImages (due c s.flow.next s).state
  -- a throw that no `catch` takes leaves none
  pub fallen :
      (c : Calls S) (t : Throw) (s : State S) → HasItsImages s → latest_handler s.flow.items ≡ None →
      (settled c s.flow.items (Some t) s).board.memory.images ≡ []
  -- the end of a step
  pub settled :
      (c : Calls S) (thrown : Option Throw) (s : State S) → HasItsImages s →
      HasItsImages (settled c s.flow.items thrown s)
  -- a step, and any number of them
  pub step : (c : Calls S) (s : State S) → HasSoundSpace s → HasItsImages s → HasItsImages (stepped c s)
  pub steps :
      (c : Calls S) (n : ℕ) (s after : State S) → HasSoundSpace s → HasItsImages s → steps_from c n s ≡ Some after →
      HasItsImages after
