-- What is kept while a source runs over structured definitions: all is placed, the data space is sound, and of the
-- images that stand in it the one that began first is the source's (IEEE 1275-1994, 5.2.2).
use Rattle.std.specs.Prelude.{◌≡◌, List, [], ◌∷◌, ℕ}
use Rattle.of_compile.specs.Structured.{Definitions}
use Rattle.of_state.specs.State.{State}
use Rattle.of_eval_laws.specs.Placed.{AllPlaced}
use Rattle.of_eval_laws.specs.Readings.{HasItsImages}
use Rattle.of_eval_laws.specs.Running.{RunningImage, running}
use Rattle.of_eval_laws.specs.Sound.{HasSoundSpace}

-- the image that began first has these bytes
abbrev pub BeganFirst : List ℕ → List RunningImage → Type 0
BeganFirst image [] = ⊥
BeganFirst image (r ∷ []) = r.bytes ≡ image
BeganFirst image (r ∷ rs) = BeganFirst image rs

pub record IsKept (image : List ℕ) (s : State Definitions) : Type 0 where
  pub placed : AllPlaced s
  pub sound : HasSoundSpace s
  pub images : HasItsImages s
  pub first : BeganFirst image (running s.board.memory)
