-- The images that run and the device tree stand as they are while these words run, and the data space stays sound
-- (IEEE 1275-1994, 3.2.2.1 and 5.2.2).
use Rattle.std.specs.Prelude.{◌≡◌, Option, Ok}
use Rattle.of_fcodes.specs.declared.words.DevicesWord.{DevicesWord}
use Rattle.of_fcodes.specs.declared.words.KeysWord.{KeysWord}
use Rattle.of_memory.specs.DataSpace.{IsSound}
use Rattle.of_memory.specs.ImageRegion.{KeepsImages}
use Rattle.of_memory.specs.PropertyRegion.{KeepsProperties}
use Rattle.of_board.specs.declared.board.Board.{Board}
use Rattle.of_asking.specs.declared.query.Answer.{Answer}
use Rattle.of_asking.specs.Devices.{devices_entry}
use Rattle.of_asking.specs.Keys.{keys_entry}
use Rattle.of_asking.specs.Questions.{Gives}

-- what such a word leaves of a board
pub record Keeps (b after : Board) : Type 0 where
  -- the images and their bytes
  pub images : KeepsImages b.memory after.memory
  -- the properties and their bytes
  pub properties : KeepsProperties b.memory after.memory
  pub tree : after.tree ≡ b.tree
  pub sound : IsSound after.memory

pub record ImagesStayAsked : Type 0 where
  pub devices : (word : DevicesWord) (reply : Option Answer) (b after : Board) → IsSound b.memory →
      devices_entry word reply b ≡ Gives (Ok after) → Keeps b after
  pub keys : (word : KeysWord) (reply : Option Answer) (b after : Board) → IsSound b.memory →
      keys_entry word reply b ≡ Gives (Ok after) → Keeps b after
