-- What the console's words leave of the data space: it stays sound, the images that run stand as they are, and the
-- properties of the tree stay stored (IEEE 1275-1994, 3.2.2.1 and 5.2.2).
use Rattle.std.specs.Prelude.{◌≡◌, Ok}
use Rattle.of_fcodes.specs.declared.console_words.ConsoleWord.{ConsoleWord}
use Rattle.of_memory.specs.DataSpace.{IsSound}
use Rattle.of_board.specs.declared.board.Board.{Board}
use Rattle.of_instances.specs.SpaceKept.{Keeps}
use Rattle.of_words.specs.ConsoleWords.{console_entry}

-- What they leave of a board with a sound data space.
pub record ConsoleWordsKeepTheSpace : Type 0 where
  pub console : (w : ConsoleWord) (m after : Board) → IsSound m.memory → console_entry w m ≡ Ok after → Keeps m after
