-- The images that run stand as they are while words run (IEEE 1275-1994, 5.2.2).
use Rattle.std.specs.Prelude.{◌≡◌, Ok}
use Rattle.of_fcodes.specs.declared.words.Word.{Word}
use Rattle.of_memory.specs.DataSpace.{IsSound}
use Rattle.of_memory.specs.ImageRegion.{KeepsImages}
use Rattle.of_board.specs.declared.board.Board.{Board}
use Rattle.of_words.specs.Words.{word_entry}

-- What an ordinary word leaves keeps the images.
abbrev pub ImagesStand : Type 0
ImagesStand = (w : Word) (m after : Board) → IsSound m.memory → word_entry w m ≡ Ok after
    → KeepsImages m.memory after.memory
