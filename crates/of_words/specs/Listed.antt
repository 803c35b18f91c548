-- What the console's words throw has a listed number.
use Rattle.of_fcodes.specs.declared.console_words.ConsoleWord.{ConsoleWord}
use Rattle.of_stacks.specs.Throws.{ThrowsListed}
use Rattle.of_board.specs.declared.board.Board.{Board}
use Rattle.of_words.specs.ConsoleWords.{console_entry}

pub record ThrowListedNumbers : Type 0 where
  pub console : (w : ConsoleWord) (m : Board) → ThrowsListed (console_entry w m)
