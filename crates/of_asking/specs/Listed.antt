-- What these words throw has a listed number.
use Rattle.std.specs.Prelude.{Option}
use Rattle.of_fcodes.specs.declared.words.DevicesWord.{DevicesWord}
use Rattle.of_fcodes.specs.declared.words.KeysWord.{KeysWord}
use Rattle.of_stacks.specs.Throws.{ThrowsListed}
use Rattle.of_board.specs.declared.board.Board.{Board}
use Rattle.of_asking.specs.declared.query.Answer.{Answer}
use Rattle.of_asking.specs.Devices.{devices_entry}
use Rattle.of_asking.specs.Keys.{keys_entry}
use Rattle.of_asking.specs.Questions.{Asking, Asks, Gives}

-- a throw of a word that doesn't ask is a listed one
abbrev pub AsksOrThrowsListed : Asking Board → Type 0
AsksOrThrowsListed (Gives r) = ThrowsListed r
AsksOrThrowsListed (Asks q) = Unit {0}

pub record ThrowListedNumbers : Type 0 where
  pub devices : (word : DevicesWord) (reply : Option Answer) (b : Board) →
      AsksOrThrowsListed (devices_entry word reply b)
  pub keys : (word : KeysWord) (reply : Option Answer) (b : Board) → AsksOrThrowsListed (keys_entry word reply b)
