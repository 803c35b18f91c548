-- What these words throw has a listed number.
use Rattle.of_fcodes.specs.declared.words.PropertiesWord.{PropertiesWord}
use Rattle.of_fcodes.specs.declared.words.TreeWord.{TreeWord}
use Rattle.of_stacks.specs.Throws.{ThrowsListed}
use Rattle.of_board.specs.declared.board.Board.{Board}
use Rattle.of_instances.specs.declared.calling.CallingWord.{CallingWord}
use Rattle.of_cells.specs.declared.cells.Cell.{Cell}
use Rattle.of_nodes.specs.declared.phandles.Phandle.{Phandle}
use Rattle.of_instances.specs.Calling.{calling_entry, new_instance}
use Rattle.of_instances.specs.PropertyWords.{properties_entry}
use Rattle.of_instances.specs.TreeWords.{tree_entry}

pub record ThrowListedNumbers : Type 0 where
  pub properties : (word : PropertiesWord) (w : Board) → ThrowsListed (properties_entry word w)
  pub tree : (word : TreeWord) (w : Board) → ThrowsListed (tree_entry word w)
  pub calls : (word : CallingWord) (w : Board) → ThrowsListed (calling_entry word w)
  pub opens : (w : Board) (ph : Phandle) (address length : Cell) → ThrowsListed (new_instance w ph address length)
