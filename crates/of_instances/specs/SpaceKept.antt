-- What words leave of the data space: it stays sound, the images that run stand as they are, and the properties of the
-- tree stay stored (IEEE 1275-1994, 3.2.2.1 and 5.2.2).
use Rattle.std.specs.Prelude.{◌≡◌, Ok}
use Rattle.of_cells.specs.declared.cells.Cell.{Cell}
use Rattle.of_fcodes.specs.declared.words.PropertiesWord.{PropertiesWord}
use Rattle.of_fcodes.specs.declared.words.TreeWord.{TreeWord}
use Rattle.of_memory.specs.DataSpace.{DataSpace, IsSound}
use Rattle.of_memory.specs.ImageRegion.{KeepsImages}
use Rattle.of_nodes.specs.Stored.{AreStored}
use Rattle.of_nodes.specs.declared.phandles.Phandle.{Phandle}
use Rattle.of_ihandles.specs.Table.{InstanceTable}
use Rattle.of_board.specs.Active.{with_instances}
use Rattle.of_board.specs.declared.board.Board.{Board}
use Rattle.of_instances.specs.Calling.{new_instance}
use Rattle.of_instances.specs.PropertyWords.{properties_entry}
use Rattle.of_instances.specs.TreeWords.{tree_entry}

-- what is left of a board has a sound data space with the same images, and its properties are stored if they were
pub record Keeps (w after : Board) : Type 0 where
  pub sound : IsSound after.memory
  pub images : KeepsImages w.memory after.memory
  pub stored : AreStored w.memory w.tree → AreStored after.memory after.tree

-- What the words over properties, packages and instances leave of a board with a sound data space.
pub record WordsKeepTheSpace : Type 0 where
  pub properties : (word : PropertiesWord) (w after : Board) → IsSound w.memory → properties_entry word w ≡ Ok after
      → Keeps w after
  pub tree : (word : TreeWord) (w after : Board) → IsSound w.memory → tree_entry word w ≡ Ok after → Keeps w after
  -- and the opening of an instance
  pub opened : (w : Board) (ph : Phandle) (address length ih : Cell) (x : InstanceTable × DataSpace)
      → IsSound w.memory → new_instance w ph address length ≡ Ok (ih, x) → Keeps w (with_instances w x)
