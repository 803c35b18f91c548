-- What an opening makes: a new instance of the package, below the current one, with the arguments that stood in memory
-- (IEEE 1275-1994, annex A, `open-package`).
use Rattle.std.specs.Prelude.{◌≡◌, Ok}
use Rattle.of_cells.specs.declared.cells.Cell.{Cell}
use Rattle.of_memory.specs.Access.{read_bytes}
use Rattle.of_memory.specs.DataSpace.{DataSpace, IsSound}
use Rattle.of_nodes.specs.declared.phandles.Phandle.{Phandle}
use Rattle.of_nodes.specs.declared.properties.Span.{Span}
use Rattle.of_ihandles.specs.Ihandles.{IsOpened}
use Rattle.of_ihandles.specs.Instances.{argument_span}
use Rattle.of_ihandles.specs.OwnedBlocks.{OwnBlocks}
use Rattle.of_ihandles.specs.OwnSlots.{HasSlots}
use Rattle.of_ihandles.specs.Table.{InstanceTable}
use Rattle.of_board.specs.declared.board.Board.{Board}
use Rattle.of_instances.specs.Calling.{new_instance}

pub record InstancesOpen : Type 0 where
  -- Its ihandle was no instance's before; its package is the one that was given, and its parent the current instance;
  -- every other ihandle is that of the same instance as before, or of none.
  pub below :
      (w : Board) (ph : Phandle) (address length ih : Cell) (x : InstanceTable × DataSpace) →
      new_instance w ph address length ≡ Ok (ih, x) → IsOpened w.instances x.0 ph w.active.my_self ih
  -- Its arguments are the bytes that stood there, which could be read, in a block of its own.
  pub text :
      (w : Board) (ph : Phandle) (address length ih : Cell) (x : InstanceTable × DataSpace) (a : Span) →
      IsSound w.memory → OwnBlocks w.instances w.memory → HasSlots w.instances →
      new_instance w ph address length ≡ Ok (ih, x) → argument_span x.0 ih ≡ Ok a →
      read_bytes x.1 a.address.0 a.length.0 ≡ read_bytes w.memory address.0 length.0
