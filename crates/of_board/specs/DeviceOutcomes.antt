-- What a call on the board's `new-device`s answered, and what it left.
use Rattle.std.specs.Prelude.{◌≡◌, ◌⊎◌, Bool, true, false, Option, Some, None, Result, Ok, Err}
use Rattle.of_nodes.specs.declared.fault.NodeFault.TheVariants as node
use Rattle.of_ihandles.specs.declared.instance_fault.InstanceFault.TheVariants as instance
use Rattle.of_board.specs.declared.board.Board.{Board}
use Rattle.of_board.specs.declared.device_fault.DeviceFault.{DeviceFault}
use Rattle.of_board.specs.declared.device_fault.DeviceFault.TheVariants.{Instance, Node}

-- a growth was refused
abbrev pub IsForMemory : DeviceFault → Type 0
IsForMemory e = (e ≡ Node node.NoMemory) ⊎ (e ≡ Instance instance.NoMemory)

-- the call left what `after` says, or answered that there is nothing, and changed nothing
abbrev pub Finishes : Bool → Board → Board → Option Board → Type 0
Finishes true old new after = after ≡ Some new
Finishes false old new after = (after ≡ None) × (new ≡ old)
