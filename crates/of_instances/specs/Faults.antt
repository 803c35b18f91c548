-- What a word throws for a fault of the device tree, of an instance or of a property array.
use Rattle.std.specs.Prelude.{Result, Ok, Err}
use Rattle.of_stacks.specs.declared.stop.Stop.{Stop}
use Rattle.of_stacks.specs.declared.stop.Stop.TheVariants.{Thrown, NoMemory as Refused}
use Rattle.of_stacks.specs.declared.throws.Throw.{Throw}
use Rattle.of_stacks.specs.Throws.{aborted, bad_handle, dictionary_overflow, invalid_address, invalid_argument}
use Rattle.of_stacks.specs.Throws.{invalid_name, no_instance, short_property}
use Rattle.of_board.specs.declared.device_fault.DeviceFault.{DeviceFault}
use Rattle.of_board.specs.declared.device_fault.DeviceFault.TheVariants.{Instance, Node}
use Rattle.of_ihandles.specs.declared.instance_fault.InstanceFault.{InstanceFault}
use Rattle.of_ihandles.specs.declared.instance_fault.InstanceFault.TheVariants as instance
use Rattle.of_nodes.specs.declared.fault.NodeFault.{NodeFault}
use Rattle.of_nodes.specs.declared.fault.NodeFault.TheVariants.{BadName, NoMemory, NoNode, PropertyFull, TooManyNodes}
use Rattle.of_props.specs.declared.fault.PropFault.{PropFault}
use Rattle.of_props.specs.declared.fault.PropFault.TheVariants.{Address, Full, NotAdjacent, Short}

-- what a word throws for a fault of the tree; a refused growth of memory is no throw, and not asked for here
abbrev pub node_throw : NodeFault → Throw
node_throw NoNode = bad_handle
node_throw BadName = invalid_name
node_throw PropertyFull = dictionary_overflow
node_throw TooManyNodes = dictionary_overflow
node_throw NoMemory = aborted

-- why a word stops for a fault of the tree
abbrev pub stop_of : NodeFault → Stop
stop_of NoNode = Thrown bad_handle
stop_of BadName = Thrown invalid_name
stop_of PropertyFull = Thrown dictionary_overflow
stop_of TooManyNodes = Thrown dictionary_overflow
stop_of NoMemory = Refused

-- what a word throws for a fault of an instance; a refused growth of memory is no throw, and not asked for here
abbrev pub instance_throw : InstanceFault → Throw
instance_throw instance.NoInstance = no_instance
instance_throw instance.Full = dictionary_overflow
instance_throw instance.NoMemory = aborted

-- why a word stops for a fault of an instance
abbrev pub instance_stop : InstanceFault → Stop
instance_stop instance.NoInstance = Thrown no_instance
instance_stop instance.Full = Thrown dictionary_overflow
instance_stop instance.NoMemory = Refused

-- what `new-device` throws, and why it stops
abbrev pub device_throw : DeviceFault → Throw
device_throw (Node fault) = node_throw fault
device_throw (Instance fault) = instance_throw fault

abbrev pub device_stop : DeviceFault → Stop
device_stop (Node fault) = stop_of fault
device_stop (Instance fault) = instance_stop fault

-- what a word throws for a fault of a property array
abbrev pub array_throw : PropFault → Throw
array_throw Address = invalid_address
array_throw NotAdjacent = invalid_argument
array_throw Short = short_property
array_throw Full = dictionary_overflow

-- the answer of a call on the tree, with its fault as a throw
abbrev pub of_tree : {A : Type 0} → Result A NodeFault → Result A Throw
of_tree (Ok x) = Ok x
of_tree (Err fault) = Err (node_throw fault)

-- the answer of a call on instances, with its fault as a throw
abbrev pub of_instance : {A : Type 0} → Result A InstanceFault → Result A Throw
of_instance (Ok x) = Ok x
of_instance (Err fault) = Err (instance_throw fault)

-- what `new-device` leaves, with its fault as a throw
abbrev pub of_device : {A : Type 0} → Result A DeviceFault → Result A Throw
of_device (Ok x) = Ok x
of_device (Err fault) = Err (device_throw fault)

-- the answer of a call on property arrays, with its fault as a throw
abbrev pub of_array : {A : Type 0} → Result A PropFault → Result A Throw
of_array (Ok x) = Ok x
of_array (Err fault) = Err (array_throw fault)
