-- Which faults are for memory.
use Rattle.std.specs.Prelude.{◌≡◌}
use Rattle.of_nodes.specs.declared.fault.NodeFault.{NodeFault}
use Rattle.of_nodes.specs.declared.fault.NodeFault.TheVariants.{NoMemory}

-- a growth was refused
abbrev pub IsForMemory : NodeFault → Type 0
IsForMemory e = e ≡ NoMemory
