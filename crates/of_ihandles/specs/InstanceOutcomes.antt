-- Which faults are for memory.
use Rattle.std.specs.Prelude.{◌≡◌}
use Rattle.of_ihandles.specs.declared.instance_fault.InstanceFault.{InstanceFault}
use Rattle.of_ihandles.specs.declared.instance_fault.InstanceFault.TheVariants.{NoMemory}

-- a growth was refused
abbrev pub IsForMemory : InstanceFault → Type 0
IsForMemory e = e ≡ NoMemory
