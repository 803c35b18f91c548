-- Encoding: bytes put at `here` and allotted, as an array (IEEE 1275-1994, 5.3.5.1).
use Rattle.std.specs.Prelude.{ℕ, ◌-◌, ◌≡◌, List, [], ◌∷◌, ◌++◌, length, Result, Ok, Err, if◌then◌else◌}
use Rattle.byteorder.specs.Endian.{big_bytes}
use Rattle.of_cells.specs.declared.cells.Cell.{Cell}
use Rattle.of_memory.specs.DataSpace.{DataSpace, bytes_from}
use Rattle.of_memory.specs.Access.{are_readable}
use Rattle.of_memory.specs.Growth.{appended}
use Rattle.of_memory.specs.declared.fault.MemFault.{MemFault}
use Rattle.of_memory.specs.declared.fault.MemFault.TheVariants.{Address as Unreadable, Alignment, ReadOnly}
use Rattle.of_memory.specs.declared.fault.MemFault.TheVariants.{Full as NoRoom, BadBlock, NoMemory}
use Rattle.of_props.specs.declared.arrays.Array.{Array}
use Rattle.of_props.specs.declared.fault.PropFault.{PropFault}
use Rattle.of_props.specs.declared.fault.PropFault.TheVariants.{Address, Full}

-- the bytes from an address to `here`, as an array
abbrev pub up_to_here : DataSpace → Cell → Array
up_to_here m a = record { address = a; length = record { 0 = m.here - a.0 } }

-- the fault of bytes that are put at `here`, which have no other than their address and their room
abbrev pub fault_of : MemFault → PropFault
fault_of Unreadable = Address
fault_of Alignment = Address
fault_of ReadOnly = Address
fault_of NoRoom = Full
fault_of BadBlock = Full
fault_of NoMemory = Full

-- n bytes at the address that they were put at, as an array
abbrev pub as_array : ℕ → Result (ℕ × DataSpace) MemFault → Result (Array × DataSpace) PropFault
as_array n (Ok x) = Ok (record { address = record { 0 = x.0 }; length = record { 0 = n } }, x.1)
as_array n (Err fault) = Err (fault_of fault)

-- what encoding bytes answers and leaves
abbrev pub encoded : DataSpace → List ℕ → Result (Array × DataSpace) PropFault
encoded m xs = as_array (length xs) (appended m xs)

-- what encoding bytes of memory and then a tail answers and leaves
abbrev pub copy_encoded : DataSpace → Cell → Cell → List ℕ → Result (Array × DataSpace) PropFault
copy_encoded m a n tail =
    if are_readable m a.0 n.0 then encoded m (bytes_from m a.0 n.0 ++ tail) else Err Address

-- a number, as 4 bytes
abbrev pub int_encoded : DataSpace → Cell → Result (Array × DataSpace) PropFault
int_encoded m x = encoded m (big_bytes 4 x.0)

-- bytes of memory, as they are
abbrev pub bytes_encoded : DataSpace → Cell → Cell → Result (Array × DataSpace) PropFault
bytes_encoded m a n = copy_encoded m a n []

-- bytes of memory as a string: a zero byte ends it
abbrev pub string_encoded : DataSpace → Cell → Cell → Result (Array × DataSpace) PropFault
string_encoded m a n = copy_encoded m a n (0 ∷ [])

-- the bytes of cells, 4 for each
abbrev pub phys_bytes : List Cell → List ℕ
phys_bytes [] = []
phys_bytes (c ∷ cs) = big_bytes 4 c.0 ++ phys_bytes cs

-- a physical address, the high cell first
abbrev pub phys_encoded : DataSpace → List Cell → Result (Array × DataSpace) PropFault
phys_encoded m cells = encoded m (phys_bytes cells)
