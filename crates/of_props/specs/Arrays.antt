-- Property arrays: bytes of memory, by address and length (IEEE 1275-1994, 3.2.2.1).
use Rattle.std.specs.Prelude.{ℕ, ◌-◌, ◌==◌, List, Result, Ok, Err, if◌then◌else◌}
use Rattle.of_cells.specs.Numbers.{cell}
use Rattle.of_cells.specs.Arithmetic.{plus}
use Rattle.of_memory.specs.DataSpace.{DataSpace, bytes_from}
use Rattle.of_memory.specs.Access.{are_readable}
use Rattle.of_props.specs.declared.arrays.Array.{Array}
use Rattle.of_props.specs.declared.fault.PropFault.{PropFault}
use Rattle.of_props.specs.declared.fault.PropFault.TheVariants.{Address, NotAdjacent}

-- the bytes of an array, if they can all be read
abbrev pub bytes_of : DataSpace → Array → Result (List ℕ) PropFault
bytes_of m p =
    if are_readable m p.address.0 p.length.0 then Ok (bytes_from m p.address.0 p.length.0) else Err Address

-- the first n bytes of an array
abbrev pub front : Array → ℕ → Array
front p n = record p { length = record { 0 = n } }

-- what follows the first n bytes of an array
abbrev pub behind : Array → ℕ → Array
behind p n = record { address = plus p.address (cell n); length = record { 0 = p.length.0 - n } }

-- an array and another directly behind it, as one
abbrev pub joined : Array → Array → Result Array PropFault
joined p q =
    if (plus p.address p.length).0 == q.address.0
    then Ok (record { address = p.address; length = plus p.length q.length })
    else Err NotAdjacent
