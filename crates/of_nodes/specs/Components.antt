-- Node names and unit addresses, and the components of paths (IEEE 1275-1994, 3.2.1.1 and 3.2.1.2).
use Rattle.std.specs.Prelude.{ℕ, zero, suc, ◌*◌, ◌-◌, ◌&&◌, ◌==◌, nat_le, nat_lt, List, [], ◌∷◌, ◌++◌}
use Rattle.std.specs.Prelude.{length, drop, take}
use Rattle.std.specs.Prelude.{Option, Some, None, Result, Ok, Err, if◌then◌else◌, codes}
use Rattle.byteorder.specs.Endian.{big_number}
use Rattle.of_format.specs.Digits.{unsigned_text}
use Rattle.of_memory.specs.Access.{read_bytes}
use Rattle.of_memory.specs.DataSpace.{DataSpace}
use Rattle.of_memory.specs.declared.fault.MemFault.{MemFault}
use Rattle.of_nodes.specs.declared.properties.Property.{Property}
use Rattle.of_nodes.specs.declared.tree.Node.{Node}
use Rattle.of_nodes.specs.Properties.{value_in}

-- bytes that can be read
abbrev pub readable : Result (List ℕ) MemFault → Option (List ℕ)
readable (Ok xs) = Some xs
readable (Err fault) = None

-- the bytes of a property's value
abbrev pub bytes_of : DataSpace → Option Property → Option (List ℕ)
bytes_of m None = None
bytes_of m (Some p) = readable (read_bytes m p.value.address.0 p.value.length.0)

abbrev pub value_of : DataSpace → Node → List ℕ → Option (List ℕ)
value_of m n name = bytes_of m (value_in n.properties name)

-- a value without the zero byte at its end, or nothing
abbrev pub without_end : Option (List ℕ) → List ℕ
without_end None = []
without_end (Some xs) = take (length xs - 1) xs

-- a node's name is its property `name`
abbrev pub node_name : DataSpace → Node → List ℕ
node_name m n = without_end (value_of m n (codes "name"))

-- how many cells an address has by a number: 1 to 4, else 2
abbrev pub cells_by : ℕ → ℕ
cells_by count = if nat_le 1 count && nat_le count 4 then count else 2

-- the same by the number in 4 bytes, and 2 without
abbrev pub count_in : Option (List ℕ) → ℕ
count_in None = 2
count_in (Some xs) = if length xs == 4 then cells_by (big_number 4 xs) else 2

-- how many cells the addresses of a node's children have
abbrev pub address_cells : DataSpace → Node → ℕ
address_cells m n = count_in (value_of m n (codes "#address-cells"))

-- a comma behind what stands there
abbrev pub comma : ℕ → List ℕ
comma zero = []
comma (suc i) = 44 ∷ []

-- the first cells of an address in lower case hexadecimal, the high cell first, joined by commas
abbrev pub address_text : List ℕ → ℕ → List ℕ
address_text xs zero = []
address_text xs (suc i) = address_text xs i ++ (comma i ++ unsigned_text 16 (big_number 4 (drop (4 * i) xs)))

-- the text of the first address in `reg`, if that has so many cells
abbrev pub unit_in : ℕ → Option (List ℕ) → Option (List ℕ)
unit_in count None = None
unit_in count (Some xs) = if nat_lt (length xs) (4 * count) then None else Some (address_text xs count)

-- the unit address of a node, where addresses have so many cells
abbrev pub unit_of : DataSpace → ℕ → Node → Option (List ℕ)
unit_of m count n = unit_in count (value_of m n (codes "reg"))

-- the unit address of a node below one
abbrev pub unit_address : DataSpace → Node → Node → Option (List ℕ)
unit_address m above n = unit_of m (address_cells m above) n

-- `name` or `name@unit`
abbrev pub name_at : List ℕ → Option (List ℕ) → List ℕ
name_at name None = name
name_at name (Some unit) = name ++ 64 ∷ unit

-- how a node below one stands in a path
abbrev pub component : DataSpace → Node → Node → List ℕ
component m above n = name_at (node_name m n) (unit_address m above n)
