-- What the words take from memory and from the tree, or what they throw where it isn't there.
use Rattle.std.specs.Prelude.{ℕ, ◌==◌, Bool, true, false, List, length, Option, Some, None, Result, Ok, Err}
use Rattle.of_cells.specs.declared.cells.Cell.{Cell}
use Rattle.of_stacks.specs.declared.throws.Throw.{Throw}
use Rattle.of_stacks.specs.Throws.{bad_handle, invalid_address, no_node}
use Rattle.of_memory.specs.Access.{read_bytes}
use Rattle.of_memory.specs.DataSpace.{DataSpace}
use Rattle.of_memory.specs.declared.fault.MemFault.{MemFault}
use Rattle.of_nodes.specs.declared.fault.NodeFault.{NodeFault}
use Rattle.of_nodes.specs.declared.phandles.Phandle.{Phandle}
use Rattle.of_nodes.specs.declared.tree.Node.{Node}
use Rattle.of_nodes.specs.Nodes.{number_of, parent_found}
use Rattle.of_nodes.specs.Paths.{cells_found}
use Rattle.of_board.specs.declared.board.Board.{Board}
use Rattle.of_ihandles.specs.Instances.{package_of}
use Rattle.of_instances.specs.Faults.{node_throw, of_instance, of_tree}

-- bytes that were read; their one fault is their address
abbrev pub text_read : Result (List ℕ) MemFault → Result (List ℕ) Throw
text_read (Ok xs) = Ok xs
text_read (Err fault) = Err invalid_address

-- the text of an address and a length
abbrev pub text_at : DataSpace → Cell → Cell → Result (List ℕ) Throw
text_at m a n = text_read (read_bytes m a.0 n.0)

-- the phandle of a node that is there
abbrev pub phandle_if : Phandle → Option ℕ → Result Phandle Throw
phandle_if ph None = Err bad_handle
phandle_if ph (Some i) = Ok ph

-- the package that a cell is the phandle of
abbrev pub package_at : List Node → Cell → Result Phandle Throw
package_at ns x = phandle_if (record { 0 = x }) (number_of (length ns) (record { 0 = x }))

abbrev pub package_in : List Node → Option Phandle → Result Phandle Throw
package_in ns None = Err no_node
package_in ns (Some ph) = package_at ns ph.0

-- by whether no instance is current
abbrev pub package_for : Bool → Board → Result Phandle Throw
package_for true w = package_in w.tree w.active.«package»
package_for false w = of_instance (package_of w.instances w.active.my_self)

-- the package that words work on: that of the current instance, or the active one where none is current
abbrev pub active_package : Board → Result Phandle Throw
active_package w = package_for (w.active.my_self.0 == 0) w

-- how many cells an address of a package has: as its parent says, and 2 for the root
abbrev pub cells_by : DataSpace → List Node → Result (Option Phandle) NodeFault → Result ℕ Throw
cells_by m ns (Ok None) = Ok 2
cells_by m ns (Ok (Some above)) = of_tree (cells_found m ns above)
cells_by m ns (Err fault) = Err (node_throw fault)

abbrev pub cells_of : DataSpace → List Node → Phandle → Result ℕ Throw
cells_of m ns ph = cells_by m ns (parent_found ns ph)

-- the same of a package that there may be
abbrev pub cells_in : DataSpace → List Node → Result Phandle Throw → Result ℕ Throw
cells_in m ns (Ok ph) = cells_of m ns ph
cells_in m ns (Err t) = Err t
