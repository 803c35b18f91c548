-- What a client asks of the device tree, and what it is answered (IEEE 1275-1994, 6.3.2.1 and 6.3.2.2).
use Rattle.std.specs.Prelude.{ℕ, ◌-◌, ◌^◌, nat_eq, Bool, true, false, List, [], length, take, Option, Some, None}
use Rattle.std.specs.Prelude.{Result, Ok, Err, if◌then◌else◌}
use Rattle.of_cells.specs.Numbers.{cell}
use Rattle.of_cells.specs.declared.cells.Cell.{Cell}
use Rattle.of_memory.specs.DataSpace.{DataSpace}
use Rattle.of_nodes.specs.declared.fault.NodeFault.{NodeFault}
use Rattle.of_nodes.specs.declared.phandles.Phandle.{Phandle}
use Rattle.of_nodes.specs.declared.properties.Property.{Property}
use Rattle.of_nodes.specs.declared.tree.Node.{Node}
use Rattle.of_nodes.specs.Lookup.{found}
use Rattle.of_nodes.specs.Nodes.{child_found, next_found, parent_found, peer_found, phandle_of, property_found}
use Rattle.of_nodes.specs.Paths.{path_found}
use Rattle.of_nodes.specs.Properties.{bytes_at}
use Rattle.of_ihandles.specs.Instances.{package_of}
use Rattle.of_ihandles.specs.Table.{InstanceTable}
use Rattle.of_ihandles.specs.declared.instance_fault.InstanceFault.{InstanceFault}
use Rattle.of_client.specs.declared.calls.ClientCall.{ClientCall}
use Rattle.of_client.specs.declared.calls.ClientCall.TheVariants as call

-- a number, and bytes beside it
abbrev pub Reply : Type 0
Reply = Cell × List ℕ

abbrev pub number : ℕ → Reply
number n = (cell n, [])

-- what a bad handle, an unknown path, property or previous name is answered: -1
abbrev pub missing : Reply
missing = number (2 ^ 32 - 1)

-- ---- handles

abbrev pub handle : Option Phandle → Reply
handle (Some ph) = (ph.0, [])
handle None = number 0

abbrev pub found_handle : Option Phandle → Reply
found_handle (Some ph) = (ph.0, [])
found_handle None = missing

abbrev pub relative : Result (Option Phandle) NodeFault → Reply
relative (Ok o) = handle o
relative (Err fault) = missing

abbrev pub package_handle : Result Phandle InstanceFault → Reply
package_handle (Ok ph) = (ph.0, [])
package_handle (Err fault) = missing

-- ---- properties

-- `getproplen`: how many bytes the value has
abbrev pub value_length : Result (Option Property) NodeFault → Reply
value_length (Ok (Some p)) = (p.value.length, [])
value_length (Ok None) = missing
value_length (Err fault) = missing

-- `getprop`: how many bytes the value has, and the first of them, as many as there is room for
abbrev pub value_bytes : DataSpace → ℕ → Result (Option Property) NodeFault → Reply
value_bytes m room (Ok (Some p)) = (p.value.length, take room (bytes_at m p.value))
value_bytes m room (Ok None) = missing
value_bytes m room (Err fault) = missing

-- 1 and a name, or 0 behind the last
abbrev pub name_bytes : DataSpace → Result (Option Property) NodeFault → Reply
name_bytes m (Ok (Some p)) = (cell 1, bytes_at m p.name)
name_bytes m (Ok None) = number 0
name_bytes m (Err fault) = missing

-- `nextprop`: the name behind that of a property, or the first where the name is empty
abbrev pub behind_name :
    DataSpace → Bool → Result (Option Property) NodeFault → Result (Option Property) NodeFault → Reply
behind_name m is_first (Ok (Some p)) next = name_bytes m next
behind_name m is_first (Ok None) next = if is_first then name_bytes m next else missing
behind_name m is_first (Err fault) next = missing

abbrev pub next_name : DataSpace → List Node → Phandle → List ℕ → Reply
next_name m ns ph name =
    behind_name m (nat_eq (length name) 0) (property_found ns ph name) (next_found ns ph name)

-- ---- paths

-- `package-to-path`: how many bytes the path has, and the first of them, as many as there is room for
abbrev pub path_bytes : ℕ → Result (List ℕ) NodeFault → Reply
path_bytes room (Ok path) = (cell (length path), take room path)
path_bytes room (Err fault) = missing

-- ---- the table, a service a line

-- what is asked, with its operands
pub data Service : Type 0 where
  FindDevice : (path : List ℕ) → Service
  Child : (node : Phandle) → Service
  Peer : (node : Phandle) → Service
  Parent : (node : Phandle) → Service
  GetPropLen : (node : Phandle) → (name : List ℕ) → Service
  GetProp : (node : Phandle) → (name : List ℕ) → (room : ℕ) → Service
  NextProp : (node : Phandle) → (name : List ℕ) → Service
  InstanceToPackage : (ihandle : Cell) → Service
  PackageToPath : (node : Phandle) → (room : ℕ) → Service

abbrev pub root : Phandle
root = phandle_of 0

unfoldable pub reply_to : DataSpace → List Node → InstanceTable → Service → Reply
reply_to m ns t (FindDevice path) = found_handle (found m ns path)
reply_to m ns t (Child ph) = relative (child_found ns ph)
reply_to m ns t (Peer ph) = if nat_eq ph.0.0 0 then handle (Some root) else relative (peer_found ns ph)
reply_to m ns t (Parent ph) = relative (parent_found ns ph)
reply_to m ns t (GetPropLen ph name) = value_length (property_found ns ph name)
reply_to m ns t (GetProp ph name room) = value_bytes m room (property_found ns ph name)
reply_to m ns t (NextProp ph name) = next_name m ns ph name
reply_to m ns t (InstanceToPackage ih) = package_handle (package_of t ih)
reply_to m ns t (PackageToPath ph room) = path_bytes room (path_found m ns ph)

-- whether the reply may have bytes, which take memory
abbrev pub has_bytes : Service → Bool
has_bytes (FindDevice path) = false
has_bytes (Child ph) = false
has_bytes (Peer ph) = false
has_bytes (Parent ph) = false
has_bytes (GetPropLen ph name) = false
has_bytes (GetProp ph name room) = true
has_bytes (NextProp ph name) = true
has_bytes (InstanceToPackage ih) = false
has_bytes (PackageToPath ph room) = true

-- what a call asks
abbrev pub service_of : ClientCall → Service
service_of (call.FindDevice path) = FindDevice path.items
service_of (call.Child ph) = Child ph
service_of (call.Peer ph) = Peer ph
service_of (call.Parent ph) = Parent ph
service_of (call.GetPropLen ph name) = GetPropLen ph name.items
service_of (call.GetProp ph name room) = GetProp ph name.items room
service_of (call.NextProp ph name) = NextProp ph name.items
service_of (call.InstanceToPackage ih) = InstanceToPackage ih
service_of (call.PackageToPath ph room) = PackageToPath ph room
