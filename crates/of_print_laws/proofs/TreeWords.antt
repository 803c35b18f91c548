-- Words over packages and instances print nothing.
use Rattle.std.proofs.Common.{ℕ, List, [], ◌∷◌, ◌++◌, Option, Some, None, Result, Ok, Err, refl}
use Rattle.std.specs.Prelude.{◌==◌}
use Rattle.of_cells.specs.declared.cells.Cell.{Cell}
use Rattle.of_stacks.specs.declared.throws.Throw.{Throw}
use Rattle.of_memory.specs.DataSpace.{DataSpace}
use Rattle.of_fcodes.specs.declared.words.TreeWord.{TreeWord}
use Rattle.of_fcodes.specs.declared.words.TreeWord.TheVariants as node
use Rattle.of_nodes.specs.Nodes.{node_added}
use Rattle.of_nodes.specs.declared.fault.NodeFault.{NodeFault}
use Rattle.of_nodes.specs.declared.phandles.Phandle.{Phandle}
use Rattle.of_nodes.specs.declared.properties.Span.{Span}
use Rattle.of_nodes.specs.declared.tree.Node.{Node}
use Rattle.of_ihandles.specs.Instances.{argument_span, arguments_set, closed, opened, package_of as package_found}
use Rattle.of_ihandles.specs.Instances.{parent_of}
use Rattle.of_ihandles.specs.Table.{InstanceTable}
use Rattle.of_ihandles.specs.declared.instance_fault.InstanceFault.{InstanceFault}
use Rattle.of_board.specs.Active.{device_begun, device_made, finished, latest}
use Rattle.of_board.specs.declared.active.NewDevice.{NewDevice}
use Rattle.of_board.specs.declared.board.Board.{Board}
use Rattle.of_instances.specs.Faults.{of_device, of_instance}
use Rattle.of_instances.specs.InstanceWords.{behind_high, cell_left, high, my_address_entry, my_args_entry}
use Rattle.of_instances.specs.InstanceWords.{my_parent_entry, my_self_entry, my_space_entry, my_unit_entry, own_unit}
use Rattle.of_instances.specs.InstanceWords.{package_of_entry, phandle_left, span_left, unit_left}
use Rattle.of_instances.specs.InstanceWords.{arguments_left, arguments_read, instances_left, own_cells, set_args_entry}
use Rattle.of_instances.specs.InstanceWords.{unit_read}
use Rattle.of_instances.specs.Left.{with_stack}
use Rattle.of_instances.specs.Reading.{package_at, text_at}
use Rattle.of_instances.specs.TreeWords.{child_entry, find_method_entry, find_package_entry, finished_left, found_left}
use Rattle.of_instances.specs.TreeWords.{handle_left, method_left, method_of, new_device_entry, package_left}
use Rattle.of_instances.specs.TreeWords.{named_unopened_entry, peer_entry, tree_entry, release_entry, unopened_entry}
use Rattle.of_print_laws.proofs.PropertyWords.{IsQuiet, either, room}

-- ---- `new-device` and `finish-device`

device_begins : (w : Board) (found child : Phandle) (tree : List Node)
    (r : Result (Cell × (InstanceTable × DataSpace)) InstanceFault)
    → IsQuiet w (of_device (device_begun w found child tree r))
device_begins w found child tree (Ok x) = refl
device_begins w found child tree (Err fault) = tt

device_is_made : (w : Board) (found : Phandle) (r : Result (Phandle × List Node) NodeFault)
    → IsQuiet w (of_device (device_made w found r))
device_is_made w found (Ok x) = device_begins w found x.0 x.1 (opened w.instances w.memory x.0 w.active.my_self [])
device_is_made w found (Err fault) = tt

new_device : (w : Board) (ph : Option Phandle) → IsQuiet w (new_device_entry w ph)
unfolding new_device_entry
new_device w None = tt
new_device w (Some ph) = device_is_made w ph (node_added w.tree ph)

finishes : (w : Board) (d : Option NewDevice) → IsQuiet w (finished_left (finished w d))
finishes w None = tt
finishes w (Some d) = refl

-- ---- nodes, packages and methods

handles : (s : List Cell) (w : Board) (r : Result (Option Phandle) Throw) → IsQuiet w (handle_left s w r)
handles s w (Ok x) = refl
handles s w (Err t) = tt

child : (s : List Cell) (w : Board) → IsQuiet w (child_entry s w)
unfolding child_entry
child [] w = tt
child (x ∷ s) w = handles s w _

peer : (s : List Cell) (w : Board) → IsQuiet w (peer_entry s w)
unfolding peer_entry
peer [] w = tt
peer (x ∷ s) w = either (x.0 == 0) w _ _ refl (handles s w _)

founds : (s : List Cell) (w : Board) (x : Option Cell) → IsQuiet w (found_left s w x)
founds s w None = refl
founds s w (Some x) = refl

packages : (s : List Cell) (w : Board) (r : Result (List ℕ) Throw) → IsQuiet w (package_left s w r)
packages s w (Ok path) = founds s w _
packages s w (Err t) = tt

find_package : (s : List Cell) (w : Board) → IsQuiet w (find_package_entry s w)
unfolding find_package_entry
find_package (n ∷ a ∷ s) w = packages s w (text_at w.memory a n)
find_package _ w = tt

methods : (s : List Cell) (w : Board) (r : Result (Option Cell) Throw) → IsQuiet w (method_left s w r)
methods s w (Ok x) = founds s w x
methods s w (Err t) = tt

finds_method : (s : List Cell) (w : Board) (ph : Result Phandle Throw) (name : Result (List ℕ) Throw)
    → IsQuiet w (method_of s w ph name)
finds_method s w (Err t) name = tt
finds_method s w (Ok ph) (Err t) = tt
finds_method s w (Ok ph) (Ok name) = methods s w _

find_method : (s : List Cell) (w : Board) → IsQuiet w (find_method_entry s w)
unfolding find_method_entry
find_method (ph ∷ n ∷ a ∷ s) w = finds_method s w (package_at w.tree ph) (text_at w.memory a n)
find_method _ w = tt

-- ---- instances

cell : (s : List Cell) (w : Board) (r : Result Cell Throw) → IsQuiet w (cell_left s w r)
cell s w (Ok x) = room w (Ok (with_stack w (x ∷ s))) refl
cell s w (Err t) = tt

cells : (s : List Cell) (w : Board) (r : Result (List Cell) Throw) → IsQuiet w (unit_left s w r)
cells s w (Ok xs) = room w (Ok (with_stack w (xs ++ s))) refl
cells s w (Err t) = tt

span : (s : List Cell) (w : Board) (r : Result Span Throw) → IsQuiet w (span_left s w r)
span s w (Ok b) = room w (Ok (with_stack w (b.length ∷ b.address ∷ s))) refl
span s w (Err t) = tt

phandle : (s : List Cell) (w : Board) (r : Result Phandle Throw) → IsQuiet w (phandle_left s w r)
phandle s w (Ok ph) = refl
phandle s w (Err t) = tt

my_self : (s : List Cell) (w : Board) → IsQuiet w (my_self_entry s w)
unfolding my_self_entry
my_self s w = cell s w (Ok w.active.my_self)

my_parent : (s : List Cell) (w : Board) → IsQuiet w (my_parent_entry s w)
unfolding my_parent_entry
my_parent s w = cell s w (of_instance (parent_of w.instances w.active.my_self))

package_of : (s : List Cell) (w : Board) → IsQuiet w (package_of_entry s w)
unfolding package_of_entry
package_of [] w = tt
package_of (ih ∷ s) w = phandle s w (of_instance (package_found w.instances ih))

my_args : (s : List Cell) (w : Board) → IsQuiet w (my_args_entry s w)
unfolding my_args_entry
my_args s w = span s w (of_instance (argument_span w.instances w.active.my_self))

my_unit : (s : List Cell) (w : Board) → IsQuiet w (my_unit_entry s w)
unfolding my_unit_entry
my_unit s w = cells s w (own_unit w)

my_address : (s : List Cell) (w : Board) → IsQuiet w (my_address_entry s w)
unfolding my_address_entry
my_address s w = cells s w (behind_high (own_unit w))

my_space : (s : List Cell) (w : Board) → IsQuiet w (my_space_entry s w)
unfolding my_space_entry
my_space s w = cells s w (high (own_unit w))

leaves_instances : (s : List Cell) (w : Board) (r : Result (Unit {0} × (InstanceTable × DataSpace)) Throw)
    → IsQuiet w (instances_left s w r)
leaves_instances s w (Ok x) = refl
leaves_instances s w (Err t) = tt

sets_read : (s : List Cell) (w : Board) (arguments : List ℕ) (unit : Option (List Cell))
    → IsQuiet w (arguments_left s w arguments unit)
sets_read s w arguments None = tt
sets_read s w arguments (Some unit) =
    leaves_instances s w (of_instance (arguments_set w.instances w.memory w.active.my_self arguments unit))

sets_both : (s : List Cell) (w : Board) (count : Result ℕ Throw) (arguments unit : Result (List ℕ) Throw)
    → IsQuiet w (arguments_read s w count arguments unit)
sets_both s w (Err t) arguments unit = tt
sets_both s w (Ok count) (Err t) unit = tt
sets_both s w (Ok count) (Ok arguments) (Err t) = tt
sets_both s w (Ok count) (Ok arguments) (Ok unit) = sets_read s w arguments (unit_read count unit)

set_args : (s : List Cell) (w : Board) → IsQuiet w (set_args_entry s w)
unfolding set_args_entry
set_args (k ∷ u ∷ n ∷ a ∷ s) w = sets_both s w (own_cells w) (text_at w.memory a n) (text_at w.memory u k)
set_args _ w = tt

release : (s : List Cell) (w : Board) → IsQuiet w (release_entry s w)
unfolding release_entry
release [] w = tt
release (ih ∷ s) w = leaves_instances s w (of_instance (closed w.instances w.memory ih))

unopened : (s : List Cell) (w : Board) → IsQuiet w (unopened_entry s w)
unfolding unopened_entry
unopened (ph ∷ n ∷ a ∷ s) w = refl
unopened _ w = tt

named_unopened : (s : List Cell) (w : Board) → IsQuiet w (named_unopened_entry s w)
unfolding named_unopened_entry
named_unopened (k ∷ p ∷ n ∷ a ∷ s) w = refl
named_unopened _ w = tt

-- ---- the group Tree

pub tree : (p : TreeWord) (w : Board) → IsQuiet w (tree_entry p w)
unfolding tree_entry
tree node.NewDevice w = new_device w w.active.«package»
tree node.FinishDevice w = finishes w (latest w.active.new_devices)
tree node.Child w = child w.stack w
tree node.Peer w = peer w.stack w
tree node.FindPackage w = find_package w.stack w
tree node.FindMethod w = find_method w.stack w
tree node.OpenPackage w = unopened w.stack w
tree node.OpenNamedPackage w = named_unopened w.stack w
tree node.ClosePackage w = release w.stack w
tree node.CallPackage w = tt
tree node.CallParent w = tt
tree node.CallMethod w = tt
tree node.MySelf w = my_self w.stack w
tree node.MyParent w = my_parent w.stack w
tree node.PackageOf w = package_of w.stack w
tree node.MyArgs w = my_args w.stack w
tree node.SetArgs w = set_args w.stack w
tree node.MyUnit w = my_unit w.stack w
tree node.MyAddress w = my_address w.stack w
tree node.MySpace w = my_space w.stack w
