-- What each word of the group Tree makes of the data stack, the top first, of the device tree, of the active package
-- and of instances, or what it throws (IEEE 1275-1994, annex A).
use Rattle.std.specs.Prelude.{ℕ, ◌==◌, Bool, true, false, List, [], ◌∷◌, Option, Some, None, Result, Ok, Err}
use Rattle.std.specs.Prelude.{if◌then◌else◌}
use Rattle.of_cells.specs.declared.cells.Cell.{Cell}
use Rattle.of_fcodes.specs.declared.words.TreeWord.{TreeWord}
use Rattle.of_fcodes.specs.declared.words.TreeWord.TheVariants.{NewDevice, FinishDevice, Child, Peer, FindPackage}
use Rattle.of_fcodes.specs.declared.words.TreeWord.TheVariants.{OpenPackage, OpenNamedPackage, ClosePackage, FindMethod}
use Rattle.of_fcodes.specs.declared.words.TreeWord.TheVariants.{CallPackage, CallParent, CallMethod, MySelf, MyParent}
use Rattle.of_fcodes.specs.declared.words.TreeWord.TheVariants.{PackageOf, MyArgs, SetArgs, MyUnit, MyAddress, MySpace}
use Rattle.of_stacks.specs.declared.throws.Throw.{Throw}
use Rattle.of_stacks.specs.Throws.{no_node, not_assigned, stack_underflow}
use Rattle.of_nodes.specs.declared.phandles.Phandle.{Phandle}
use Rattle.of_ihandles.specs.Instances.{closed}
use Rattle.of_nodes.specs.Lookup.{package_found}
use Rattle.of_nodes.specs.Nodes.{child_found, method_found, peer_found, phandle_of}
use Rattle.of_board.specs.declared.board.Board.{Board}
use Rattle.of_board.specs.Active.{device_finished, device_opened}
use Rattle.of_instances.specs.Faults.{of_device, of_instance, of_tree}
use Rattle.of_instances.specs.Finding.{yes}
use Rattle.of_instances.specs.InstanceWords.{instances_left, my_address_entry, my_args_entry, my_parent_entry}
use Rattle.of_instances.specs.InstanceWords.{my_self_entry}
use Rattle.of_instances.specs.InstanceWords.{my_space_entry, my_unit_entry, package_of_entry, set_args_entry}
use Rattle.of_instances.specs.Reading.{package_at, text_at}
use Rattle.of_instances.specs.Left.{number, with_stack}

-- `new-device` ( -- ) below the active package
unfoldable pub new_device_entry : Board → Option Phandle → Result Board Throw
new_device_entry w None = Err no_node
new_device_entry w (Some ph) = of_device (device_opened w ph)

-- `finish-device` ( -- ), where a `new-device` is open
abbrev pub finished_left : Option Board → Result Board Throw
finished_left None = Err no_node
finished_left (Some w) = Ok w

-- a phandle as a cell, or 0
abbrev pub handle : Option Phandle → Cell
handle None = number 0
handle (Some ph) = ph.0

-- ( -- ph or 0 )
abbrev pub handle_left : List Cell → Board → Result (Option Phandle) Throw → Result Board Throw
handle_left s w (Ok x) = Ok (with_stack w (handle x ∷ s))
handle_left s w (Err t) = Err t

-- `child` ( ph -- ph or 0 )
unfoldable pub child_entry : List Cell → Board → Result Board Throw
child_entry [] w = Err stack_underflow
child_entry (x ∷ s) w = handle_left s w (of_tree (child_found w.tree (record { 0 = x })))

-- `peer` ( ph -- ph or 0 ): that of 0 is the root
unfoldable pub peer_entry : List Cell → Board → Result Board Throw
peer_entry [] w = Err stack_underflow
peer_entry (x ∷ s) w =
    if x.0 == 0 then Ok (with_stack w ((phandle_of 0).0 ∷ s))
    else handle_left s w (of_tree (peer_found w.tree (record { 0 = x })))

-- ( -- false ), or ( -- x true )
abbrev pub found_left : List Cell → Board → Option Cell → Result Board Throw
found_left s w None = Ok (with_stack w (number 0 ∷ s))
found_left s w (Some x) = Ok (with_stack w (yes ∷ x ∷ s))

abbrev pub as_cell : Option Phandle → Option Cell
as_cell None = None
as_cell (Some ph) = Some ph.0

abbrev pub package_left : List Cell → Board → Result (List ℕ) Throw → Result Board Throw
package_left s w (Ok path) = found_left s w (as_cell (package_found w.memory w.tree path))
package_left s w (Err t) = Err t

-- `find-package` ( s n -- false, or ph true )
unfoldable pub find_package_entry : List Cell → Board → Result Board Throw
find_package_entry (n ∷ a ∷ s) w = package_left s w (text_at w.memory a n)
find_package_entry _ w = Err stack_underflow

abbrev pub method_left : List Cell → Board → Result (Option Cell) Throw → Result Board Throw
method_left s w (Ok x) = found_left s w x
method_left s w (Err t) = Err t

abbrev pub method_of : List Cell → Board → Result Phandle Throw → Result (List ℕ) Throw → Result Board Throw
method_of s w (Err t) name = Err t
method_of s w (Ok ph) (Err t) = Err t
method_of s w (Ok ph) (Ok name) = method_left s w (of_tree (method_found w.tree ph name))

-- `find-method` ( s n ph -- false, or xt true )
unfoldable pub find_method_entry : List Cell → Board → Result Board Throw
find_method_entry (ph ∷ n ∷ a ∷ s) w = method_of s w (package_at w.tree ph) (text_at w.memory a n)
find_method_entry _ w = Err stack_underflow

-- ---- releasing

-- `close-package` ( ih -- ) of a package without a method `close`
unfoldable pub release_entry : List Cell → Board → Result Board Throw
release_entry [] w = Err stack_underflow
release_entry (ih ∷ s) w = instances_left s w (of_instance (closed w.instances w.memory ih))

-- ---- opening nothing

-- `open-package` ( s n ph -- 0 ) of a package without a method `open`
unfoldable pub unopened_entry : List Cell → Board → Result Board Throw
unopened_entry (ph ∷ n ∷ a ∷ s) w = Ok (with_stack w (number 0 ∷ s))
unopened_entry _ w = Err stack_underflow

-- `$open-package` ( args n name n -- 0 ) of such a package, or of none
unfoldable pub named_unopened_entry : List Cell → Board → Result Board Throw
named_unopened_entry (k ∷ p ∷ n ∷ a ∷ s) w = Ok (with_stack w (number 0 ∷ s))
named_unopened_entry _ w = Err stack_underflow

-- The table, a word a line. The words that call a method (specs/Calling) are as unassigned here, but for those that may
-- find none to call.
unfoldable pub tree_entry : TreeWord → Board → Result Board Throw
tree_entry NewDevice w = new_device_entry w w.active.«package»
tree_entry FinishDevice w = finished_left (device_finished w)
tree_entry Child w = child_entry w.stack w
tree_entry Peer w = peer_entry w.stack w
tree_entry FindPackage w = find_package_entry w.stack w
tree_entry OpenPackage w = unopened_entry w.stack w
tree_entry OpenNamedPackage w = named_unopened_entry w.stack w
tree_entry ClosePackage w = release_entry w.stack w
tree_entry FindMethod w = find_method_entry w.stack w
tree_entry CallPackage w = Err not_assigned
tree_entry CallParent w = Err not_assigned
tree_entry CallMethod w = Err not_assigned
tree_entry MySelf w = my_self_entry w.stack w
tree_entry MyParent w = my_parent_entry w.stack w
tree_entry PackageOf w = package_of_entry w.stack w
tree_entry MyArgs w = my_args_entry w.stack w
tree_entry SetArgs w = set_args_entry w.stack w
tree_entry MyUnit w = my_unit_entry w.stack w
tree_entry MyAddress w = my_address_entry w.stack w
tree_entry MySpace w = my_space_entry w.stack w

-- whether the tree or an instance may grow by the word, for which memory is asked
abbrev pub tree_grows : TreeWord → Bool
tree_grows NewDevice = true
tree_grows FinishDevice = false
tree_grows Child = false
tree_grows Peer = false
tree_grows FindPackage = false
tree_grows OpenPackage = false
tree_grows OpenNamedPackage = false
tree_grows ClosePackage = false
tree_grows FindMethod = false
tree_grows CallPackage = false
tree_grows CallParent = false
tree_grows CallMethod = false
tree_grows MySelf = false
tree_grows MyParent = false
tree_grows PackageOf = false
tree_grows MyArgs = false
tree_grows SetArgs = true
tree_grows MyUnit = false
tree_grows MyAddress = false
tree_grows MySpace = false
