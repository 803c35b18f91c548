-- The law `words_keep_the_space`: what each word over packages and instances leaves, and the opening of one.
use Rattle.std.proofs.Common.{◌≡◌, ℕ, List, [], ◌∷◌, ◌++◌, Option}
use Rattle.std.proofs.Common.{Some, None, Result, Ok, Err, refl, subst}
use Rattle.std.specs.Prelude.{◌==◌}
use Rattle.of_cells.specs.declared.cells.Cell.{Cell}
use Rattle.of_stacks.specs.declared.throws.Throw.{Throw}
use Rattle.of_memory.specs.DataSpace.{DataSpace, IsSound}
use Rattle.of_memory.specs.SoundChanges.{AreBytes}
use Rattle.of_fcodes.specs.declared.words.TreeWord.{TreeWord}
use Rattle.of_fcodes.specs.declared.words.TreeWord.TheVariants as node
use Rattle.of_nodes.specs.Nodes.{node_added}
use Rattle.of_nodes.specs.declared.fault.NodeFault.{NodeFault}
use Rattle.of_nodes.specs.declared.phandles.Phandle.{Phandle}
use Rattle.of_nodes.specs.declared.properties.Span.{Span}
use Rattle.of_nodes.specs.declared.tree.Node.{Node}
use Rattle.of_ihandles.specs.Instances.{argument_span, arguments_set, opened, package_of as package_found, parent_of}
use Rattle.of_ihandles.specs.Instances.{closed, released}
use Rattle.of_ihandles.specs.Table.{InstanceTable}
use Rattle.of_ihandles.specs.declared.instance_fault.InstanceFault.{InstanceFault}
use Rattle.of_board.specs.Active.{device_begun, device_made, finished, latest, with_instances}
use Rattle.of_board.specs.declared.active.NewDevice.{NewDevice}
use Rattle.of_board.specs.declared.board.Board.{Board}
use Rattle.of_instances.specs.Faults.{of_device, of_instance}
use Rattle.of_instances.specs.Calling.{opened_with}
use Rattle.of_instances.specs.InstanceWords.{behind_high, cell_left, high, my_address_entry, my_args_entry}
use Rattle.of_instances.specs.InstanceWords.{my_parent_entry, my_self_entry, my_space_entry, my_unit_entry, own_unit}
use Rattle.of_instances.specs.InstanceWords.{package_of_entry, phandle_left, span_left, unit_left}
use Rattle.of_instances.specs.InstanceWords.{arguments_left, arguments_read, instances_left, own_cells, set_args_entry}
use Rattle.of_instances.specs.InstanceWords.{unit_read}
use Rattle.of_instances.specs.Left.{with_stack}
use Rattle.of_instances.specs.Reading.{package_at, text_at}
use Rattle.of_instances.specs.SpaceKept.{Keeps, WordsKeepTheSpace}
use Rattle.of_instances.specs.TreeWords.{child_entry, find_method_entry, find_package_entry, finished_left, found_left}
use Rattle.of_instances.specs.TreeWords.{handle_left, method_left, method_of, new_device_entry, package_left}
use Rattle.of_instances.specs.TreeWords.{named_unopened_entry, peer_entry, tree_entry, release_entry, unopened_entry}
use Rattle.of_instances.proofs.PropertySpace.{properties}
use Rattle.of_instances.proofs.SpaceKept.{BoardKept, Given, IsText, by_space, either, no_bytes, room, same}
use Rattle.of_instances.proofs.SpaceKept.{text}

-- ---- `new-device` and `finish-device`

device_begins : (g : Given) (w : Board) (found child : Phandle) (tree : List Node)
    (r : Result (Cell × (InstanceTable × DataSpace)) InstanceFault) → IsSound w.memory
    → node_added w.tree found ≡ Ok (child, tree) → opened w.instances w.memory child w.active.my_self [] ≡ r
    → BoardKept w (of_device (device_begun w found child tree r))
device_begins g w found child tree (Ok x) sound made e =
    by_space g w _ sound
    (g.instances.by_open w.instances x.1.0 w.memory x.1.1 child w.active.my_self x.0 [] sound no_bytes e)
    (λ a. g.stored.by_node w.memory w.tree tree found child a made)
device_begins g w found child tree (Err fault) sound made e = tt

device_is_made : (g : Given) (w : Board) (found : Phandle) (r : Result (Phandle × List Node) NodeFault)
    → IsSound w.memory → node_added w.tree found ≡ r → BoardKept w (of_device (device_made w found r))
device_is_made g w found (Ok x) sound made =
    device_begins g w found x.0 x.1 (opened w.instances w.memory x.0 w.active.my_self []) sound made refl
device_is_made g w found (Err fault) sound made = tt

new_device : (g : Given) (w : Board) (ph : Option Phandle) → IsSound w.memory
    → BoardKept w (new_device_entry w ph)
unfolding new_device_entry
new_device g w None sound = tt
new_device g w (Some ph) sound = device_is_made g w ph (node_added w.tree ph) sound refl

finishes : (g : Given) (w : Board) (d : Option NewDevice) → IsSound w.memory
    → BoardKept w (finished_left (finished w d))
finishes g w None sound = tt
finishes g w (Some d) sound =
    let x = released w.instances w.memory d.instance in
    by_space g w _ sound (g.instances.by_release w.instances x.0 w.memory x.1 d.instance sound refl) (λ a. a)

-- ---- nodes, packages and methods

handles : (s : List Cell) (w : Board) (r : Result (Option Phandle) Throw) → IsSound w.memory
    → BoardKept w (handle_left s w r)
handles s w (Ok x) sound = same w sound
handles s w (Err t) sound = tt

child : (s : List Cell) (w : Board) → IsSound w.memory → BoardKept w (child_entry s w)
unfolding child_entry
child [] w sound = tt
child (x ∷ s) w sound = handles s w _ sound

peer : (s : List Cell) (w : Board) → IsSound w.memory → BoardKept w (peer_entry s w)
unfolding peer_entry
peer [] w sound = tt
peer (x ∷ s) w sound = either (x.0 == 0) w _ _ (same w sound) (handles s w _ sound)

founds : (s : List Cell) (w : Board) (x : Option Cell) → IsSound w.memory → BoardKept w (found_left s w x)
founds s w None sound = same w sound
founds s w (Some x) sound = same w sound

packages : (s : List Cell) (w : Board) (r : Result (List ℕ) Throw) → IsSound w.memory
    → BoardKept w (package_left s w r)
packages s w (Ok path) sound = founds s w _ sound
packages s w (Err t) sound = tt

find_package : (s : List Cell) (w : Board) → IsSound w.memory → BoardKept w (find_package_entry s w)
unfolding find_package_entry
find_package (n ∷ a ∷ s) w sound = packages s w (text_at w.memory a n) sound
find_package _ w sound = tt

methods : (s : List Cell) (w : Board) (r : Result (Option Cell) Throw) → IsSound w.memory
    → BoardKept w (method_left s w r)
methods s w (Ok x) sound = founds s w x sound
methods s w (Err t) sound = tt

finds_method : (s : List Cell) (w : Board) (ph : Result Phandle Throw) (name : Result (List ℕ) Throw)
    → IsSound w.memory → BoardKept w (method_of s w ph name)
finds_method s w (Err t) name sound = tt
finds_method s w (Ok ph) (Err t) sound = tt
finds_method s w (Ok ph) (Ok name) sound = methods s w _ sound

find_method : (s : List Cell) (w : Board) → IsSound w.memory → BoardKept w (find_method_entry s w)
unfolding find_method_entry
find_method (ph ∷ n ∷ a ∷ s) w sound = finds_method s w (package_at w.tree ph) (text_at w.memory a n) sound
find_method _ w sound = tt

-- ---- instances

cell : (s : List Cell) (w : Board) (r : Result Cell Throw) → IsSound w.memory → BoardKept w (cell_left s w r)
cell s w (Ok x) sound = room w (Ok (with_stack w (x ∷ s))) (same w sound)
cell s w (Err t) sound = tt

cells : (s : List Cell) (w : Board) (r : Result (List Cell) Throw) → IsSound w.memory
    → BoardKept w (unit_left s w r)
cells s w (Ok xs) sound = room w (Ok (with_stack w (xs ++ s))) (same w sound)
cells s w (Err t) sound = tt

span : (s : List Cell) (w : Board) (r : Result Span Throw) → IsSound w.memory → BoardKept w (span_left s w r)
span s w (Ok b) sound =
    room w (Ok (with_stack w (b.length ∷ b.address ∷ s))) (same w sound)
span s w (Err t) sound = tt

phandle : (s : List Cell) (w : Board) (r : Result Phandle Throw) → IsSound w.memory
    → BoardKept w (phandle_left s w r)
phandle s w (Ok ph) sound = same w sound
phandle s w (Err t) sound = tt

my_self : (s : List Cell) (w : Board) → IsSound w.memory → BoardKept w (my_self_entry s w)
unfolding my_self_entry
my_self s w sound = cell s w (Ok w.active.my_self) sound

my_parent : (s : List Cell) (w : Board) → IsSound w.memory → BoardKept w (my_parent_entry s w)
unfolding my_parent_entry
my_parent s w sound = cell s w (of_instance (parent_of w.instances w.active.my_self)) sound

package_of : (s : List Cell) (w : Board) → IsSound w.memory → BoardKept w (package_of_entry s w)
unfolding package_of_entry
package_of [] w sound = tt
package_of (ih ∷ s) w sound = phandle s w (of_instance (package_found w.instances ih)) sound

my_args : (s : List Cell) (w : Board) → IsSound w.memory → BoardKept w (my_args_entry s w)
unfolding my_args_entry
my_args s w sound = span s w (of_instance (argument_span w.instances w.active.my_self)) sound

my_unit : (s : List Cell) (w : Board) → IsSound w.memory → BoardKept w (my_unit_entry s w)
unfolding my_unit_entry
my_unit s w sound = cells s w (own_unit w) sound

my_address : (s : List Cell) (w : Board) → IsSound w.memory → BoardKept w (my_address_entry s w)
unfolding my_address_entry
my_address s w sound = cells s w (behind_high (own_unit w)) sound

my_space : (s : List Cell) (w : Board) → IsSound w.memory → BoardKept w (my_space_entry s w)
unfolding my_space_entry
my_space s w sound = cells s w (high (own_unit w)) sound

sets : (g : Given) (s : List Cell) (w : Board) (arguments : List ℕ) (unit : List Cell)
    (r : Result (Unit {0} × (InstanceTable × DataSpace)) InstanceFault) → IsSound w.memory → AreBytes arguments
    → arguments_set w.instances w.memory w.active.my_self arguments unit ≡ r
    → BoardKept w (instances_left s w (of_instance r))
sets g s w arguments unit (Ok x) sound small e =
    by_space g w _ sound
    (g.instances.by_arguments w.instances x.1.0 w.memory x.1.1 w.active.my_self arguments unit sound small e) (λ a. a)
sets g s w arguments unit (Err fault) sound small e = tt

sets_read : (g : Given) (s : List Cell) (w : Board) (arguments : List ℕ) (unit : Option (List Cell))
    → IsSound w.memory → AreBytes arguments → BoardKept w (arguments_left s w arguments unit)
sets_read g s w arguments None sound small = tt
sets_read g s w arguments (Some unit) sound small =
    sets g s w arguments unit (arguments_set w.instances w.memory w.active.my_self arguments unit) sound small refl

sets_both : (g : Given) (s : List Cell) (w : Board) (count : Result ℕ Throw)
    (arguments unit : Result (List ℕ) Throw) → IsSound w.memory → IsText arguments
    → BoardKept w (arguments_read s w count arguments unit)
sets_both g s w (Err t) arguments unit sound small = tt
sets_both g s w (Ok count) (Err t) unit sound small = tt
sets_both g s w (Ok count) (Ok arguments) (Err t) sound small = tt
sets_both g s w (Ok count) (Ok arguments) (Ok unit) sound small =
    sets_read g s w arguments (unit_read count unit) sound small

set_args : (g : Given) (s : List Cell) (w : Board) → IsSound w.memory
    → BoardKept w (set_args_entry s w)
unfolding set_args_entry
set_args g (k ∷ u ∷ n ∷ a ∷ s) w sound =
    sets_both g s w (own_cells w) (text_at w.memory a n) (text_at w.memory u k) sound (text w.memory a n sound)
set_args g _ w sound = tt

closes : (g : Given) (s : List Cell) (w : Board) (ih : Cell)
    (r : Result (Unit {0} × (InstanceTable × DataSpace)) InstanceFault) → IsSound w.memory
    → closed w.instances w.memory ih ≡ r → BoardKept w (instances_left s w (of_instance r))
closes g s w ih (Ok x) sound e =
    by_space g w _ sound (g.instances.by_close w.instances x.1.0 w.memory x.1.1 ih sound e) (λ a. a)
closes g s w ih (Err fault) sound e = tt

release : (g : Given) (s : List Cell) (w : Board) → IsSound w.memory
    → BoardKept w (release_entry s w)
unfolding release_entry
release g [] w sound = tt
release g (ih ∷ s) w sound = closes g s w ih (closed w.instances w.memory ih) sound refl

unopened : (s : List Cell) (w : Board) → IsSound w.memory → BoardKept w (unopened_entry s w)
unfolding unopened_entry
unopened (ph ∷ n ∷ a ∷ s) w sound = same w sound
unopened _ w sound = tt

named_unopened : (s : List Cell) (w : Board) → IsSound w.memory → BoardKept w (named_unopened_entry s w)
unfolding named_unopened_entry
named_unopened (k ∷ p ∷ n ∷ a ∷ s) w sound = same w sound
named_unopened _ w sound = tt

-- ---- a new instance

abbrev OpenedKept : Board → Result (Cell × (InstanceTable × DataSpace)) Throw → Type 0
OpenedKept w (Ok x) = Keeps w (with_instances w x.1)
OpenedKept w (Err t) = Unit {0}

opening : (g : Given) (w : Board) (ph : Phandle) (arguments : List ℕ)
    (r : Result (Cell × (InstanceTable × DataSpace)) InstanceFault) → IsSound w.memory → AreBytes arguments
    → opened w.instances w.memory ph w.active.my_self arguments ≡ r → OpenedKept w (of_instance r)
opening g w ph arguments (Ok x) sound small e =
    by_space g w _ sound
    (g.instances.by_open w.instances x.1.0 w.memory x.1.1 ph w.active.my_self x.0 arguments sound small e) (λ a. a)
opening g w ph arguments (Err fault) sound small e = tt

opening_with : (g : Given) (w : Board) (ph : Phandle) (r : Result (List ℕ) Throw) → IsSound w.memory → IsText r
    → OpenedKept w (opened_with w ph r)
opening_with g w ph (Ok arguments) sound small =
    opening g w ph arguments (opened w.instances w.memory ph w.active.my_self arguments) sound small refl
opening_with g w ph (Err t) sound small = tt

-- ---- the group Tree

tree : (g : Given) (p : TreeWord) (w : Board) → IsSound w.memory → BoardKept w (tree_entry p w)
unfolding tree_entry
tree g node.NewDevice w sound = new_device g w w.active.«package» sound
tree g node.FinishDevice w sound = finishes g w (latest w.active.new_devices) sound
tree g node.Child w sound = child w.stack w sound
tree g node.Peer w sound = peer w.stack w sound
tree g node.FindPackage w sound = find_package w.stack w sound
tree g node.FindMethod w sound = find_method w.stack w sound
tree g node.OpenPackage w sound = unopened w.stack w sound
tree g node.OpenNamedPackage w sound = named_unopened w.stack w sound
tree g node.ClosePackage w sound = release g w.stack w sound
tree g node.CallPackage w sound = tt
tree g node.CallParent w sound = tt
tree g node.CallMethod w sound = tt
tree g node.MySelf w sound = my_self w.stack w sound
tree g node.MyParent w sound = my_parent w.stack w sound
tree g node.PackageOf w sound = package_of w.stack w sound
tree g node.MyArgs w sound = my_args w.stack w sound
tree g node.SetArgs w sound = set_args g w.stack w sound
tree g node.MyUnit w sound = my_unit w.stack w sound
tree g node.MyAddress w sound = my_address w.stack w sound
tree g node.MySpace w sound = my_space w.stack w sound

-- ---- the law

pub words_keep_the_space : Given → WordsKeepTheSpace
words_keep_the_space g = record {
  properties = λ p w after sound e. subst (λ r. BoardKept w r) e (properties g p w sound);
  tree = λ p w after sound e. subst (λ r. BoardKept w r) e (tree g p w sound);
  opened = λ w ph a n ih x sound e.
      subst (λ r. OpenedKept w r) e (opening_with g w ph (text_at w.memory a n) sound (text w.memory a n sound));
}
