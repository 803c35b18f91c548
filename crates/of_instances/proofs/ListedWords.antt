-- What these words throw has a listed number: each table's own throws, line by line.
use Rattle.std.proofs.Common.{ℕ, zero, suc, Bool, true, false, List, [], ◌∷◌, length, nat_lt, Option, Some, None}
use Rattle.std.proofs.Common.{Result, Ok}
use Rattle.std.proofs.Common.{Err, refl}
use Rattle.std.specs.Prelude.{◌==◌, ◌++◌, take, drop, codes, if◌then◌else◌}
use Rattle.of_cells.specs.declared.cells.Cell.{Cell}
use Rattle.of_stacks.specs.declared.throws.Throw.{Throw}
use Rattle.of_stacks.specs.Throws.{ThrowsListed, is_listed, listed_numbers, stack_overflow, stack_underflow}
use Rattle.of_stacks.specs.Order.{refused_if}
use Rattle.of_memory.specs.Access.{read_bytes}
use Rattle.of_memory.specs.DataSpace.{DataSpace}
use Rattle.of_memory.specs.declared.fault.MemFault.{MemFault}
use Rattle.of_fcodes.specs.declared.words.PropertiesWord.{PropertiesWord}
use Rattle.of_fcodes.specs.declared.words.PropertiesWord.TheVariants as word
use Rattle.of_fcodes.specs.declared.words.TreeWord.{TreeWord}
use Rattle.of_fcodes.specs.declared.words.TreeWord.TheVariants as node
use Rattle.of_nodes.specs.declared.fault.NodeFault.{NodeFault}
use Rattle.of_nodes.specs.declared.fault.NodeFault.TheVariants.{BadName, NoMemory, NoNode, PropertyFull, TooManyNodes}
use Rattle.of_nodes.specs.declared.phandles.Phandle.{Phandle}
use Rattle.of_nodes.specs.declared.properties.Property.{Property}
use Rattle.of_nodes.specs.declared.tree.Node.{Node}
use Rattle.of_nodes.specs.Lookup.{package_found}
use Rattle.of_nodes.specs.Nodes.{method_found, number_of, parent_found, property_found}
use Rattle.of_nodes.specs.Paths.{cells_found}
use Rattle.of_props.specs.declared.arrays.Array.{Array}
use Rattle.of_props.specs.declared.fault.PropFault.{PropFault}
use Rattle.of_props.specs.declared.fault.PropFault.TheVariants.{Address, Full, NotAdjacent, Short}
use Rattle.of_props.specs.Decoding.{int_decoded, phys_decoded, string_decoded}
use Rattle.of_props.specs.Encoding.{int_encoded, phys_bytes, phys_encoded}
use Rattle.of_board.specs.declared.board.Board.{Board}
use Rattle.of_board.specs.Active.{device_finished, device_opened}
use Rattle.of_board.specs.declared.device_fault.DeviceFault.{DeviceFault}
use Rattle.of_board.specs.declared.device_fault.DeviceFault.TheVariants as device
use Rattle.of_ihandles.specs.Instances.{argument_span, arguments_set, closed, most_instances, opened, package_of}
use Rattle.of_ihandles.specs.Instances.{parent_of, units}
use Rattle.of_ihandles.specs.Table.{InstanceTable}
use Rattle.of_ihandles.specs.declared.instance_fault.InstanceFault.{InstanceFault}
use Rattle.of_ihandles.specs.declared.instance_fault.InstanceFault.TheVariants as instance
use Rattle.of_nodes.specs.declared.properties.Span.{Span}
use Rattle.of_instances.specs.declared.calling.CallingWord.{CallingWord}
use Rattle.of_instances.specs.declared.calling.CallingWord.TheVariants as calling
use Rattle.of_instances.specs.declared.calling.Operands.{Operands}
use Rattle.of_instances.specs.Calling.{call_above, call_method_entry, call_of, call_package_entry, call_parent_entry}
use Rattle.of_instances.specs.Calling.{calling_entry, close_in, close_of, close_package_entry, method_in}
use Rattle.of_instances.specs.Calling.{method_of as calling_method, method_there, new_instance, none_found, open_at}
use Rattle.of_instances.specs.Calling.{open_found, open_in, open_named, open_named_entry, open_of, open_package_entry}
use Rattle.of_instances.specs.Calling.{opened_with, xt_for}
use Rattle.of_instances.specs.TreeWords.{named_unopened_entry, unopened_entry}
use Rattle.of_instances.specs.Encoding.{array, cells_left, decode_int_entry, decode_phys_entry, decode_string_entry}
use Rattle.of_instances.specs.Encoding.{encode_bytes_entry, encode_int_entry, encode_phys_entry, encode_plus_entry}
use Rattle.of_instances.specs.Encoding.{encode_string_entry, encoded_left, int_left, joined_left, phys_left, phys_read}
use Rattle.of_instances.specs.Encoding.{string_left}
use Rattle.of_instances.specs.Faults.{of_array, of_device, of_instance, of_tree}
use Rattle.of_instances.specs.Finding.{get_inherited_entry, get_my_entry, get_package_entry, inherited, inherited_for}
use Rattle.of_instances.specs.Finding.{inherited_found, name_found, name_left, next_entry, or_above, property_in}
use Rattle.of_instances.specs.Finding.{property_of, value_found, value_left}
use Rattle.of_instances.specs.Listed.{ThrowListedNumbers}
use Rattle.of_instances.specs.PropertyWords.{properties_entry}
use Rattle.of_instances.specs.Reading.{active_package, cells_by, cells_in, cells_of, package_at, package_for}
use Rattle.of_instances.specs.Reading.{package_in, phandle_if}
use Rattle.of_instances.specs.Reading.{text_at, text_read}
use Rattle.of_instances.specs.Setting.{delete_entry, deleted_left, property_cut, property_entry, property_made}
use Rattle.of_instances.specs.Setting.{property_put, reg_entry, reg_made, reg_put, set_left, string_entry, string_made}
use Rattle.of_instances.specs.InstanceWords.{behind_high, cell_left, counted, high, my_address_entry, my_args_entry}
use Rattle.of_instances.specs.InstanceWords.{my_parent_entry, my_self_entry, my_space_entry, my_unit_entry, own_cells}
use Rattle.of_instances.specs.InstanceWords.{own_unit, package_of_entry, phandle_left, span_left, unit_left}
use Rattle.of_instances.specs.InstanceWords.{arguments_left, arguments_read, instances_left, set_args_entry, unit_read}
use Rattle.of_instances.specs.Left.{with_room, with_stack}
use Rattle.of_instances.specs.TreeWords.{as_cell, child_entry, find_method_entry, find_package_entry, finished_left}
use Rattle.of_instances.specs.TreeWords.{found_left, handle_left, method_left, method_of, new_device_entry}
use Rattle.of_instances.specs.TreeWords.{package_left, peer_entry, tree_entry, release_entry}

-- ---- faults, and what is read

nodes : {A : Type 0} (r : Result A NodeFault) → ThrowsListed (of_tree r)
unfolding is_listed listed_numbers
nodes (Ok x) = tt
nodes (Err NoNode) = refl
nodes (Err BadName) = refl
nodes (Err PropertyFull) = refl
nodes (Err TooManyNodes) = refl
nodes (Err NoMemory) = refl

arrays : {A : Type 0} (r : Result A PropFault) → ThrowsListed (of_array r)
unfolding is_listed listed_numbers
arrays (Ok x) = tt
arrays (Err Address) = refl
arrays (Err NotAdjacent) = refl
arrays (Err Short) = refl
arrays (Err Full) = refl

texts : (r : Result (List ℕ) MemFault) → ThrowsListed (text_read r)
unfolding is_listed listed_numbers
texts (Ok xs) = tt
texts (Err fault) = refl

text : (m : DataSpace) (a n : Cell) → ThrowsListed (text_at m a n)
text m a n = texts (read_bytes m a.0 n.0)

phandles : (ph : Phandle) (i : Option ℕ) → ThrowsListed (phandle_if ph i)
unfolding is_listed listed_numbers
phandles ph None = refl
phandles ph (Some i) = tt

one_package : (ns : List Node) (x : Cell) → ThrowsListed (package_at ns x)
one_package ns x = phandles (record { 0 = x }) (number_of (length ns) (record { 0 = x }))

packages : (ns : List Node) (ph : Option Phandle) → ThrowsListed (package_in ns ph)
unfolding is_listed listed_numbers
packages ns None = refl
packages ns (Some ph) = one_package ns ph.0

instances : {A : Type 0} (r : Result A InstanceFault) → ThrowsListed (of_instance r)
unfolding is_listed listed_numbers
instances (Ok x) = tt
instances (Err instance.NoInstance) = refl
instances (Err instance.Full) = refl
instances (Err instance.NoMemory) = refl

active_for : (b : Bool) (w : Board) → ThrowsListed (package_for b w)
active_for true w = packages w.tree w.active.«package»
active_for false w = instances (package_of w.instances w.active.my_self)

active : (w : Board) → ThrowsListed (active_package w)
active w = active_for (w.active.my_self.0 == 0) w

cells : (m : DataSpace) (ns : List Node) (r : Result (Option Phandle) NodeFault) → ThrowsListed (cells_by m ns r)
cells m ns (Ok None) = tt
cells m ns (Ok (Some above)) = nodes (cells_found m ns above)
cells m ns (Err fault) = nodes {A = ℕ} (Err fault)

cells_inside : (m : DataSpace) (ns : List Node) (r : Result Phandle Throw) → ThrowsListed r
    → ThrowsListed (cells_in m ns r)
cells_inside m ns (Ok ph) h = cells m ns (parent_found ns ph)
cells_inside m ns (Err t) h = h

counts : (w : Board) → ThrowsListed (cells_in w.memory w.tree (active_package w))
counts w = cells_inside w.memory w.tree (active_package w) (active w)

full : (b : Bool) (w : Board) → ThrowsListed (refused_if b stack_overflow w)
unfolding is_listed listed_numbers
full true w = refl
full false w = tt

fits : (r : Result Board Throw) → ThrowsListed r → ThrowsListed (with_room r)
fits (Ok w) h = full (nat_lt 256 (length w.stack)) w
fits (Err t) h = h

-- ---- encoding and decoding

encodes : (s : List Cell) (w : Board) (r : Result (Array × DataSpace) PropFault)
    → ThrowsListed (encoded_left s w (of_array r))
encodes s w (Ok x) = tt
encodes s w (Err fault) = arrays {A = Array × DataSpace} (Err fault)

encodes_phys : (b : Bool) (count : ℕ) (s : List Cell) (w : Board) →
    ThrowsListed (if b then Err stack_underflow
    else with_room (encoded_left (drop count s) w (of_array (phys_encoded w.memory (take count s)))))
unfolding is_listed listed_numbers
encodes_phys true count s w = refl
encodes_phys false count s w =
    let r = phys_encoded w.memory (take count s) in
    fits (encoded_left (drop count s) w (of_array r)) (encodes (drop count s) w r)

encodes_cells : (s : List Cell) (w : Board) (r : Result ℕ Throw) → ThrowsListed r → ThrowsListed (phys_left s w r)
encodes_cells s w (Ok count) h = encodes_phys (nat_lt (length s) count) count s w
encodes_cells s w (Err t) h = h

joins : (s : List Cell) (w : Board) (r : Result Array PropFault) → ThrowsListed (joined_left s w (of_array r))
joins s w (Ok p) = tt
joins s w (Err fault) = arrays {A = Array} (Err fault)

decodes_int : (s : List Cell) (w : Board) (r : Result (Cell × Array) PropFault)
    → ThrowsListed (int_left s w (of_array r))
decodes_int s w (Ok x) = tt
decodes_int s w (Err fault) = arrays {A = Cell × Array} (Err fault)

decodes_string : (s : List Cell) (w : Board) (r : Result (Array × Array) PropFault)
    → ThrowsListed (string_left s w (of_array r))
decodes_string s w (Ok x) = tt
decodes_string s w (Err fault) = arrays {A = Array × Array} (Err fault)

decodes_phys : (s : List Cell) (w : Board) (r : Result (List Cell × Array) PropFault)
    → ThrowsListed (cells_left s w (of_array r))
decodes_phys s w (Ok x) = tt
decodes_phys s w (Err fault) = arrays {A = List Cell × Array} (Err fault)

decodes_cells : (s : List Cell) (w : Board) (p : Array) (r : Result ℕ Throw) → ThrowsListed r
    → ThrowsListed (phys_read s w p r)
decodes_cells s w p (Ok count) h =
    let r = phys_decoded w.memory p count in fits (cells_left s w (of_array r)) (decodes_phys s w r)
decodes_cells s w p (Err t) h = h

-- ---- setting

sets : (s : List Cell) (w : Board) (r : Result (List Node × DataSpace) NodeFault)
    → ThrowsListed (set_left s w (of_tree r))
sets s w (Ok x) = tt
sets s w (Err fault) = nodes {A = List Node × DataSpace} (Err fault)

puts : (s : List Cell) (w : Board) (ph : Phandle) (name value : List ℕ) → ThrowsListed (property_put s w ph name value)
puts s w ph name value = sets s w _

makes : (s : List Cell) (w : Board) (ph : Result Phandle Throw) (value name : Result (List ℕ) Throw) → ThrowsListed ph
    → ThrowsListed value → ThrowsListed name → ThrowsListed (property_made s w ph value name)
makes s w (Err t) value name h k l = h
makes s w (Ok ph) (Err t) name h k l = k
makes s w (Ok ph) (Ok value) (Err t) h k l = l
makes s w (Ok ph) (Ok value) (Ok name) h k l = puts s w ph name value

makes_string : (name : List ℕ) (s : List Cell) (w : Board) (ph : Result Phandle Throw) (text : Result (List ℕ) Throw)
    → ThrowsListed ph → ThrowsListed text → ThrowsListed (string_made name s w ph text)
makes_string name s w (Err t) text h k = h
makes_string name s w (Ok ph) (Err t) h k = k
makes_string name s w (Ok ph) (Ok text) h k = puts s w ph name (text ++ 0 ∷ [])

sets_string : (name : List ℕ) (s : List Cell) (w : Board) → ThrowsListed (string_entry name s w)
unfolding string_entry is_listed listed_numbers
sets_string name (n ∷ a ∷ s) w = makes_string name s w _ _ (active w) (text w.memory a n)
sets_string name _ w = refl

reg_if : (b : Bool) (size : Cell) (count : ℕ) (s : List Cell) (w : Board) (ph : Phandle) →
    ThrowsListed (if b then Err stack_underflow
    else property_put (drop count s) w ph (codes "reg") (phys_bytes (take count s ++ size ∷ [])))
unfolding is_listed listed_numbers
reg_if true size count s w ph = refl
reg_if false size count s w ph = puts (drop count s) w ph (codes "reg") (phys_bytes (take count s ++ size ∷ []))

puts_reg : (size : Cell) (s : List Cell) (w : Board) (ph : Phandle) (r : Result ℕ Throw) → ThrowsListed r
    → ThrowsListed (reg_put size s w ph r)
puts_reg size s w ph (Ok count) h = reg_if (nat_lt (length s) count) size count s w ph
puts_reg size s w ph (Err t) h = h

makes_reg : (size : Cell) (s : List Cell) (w : Board) (ph : Result Phandle Throw) → ThrowsListed ph
    → ThrowsListed (reg_made size s w ph)
makes_reg size s w (Ok ph) h =
    puts_reg size s w ph (cells_of w.memory w.tree ph) (cells w.memory w.tree (parent_found w.tree ph))
makes_reg size s w (Err t) h = h

deletes : (s : List Cell) (w : Board) (r : Result (Unit {0} × List Node) NodeFault)
    → ThrowsListed (deleted_left s w (of_tree r))
deletes s w (Ok x) = tt
deletes s w (Err fault) = nodes {A = Unit {0} × List Node} (Err fault)

cuts : (s : List Cell) (w : Board) (ph : Result Phandle Throw) (name : Result (List ℕ) Throw) → ThrowsListed ph
    → ThrowsListed name → ThrowsListed (property_cut s w ph name)
cuts s w (Err t) name h k = h
cuts s w (Ok ph) (Err t) h k = k
cuts s w (Ok ph) (Ok name) h k = deletes s w _

-- ---- finding

values : (s : List Cell) (w : Board) (r : Result (Option Property) NodeFault)
    → ThrowsListed (value_left s w (of_tree r))
values s w (Ok None) = tt
values s w (Ok (Some p)) = tt
values s w (Err fault) = nodes {A = Option Property} (Err fault)

finds_value : (s : List Cell) (w : Board) (ph : Result Phandle Throw) (name : Result (List ℕ) Throw) → ThrowsListed ph
    → ThrowsListed name → ThrowsListed (value_found s w ph name)
finds_value s w (Err t) name h k = h
finds_value s w (Ok ph) (Err t) h k = k
finds_value s w (Ok ph) (Ok name) h k = values s w _

names : (s : List Cell) (w : Board) (r : Result (Option Property) NodeFault) → ThrowsListed (name_left s w (of_tree r))
names s w (Ok None) = tt
names s w (Ok (Some p)) = tt
names s w (Err fault) = nodes {A = Option Property} (Err fault)

finds_name : (s : List Cell) (w : Board) (ph : Result Phandle Throw) (name : Result (List ℕ) Throw) → ThrowsListed ph
    → ThrowsListed name → ThrowsListed (name_found s w ph name)
finds_name s w (Err t) name h k = h
finds_name s w (Ok ph) (Err t) h k = k
finds_name s w (Ok ph) (Ok name) h k = names s w _

-- ---- the group Properties, a word at a time

property : (s : List Cell) (w : Board) → ThrowsListed (property_entry s w)
unfolding property_entry is_listed listed_numbers
property (n ∷ a ∷ k ∷ p ∷ s) w = makes s w _ _ _ (active w) (text w.memory p k) (text w.memory a n)
property _ w = refl

encode_int : (s : List Cell) (w : Board) → ThrowsListed (encode_int_entry s w)
unfolding encode_int_entry is_listed listed_numbers
encode_int [] w = refl
encode_int (x ∷ s) w =
    let r = int_encoded w.memory x in fits (encoded_left s w (of_array r)) (encodes s w r)

encode_string : (s : List Cell) (w : Board) → ThrowsListed (encode_string_entry s w)
unfolding encode_string_entry is_listed listed_numbers
encode_string (n ∷ a ∷ s) w = encodes s w _
encode_string _ w = refl

encode_bytes : (s : List Cell) (w : Board) → ThrowsListed (encode_bytes_entry s w)
unfolding encode_bytes_entry is_listed listed_numbers
encode_bytes (n ∷ a ∷ s) w = encodes s w _
encode_bytes _ w = refl

encode_phys : (s : List Cell) (w : Board) → ThrowsListed (encode_phys_entry s w)
unfolding encode_phys_entry is_listed listed_numbers
encode_phys [] w = refl
encode_phys (hi ∷ s) w = encodes_cells (hi ∷ s) w _ (counts w)

encode_plus : (s : List Cell) (w : Board) → ThrowsListed (encode_plus_entry s w)
unfolding encode_plus_entry is_listed listed_numbers
encode_plus (k ∷ q ∷ n ∷ p ∷ s) w = joins s w _
encode_plus _ w = refl

decode_int : (s : List Cell) (w : Board) → ThrowsListed (decode_int_entry s w)
unfolding decode_int_entry is_listed listed_numbers
decode_int (n ∷ p ∷ s) w =
    let r = int_decoded w.memory (array p n) in fits (int_left s w (of_array r)) (decodes_int s w r)
decode_int _ w = refl

decode_string : (s : List Cell) (w : Board) → ThrowsListed (decode_string_entry s w)
unfolding decode_string_entry is_listed listed_numbers
decode_string (n ∷ p ∷ s) w =
    let r = string_decoded w.memory (array p n) in fits (string_left s w (of_array r)) (decodes_string s w r)
decode_string _ w = refl

decode_phys : (s : List Cell) (w : Board) → ThrowsListed (decode_phys_entry s w)
unfolding decode_phys_entry is_listed listed_numbers
decode_phys (n ∷ p ∷ s) w = decodes_cells s w (array p n) _ (counts w)
decode_phys _ w = refl

reg : (s : List Cell) (w : Board) → ThrowsListed (reg_entry s w)
unfolding reg_entry is_listed listed_numbers
reg (size ∷ hi ∷ s) w = makes_reg size (hi ∷ s) w _ (active w)
reg _ w = refl

get_my : (s : List Cell) (w : Board) → ThrowsListed (get_my_entry s w)
unfolding get_my_entry is_listed listed_numbers
get_my (n ∷ a ∷ s) w = fits _ (finds_value s w _ _ (active w) (text w.memory a n))
get_my _ w = refl

-- ---- through the parents

one_property : (w : Board) (name : List ℕ) (ph : Result Phandle Throw) → ThrowsListed ph
    → ThrowsListed (property_in w name ph)
one_property w name (Ok ph) h = nodes (property_found w.tree ph name)
one_property w name (Err t) h = h

parent_listed : (r : Result (Option Property) Throw) (above : Result Cell Throw)
    (rest : Cell → Result (Option Property) Throw) → ThrowsListed r → ThrowsListed above
    → ((ih : Cell) → ThrowsListed (rest ih)) → ThrowsListed (or_above r above rest)
parent_listed (Err t) above rest h k l = h
parent_listed (Ok (Some p)) above rest h k l = tt
parent_listed (Ok None) (Err t) rest h k l = k
parent_listed (Ok None) (Ok ih) rest h k l = rest_listed (ih.0 == 0) (rest ih) (l ih)
  where
    rest_listed : (b : Bool) (r : Result (Option Property) Throw) → ThrowsListed r
        → ThrowsListed (if b then Ok None else r)
    rest_listed true r h = tt
    rest_listed false r h = h

inherits : (w : Board) (name : List ℕ) (n : ℕ) (ih : Cell) → ThrowsListed (inherited w name n ih)
unfolding inherited
inherits w name zero ih = tt
inherits w name (suc n) ih =
    parent_listed (property_of w name ih) (of_instance (parent_of w.instances ih)) _
    (one_property w name (of_instance (package_of w.instances ih)) (instances (package_of w.instances ih)))
    (instances (parent_of w.instances ih)) (λ x. inherits w name n x)

inherits_for : (b : Bool) (w : Board) (ph : Phandle) (name : List ℕ) → ThrowsListed (inherited_for b w (Ok ph) name)
inherits_for true w ph name = nodes (property_found w.tree ph name)
inherits_for false w ph name = inherits w name most_instances w.active.my_self

inherits_found : (w : Board) (ph : Result Phandle Throw) (name : Result (List ℕ) Throw) → ThrowsListed ph
    → ThrowsListed name → ThrowsListed (inherited_found w ph name)
inherits_found w (Err t) name h k = h
inherits_found w (Ok ph) (Err t) h k = k
inherits_found w (Ok ph) (Ok name) h k = inherits_for (w.active.my_self.0 == 0) w ph name

found_listed : (s : List Cell) (w : Board) (r : Result (Option Property) Throw) → ThrowsListed r
    → ThrowsListed (value_left s w r)
found_listed s w (Ok None) h = tt
found_listed s w (Ok (Some p)) h = tt
found_listed s w (Err t) h = h

get_inherited : (s : List Cell) (w : Board) → ThrowsListed (get_inherited_entry s w)
unfolding get_inherited_entry is_listed listed_numbers
get_inherited (n ∷ a ∷ s) w =
    fits _
    (found_listed s w _ (inherits_found w (active_package w) (text_at w.memory a n) (active w) (text w.memory a n)))
get_inherited _ w = refl

get_package : (s : List Cell) (w : Board) → ThrowsListed (get_package_entry s w)
unfolding get_package_entry is_listed listed_numbers
get_package (ph ∷ n ∷ a ∷ s) w = finds_value s w _ _ (one_package w.tree ph) (text w.memory a n)
get_package _ w = refl

delete : (s : List Cell) (w : Board) → ThrowsListed (delete_entry s w)
unfolding delete_entry is_listed listed_numbers
delete (n ∷ a ∷ s) w = cuts s w _ _ (active w) (text w.memory a n)
delete _ w = refl

next : (s : List Cell) (w : Board) → ThrowsListed (next_entry s w)
unfolding next_entry is_listed listed_numbers
next (ph ∷ n ∷ a ∷ s) w = finds_name s w _ _ (one_package w.tree ph) (text w.memory a n)
next _ w = refl

properties : (p : PropertiesWord) (w : Board) → ThrowsListed (properties_entry p w)
unfolding properties_entry is_listed listed_numbers
properties word.Property w = property w.stack w
properties word.EncodeInt w = encode_int w.stack w
properties word.EncodeString w = encode_string w.stack w
properties word.EncodeBytes w = encode_bytes w.stack w
properties word.EncodePhys w = encode_phys w.stack w
properties word.EncodePlus w = encode_plus w.stack w
properties word.DecodeInt w = decode_int w.stack w
properties word.DecodeString w = decode_string w.stack w
properties word.DecodePhys w = decode_phys w.stack w
properties word.Reg w = reg w.stack w
properties word.Model w = sets_string (codes "model") w.stack w
properties word.DeviceType w = sets_string (codes "device_type") w.stack w
properties word.DeviceName w = sets_string (codes "name") w.stack w
properties word.GetMyProperty w = get_my w.stack w
properties word.GetInheritedProperty w = get_inherited w.stack w
properties word.GetPackageProperty w = get_package w.stack w
properties word.DeleteProperty w = delete w.stack w
properties word.NextProperty w = next w.stack w

-- ---- the group Tree, a word at a time

devices : (r : Result Board DeviceFault) → ThrowsListed (of_device r)
devices (Ok w) = tt
devices (Err (device.Node fault)) = nodes {A = Board} (Err fault)
devices (Err (device.Instance fault)) = instances {A = Board} (Err fault)

new_device : (w : Board) (ph : Option Phandle) → ThrowsListed (new_device_entry w ph)
unfolding new_device_entry is_listed listed_numbers
new_device w None = refl
new_device w (Some ph) = devices (device_opened w ph)

finishes : (o : Option Board) → ThrowsListed (finished_left o)
unfolding is_listed listed_numbers
finishes None = refl
finishes (Some w) = tt

handles : (s : List Cell) (w : Board) (r : Result (Option Phandle) NodeFault)
    → ThrowsListed (handle_left s w (of_tree r))
handles s w (Ok x) = tt
handles s w (Err fault) = nodes {A = Option Phandle} (Err fault)

child : (s : List Cell) (w : Board) → ThrowsListed (child_entry s w)
unfolding child_entry is_listed listed_numbers
child [] w = refl
child (x ∷ s) w = handles s w _

peer_if : (b : Bool) (left r : Result Board Throw) → ThrowsListed left → ThrowsListed r
    → ThrowsListed (if b then left else r)
peer_if true left r h k = h
peer_if false left r h k = k

peer : (s : List Cell) (w : Board) → ThrowsListed (peer_entry s w)
unfolding peer_entry is_listed listed_numbers
peer [] w = refl
peer (x ∷ s) w = peer_if (x.0 == 0) _ _ tt (handles s w _)

finds : (s : List Cell) (w : Board) (x : Option Cell) → ThrowsListed (found_left s w x)
finds s w None = tt
finds s w (Some x) = tt

finds_package : (s : List Cell) (w : Board) (r : Result (List ℕ) Throw) → ThrowsListed r
    → ThrowsListed (package_left s w r)
finds_package s w (Ok path) h = finds s w (as_cell (package_found w.memory w.tree path))
finds_package s w (Err t) h = h

find_package : (s : List Cell) (w : Board) → ThrowsListed (find_package_entry s w)
unfolding find_package_entry is_listed listed_numbers
find_package (n ∷ a ∷ s) w = finds_package s w _ (text w.memory a n)
find_package _ w = refl

methods : (s : List Cell) (w : Board) (r : Result (Option Cell) NodeFault) → ThrowsListed (method_left s w (of_tree r))
methods s w (Ok x) = finds s w x
methods s w (Err fault) = nodes {A = Option Cell} (Err fault)

finds_method : (s : List Cell) (w : Board) (ph : Result Phandle Throw) (name : Result (List ℕ) Throw) → ThrowsListed ph
    → ThrowsListed name → ThrowsListed (method_of s w ph name)
finds_method s w (Err t) name h k = h
finds_method s w (Ok ph) (Err t) h k = k
finds_method s w (Ok ph) (Ok name) h k = methods s w _

find_method : (s : List Cell) (w : Board) → ThrowsListed (find_method_entry s w)
unfolding find_method_entry is_listed listed_numbers
find_method (ph ∷ n ∷ a ∷ s) w = finds_method s w _ _ (one_package w.tree ph) (text w.memory a n)
find_method _ w = refl

-- ---- instances

cell : (s : List Cell) (w : Board) (r : Result Cell Throw) → ThrowsListed r → ThrowsListed (cell_left s w r)
cell s w (Ok x) h = fits (Ok (with_stack w (x ∷ s))) tt
cell s w (Err t) h = h

unit_cells : (s : List Cell) (w : Board) (r : Result (List Cell) Throw) → ThrowsListed r
    → ThrowsListed (unit_left s w r)
unit_cells s w (Ok xs) h = fits (Ok (with_stack w (xs ++ s))) tt
unit_cells s w (Err t) h = h

span : (s : List Cell) (w : Board) (r : Result Span Throw) → ThrowsListed r → ThrowsListed (span_left s w r)
span s w (Ok b) h = fits (Ok (with_stack w (b.length ∷ b.address ∷ s))) tt
span s w (Err t) h = h

phandle : (s : List Cell) (w : Board) (r : Result Phandle Throw) → ThrowsListed r → ThrowsListed (phandle_left s w r)
phandle s w (Ok ph) h = tt
phandle s w (Err t) h = h

count : (w : Board) → ThrowsListed (own_cells w)
count w =
    cells_inside w.memory w.tree (of_instance (package_of w.instances w.active.my_self))
    (instances (package_of w.instances w.active.my_self))

units_counted : (unit : Result (List Cell) Throw) (n : Result ℕ Throw) → ThrowsListed unit → ThrowsListed n
    → ThrowsListed (counted unit n)
units_counted (Err t) n h k = h
units_counted (Ok xs) (Err t) h k = k
units_counted (Ok xs) (Ok n) h k = tt

unit : (w : Board) → ThrowsListed (own_unit w)
unit w =
    units_counted (of_instance (units w.instances w.active.my_self)) (own_cells w)
    (instances (units w.instances w.active.my_self)) (count w)

behind : (r : Result (List Cell) Throw) → ThrowsListed r → ThrowsListed (behind_high r)
behind (Ok xs) h = tt
behind (Err t) h = h

highest : (r : Result (List Cell) Throw) → ThrowsListed r → ThrowsListed (high r)
highest (Ok xs) h = tt
highest (Err t) h = h

my_self : (s : List Cell) (w : Board) → ThrowsListed (my_self_entry s w)
unfolding my_self_entry
my_self s w = cell s w (Ok w.active.my_self) tt

my_parent : (s : List Cell) (w : Board) → ThrowsListed (my_parent_entry s w)
unfolding my_parent_entry
my_parent s w =
    cell s w (of_instance (parent_of w.instances w.active.my_self)) (instances (parent_of w.instances w.active.my_self))

package_of_word : (s : List Cell) (w : Board) → ThrowsListed (package_of_entry s w)
unfolding package_of_entry is_listed listed_numbers
package_of_word [] w = refl
package_of_word (ih ∷ s) w =
    phandle s w (of_instance (package_of w.instances ih)) (instances (package_of w.instances ih))

my_args : (s : List Cell) (w : Board) → ThrowsListed (my_args_entry s w)
unfolding my_args_entry
my_args s w =
    span s w (of_instance (argument_span w.instances w.active.my_self))
    (instances (argument_span w.instances w.active.my_self))

my_unit : (s : List Cell) (w : Board) → ThrowsListed (my_unit_entry s w)
unfolding my_unit_entry
my_unit s w = unit_cells s w (own_unit w) (unit w)

my_address : (s : List Cell) (w : Board) → ThrowsListed (my_address_entry s w)
unfolding my_address_entry
my_address s w = unit_cells s w (behind_high (own_unit w)) (behind (own_unit w) (unit w))

my_space : (s : List Cell) (w : Board) → ThrowsListed (my_space_entry s w)
unfolding my_space_entry
my_space s w = unit_cells s w (high (own_unit w)) (highest (own_unit w) (unit w))

args_left : (s : List Cell) (w : Board) (r : Result (Unit {0} × (InstanceTable × DataSpace)) Throw) → ThrowsListed r
    → ThrowsListed (instances_left s w r)
args_left s w (Ok x) h = tt
args_left s w (Err t) h = h

args_read : (s : List Cell) (w : Board) (arguments : List ℕ) (o : Option (List Cell))
    → ThrowsListed (arguments_left s w arguments o)
unfolding is_listed listed_numbers
args_read s w arguments None = refl
args_read s w arguments (Some xs) =
    args_left s w (of_instance (arguments_set w.instances w.memory w.active.my_self arguments xs))
    (instances (arguments_set w.instances w.memory w.active.my_self arguments xs))

args_both : (s : List Cell) (w : Board) (n : Result ℕ Throw) (x y : Result (List ℕ) Throw) → ThrowsListed n
    → ThrowsListed x → ThrowsListed y → ThrowsListed (arguments_read s w n x y)
args_both s w (Err t) x y h k l = h
args_both s w (Ok n) (Err t) y h k l = k
args_both s w (Ok n) (Ok xs) (Err t) h k l = l
args_both s w (Ok n) (Ok xs) (Ok ys) h k l = args_read s w xs (unit_read n ys)

set_args : (s : List Cell) (w : Board) → ThrowsListed (set_args_entry s w)
unfolding set_args_entry is_listed listed_numbers
set_args (k ∷ u ∷ n ∷ a ∷ s) w =
    args_both s w (own_cells w) (text_at w.memory a n) (text_at w.memory u k) (count w) (text w.memory a n)
    (text w.memory u k)
set_args _ w = refl

release : (s : List Cell) (w : Board) → ThrowsListed (release_entry s w)
unfolding release_entry is_listed listed_numbers
release [] w = refl
release (ih ∷ s) w =
    args_left s w (of_instance (closed w.instances w.memory ih)) (instances (closed w.instances w.memory ih))

unopened : (s : List Cell) (w : Board) → ThrowsListed (unopened_entry s w)
unfolding unopened_entry is_listed listed_numbers
unopened (ph ∷ n ∷ a ∷ s) w = tt
unopened _ w = refl

named_unopened : (s : List Cell) (w : Board) → ThrowsListed (named_unopened_entry s w)
unfolding named_unopened_entry is_listed listed_numbers
named_unopened (k ∷ p ∷ n ∷ a ∷ s) w = tt
named_unopened _ w = refl

tree : (p : TreeWord) (w : Board) → ThrowsListed (tree_entry p w)
unfolding tree_entry is_listed listed_numbers
tree node.NewDevice w = new_device w w.active.«package»
tree node.FinishDevice w = finishes (device_finished w)
tree node.Child w = child w.stack w
tree node.Peer w = peer w.stack w
tree node.FindPackage w = find_package w.stack w
tree node.FindMethod w = find_method w.stack w
tree node.OpenPackage w = unopened w.stack w
tree node.OpenNamedPackage w = named_unopened w.stack w
tree node.ClosePackage w = release w.stack w
tree node.CallPackage w = refl
tree node.CallParent w = refl
tree node.CallMethod w = refl
tree node.MySelf w = my_self w.stack w
tree node.MyParent w = my_parent w.stack w
tree node.PackageOf w = package_of_word w.stack w
tree node.MyArgs w = my_args w.stack w
tree node.SetArgs w = set_args w.stack w
tree node.MyUnit w = my_unit w.stack w
tree node.MyAddress w = my_address w.stack w
tree node.MySpace w = my_space w.stack w

-- ---- words that call a method

method_xt : (r : Result (Option Cell) Throw) → ThrowsListed r → ThrowsListed (method_there r)
unfolding is_listed listed_numbers
method_xt (Ok None) h = refl
method_xt (Ok (Some xt)) h = tt
method_xt (Err t) h = h

method_found_in : (ns : List Node) (ph : Result Phandle Throw) (name : Result (List ℕ) Throw) → ThrowsListed ph
    → ThrowsListed name → ThrowsListed (method_in ns ph name)
method_found_in ns (Err t) name h k = h
method_found_in ns (Ok ph) (Err t) h k = k
method_found_in ns (Ok ph) (Ok name) h k =
    method_xt (of_tree (method_found ns ph name)) (nodes (method_found ns ph name))

method_for : (w : Board) (ih a n : Cell) → ThrowsListed (calling_method w ih a n)
method_for w ih a n =
    method_found_in w.tree _ _ (instances (package_of w.instances ih)) (text w.memory a n)

call_listed : (w : Board) (ih : Cell) (o : Operands) (r : Result Cell Throw) → ThrowsListed r
    → ThrowsListed (call_of w ih o r)
call_listed w ih o (Ok xt) h = tt
call_listed w ih o (Err t) h = h

xt_listed : (xt : Cell) (r : Result Phandle Throw) → ThrowsListed r → ThrowsListed (xt_for xt r)
xt_listed xt (Ok ph) h = tt
xt_listed xt (Err t) h = h

above_listed : (w : Board) (a n : Cell) (r : Result Cell Throw) → ThrowsListed r → ThrowsListed (call_above w a n r)
above_listed w a n (Ok parent) h = call_listed w parent _ _ (method_for w parent a n)
above_listed w a n (Err t) h = h

call_package : (s : List Cell) (w : Board) → ThrowsListed (call_package_entry s w)
unfolding call_package_entry is_listed listed_numbers
call_package (ih ∷ xt ∷ s) w =
    call_listed w ih _ _
    (xt_listed xt (of_instance (package_of w.instances ih)) (instances (package_of w.instances ih)))
call_package _ w = refl

call_method : (s : List Cell) (w : Board) → ThrowsListed (call_method_entry s w)
unfolding call_method_entry is_listed listed_numbers
call_method (ih ∷ n ∷ a ∷ s) w = call_listed w ih _ _ (method_for w ih a n)
call_method _ w = refl

call_parent : (s : List Cell) (w : Board) → ThrowsListed (call_parent_entry s w)
unfolding call_parent_entry is_listed listed_numbers
call_parent (n ∷ a ∷ s) w = above_listed w a n _ (instances (parent_of w.instances w.active.my_self))
call_parent _ w = refl

close_found : (ns : List Node) (ph : Result Phandle Throw) → ThrowsListed ph → ThrowsListed (close_in ns ph)
close_found ns (Ok ph) h = nodes (method_found ns ph (codes "close"))
close_found ns (Err t) h = h

close_listed : (w : Board) (ih : Cell) (r : Result (Option Cell) Throw) → ThrowsListed r
    → ThrowsListed (close_of w ih r)
close_listed w ih (Ok None) h = tt
close_listed w ih (Ok (Some xt)) h = tt
close_listed w ih (Err t) h = h

close_package : (s : List Cell) (w : Board) → ThrowsListed (close_package_entry s w)
unfolding close_package_entry is_listed listed_numbers
close_package [] w = refl
close_package (ih ∷ s) w =
    close_listed w ih _
    (close_found w.tree (of_instance (package_of w.instances ih)) (instances (package_of w.instances ih)))

open_listed : (ph : Phandle) (a n : Cell) (o : Operands) (r : Result (Option Cell) Throw) → ThrowsListed r
    → ThrowsListed (open_of ph a n o r)
open_listed ph a n o (Ok None) h = tt
open_listed ph a n o (Ok (Some xt)) h = tt
open_listed ph a n o (Err t) h = h

open_package_listed : (w : Board) (ph : Phandle) (a n : Cell) (o : Operands) (r : Result (List ℕ) Throw)
    → ThrowsListed r → ThrowsListed (open_in w ph a n o r)
open_package_listed w ph a n o (Ok arguments) h =
    open_listed ph a n o _ (nodes (method_found w.tree ph (codes "open")))
open_package_listed w ph a n o (Err t) h = h

open_there : (w : Board) (a n : Cell) (o : Operands) (r : Result Phandle Throw) → ThrowsListed r
    → ThrowsListed (open_at w a n o r)
open_there w a n o (Ok ph) h = open_package_listed w ph a n o (text_at w.memory a n) (text w.memory a n)
open_there w a n o (Err t) h = h

open_package : (s : List Cell) (w : Board) → ThrowsListed (open_package_entry s w)
unfolding open_package_entry is_listed listed_numbers
open_package (ph ∷ n ∷ a ∷ s) w = open_there w a n _ (package_at w.tree ph) (one_package w.tree ph)
open_package _ w = refl

none_listed : (r : Result (List ℕ) Throw) → ThrowsListed r → ThrowsListed (none_found r)
none_listed (Ok arguments) h = tt
none_listed (Err t) h = h

path_listed : (w : Board) (a n : Cell) (o : Operands) (ph : Option Phandle) → ThrowsListed (open_found w a n o ph)
path_listed w a n o None = none_listed (text_at w.memory a n) (text w.memory a n)
path_listed w a n o (Some ph) = open_package_listed w ph a n o (text_at w.memory a n) (text w.memory a n)

named_listed : (w : Board) (a n : Cell) (o : Operands) (r : Result (List ℕ) Throw) → ThrowsListed r
    → ThrowsListed (open_named w a n o r)
named_listed w a n o (Ok path) h = path_listed w a n o (package_found w.memory w.tree path)
named_listed w a n o (Err t) h = h

named : (s : List Cell) (w : Board) → ThrowsListed (open_named_entry s w)
unfolding open_named_entry is_listed listed_numbers
named (k ∷ p ∷ n ∷ a ∷ s) w = named_listed w a n _ (text_at w.memory p k) (text w.memory p k)
named _ w = refl

calls : (k : CallingWord) (w : Board) → ThrowsListed (calling_entry k w)
calls calling.Package w = call_package w.stack w
calls calling.Method w = call_method w.stack w
calls calling.Parent w = call_parent w.stack w
calls calling.Close w = close_package w.stack w
calls calling.Open w = open_package w.stack w
calls calling.OpenNamed w = named w.stack w

opened_listed : (w : Board) (ph : Phandle) (r : Result (List ℕ) Throw) → ThrowsListed r
    → ThrowsListed (opened_with w ph r)
opened_listed w ph (Ok arguments) h = instances (opened w.instances w.memory ph w.active.my_self arguments)
opened_listed w ph (Err t) h = h

opens : (w : Board) (ph : Phandle) (a n : Cell) → ThrowsListed (new_instance w ph a n)
opens w ph a n = opened_listed w ph (text_at w.memory a n) (text w.memory a n)

pub throw_listed_numbers : ThrowListedNumbers
throw_listed_numbers = record { properties = properties; tree = tree; calls = calls; opens = opens }
