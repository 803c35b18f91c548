-- Words over properties print nothing.
use Rattle.std.proofs.Common.{◌≡◌, ℕ, Bool, true, false, List, [], ◌∷◌, ◌++◌, length, take, drop, nat_lt, Option, Some}
use Rattle.std.proofs.Common.{None, Result, Ok, Err, codes, refl, if◌then◌else◌}
use Rattle.of_cells.specs.declared.cells.Cell.{Cell}
use Rattle.of_stacks.specs.declared.throws.Throw.{Throw}
use Rattle.of_stacks.specs.Order.{refused_if}
use Rattle.of_stacks.specs.Throws.{stack_overflow, stack_underflow}
use Rattle.of_memory.specs.DataSpace.{DataSpace}
use Rattle.of_fcodes.specs.declared.words.PropertiesWord.{PropertiesWord}
use Rattle.of_fcodes.specs.declared.words.PropertiesWord.TheVariants as word
use Rattle.of_nodes.specs.Nodes.{property_deleted, tree_property_set}
use Rattle.of_nodes.specs.declared.phandles.Phandle.{Phandle}
use Rattle.of_nodes.specs.declared.properties.Property.{Property}
use Rattle.of_nodes.specs.declared.tree.Node.{Node}
use Rattle.of_props.specs.Decoding.{int_decoded, phys_decoded, string_decoded}
use Rattle.of_props.specs.Encoding.{bytes_encoded, int_encoded, phys_bytes, phys_encoded, string_encoded}
use Rattle.of_props.specs.declared.arrays.Array.{Array}
use Rattle.of_board.specs.declared.board.Board.{Board}
use Rattle.of_instances.specs.Encoding.{array, cells_left, decode_int_entry, decode_phys_entry, decode_string_entry}
use Rattle.of_instances.specs.Encoding.{encode_bytes_entry, encode_int_entry, encode_phys_entry, encode_plus_entry}
use Rattle.of_instances.specs.Encoding.{encode_string_entry, encoded_left, int_left, joined_left, phys_left, phys_read}
use Rattle.of_instances.specs.Encoding.{string_left}
use Rattle.of_instances.specs.Faults.{of_array, of_tree}
use Rattle.of_instances.specs.Finding.{get_inherited_entry, get_my_entry, get_package_entry, inherited_found}
use Rattle.of_instances.specs.Finding.{name_found, name_left, next_entry, value_found, value_left}
use Rattle.of_instances.specs.Left.{with_room}
use Rattle.of_instances.specs.PropertyWords.{properties_entry}
use Rattle.of_instances.specs.Reading.{active_package, cells_in, cells_of, package_at, text_at}
use Rattle.of_instances.specs.Setting.{delete_entry, deleted_left, property_cut, property_entry, property_made}
use Rattle.of_instances.specs.Setting.{property_put, reg_entry, reg_made, reg_put, set_left, string_entry, string_made}

-- the console is as it was, unless there is a throw
abbrev pub IsQuiet : Board → Result Board Throw → Type 0
IsQuiet w (Ok after) = after.console ≡ w.console
IsQuiet w (Err t) = Unit {0}

room_if : (w : Board) (b : Bool) (after : Board) → after.console ≡ w.console
    → IsQuiet w (refused_if b stack_overflow after)
room_if w true after h = tt
room_if w false after h = h

pub room : (w : Board) (r : Result Board Throw) → IsQuiet w r → IsQuiet w (with_room r)
room w (Ok after) h = room_if w (nat_lt 256 (length after.stack)) after h
room w (Err t) h = tt

pub either : (b : Bool) (w : Board) (x y : Result Board Throw) → IsQuiet w x → IsQuiet w y
    → IsQuiet w (if b then x else y)
either true w x y h k = h
either false w x y h k = k

-- ---- encoding

encodes : (s : List Cell) (w : Board) (r : Result (Array × DataSpace) Throw) → IsQuiet w (encoded_left s w r)
encodes s w (Ok x) = refl
encodes s w (Err t) = tt

encode_int : (s : List Cell) (w : Board) → IsQuiet w (encode_int_entry s w)
unfolding encode_int_entry
encode_int [] w = tt
encode_int (x ∷ s) w =
    let r = of_array (int_encoded w.memory x) in room w (encoded_left s w r) (encodes s w r)

encode_string : (s : List Cell) (w : Board) → IsQuiet w (encode_string_entry s w)
unfolding encode_string_entry
encode_string (n ∷ a ∷ s) w = encodes s w (of_array (string_encoded w.memory a n))
encode_string _ w = tt

encode_bytes : (s : List Cell) (w : Board) → IsQuiet w (encode_bytes_entry s w)
unfolding encode_bytes_entry
encode_bytes (n ∷ a ∷ s) w = encodes s w (of_array (bytes_encoded w.memory a n))
encode_bytes _ w = tt

phys : (s : List Cell) (w : Board) (r : Result ℕ Throw) → IsQuiet w (phys_left s w r)
phys s w (Ok count) =
    let r = of_array (phys_encoded w.memory (take count s)) in
    let left = encoded_left (drop count s) w r in
    either (nat_lt (length s) count) w (Err stack_underflow) (with_room left) tt
    (room w left (encodes (drop count s) w r))
phys s w (Err t) = tt

encode_phys : (s : List Cell) (w : Board) → IsQuiet w (encode_phys_entry s w)
unfolding encode_phys_entry
encode_phys [] w = tt
encode_phys (hi ∷ s) w = phys (hi ∷ s) w (cells_in w.memory w.tree (active_package w))

joins : (s : List Cell) (w : Board) (r : Result Array Throw) → IsQuiet w (joined_left s w r)
joins s w (Ok p) = refl
joins s w (Err t) = tt

encode_plus : (s : List Cell) (w : Board) → IsQuiet w (encode_plus_entry s w)
unfolding encode_plus_entry
encode_plus (k ∷ q ∷ n ∷ p ∷ s) w = joins s w _
encode_plus _ w = tt

-- ---- decoding

ints : (s : List Cell) (w : Board) (r : Result (Cell × Array) Throw) → IsQuiet w (int_left s w r)
ints s w (Ok x) = refl
ints s w (Err t) = tt

decode_int : (s : List Cell) (w : Board) → IsQuiet w (decode_int_entry s w)
unfolding decode_int_entry
decode_int (n ∷ p ∷ s) w =
    let r = of_array (int_decoded w.memory (array p n)) in room w (int_left s w r) (ints s w r)
decode_int _ w = tt

strings : (s : List Cell) (w : Board) (r : Result (Array × Array) Throw) → IsQuiet w (string_left s w r)
strings s w (Ok x) = refl
strings s w (Err t) = tt

decode_string : (s : List Cell) (w : Board) → IsQuiet w (decode_string_entry s w)
unfolding decode_string_entry
decode_string (n ∷ p ∷ s) w =
    let r = of_array (string_decoded w.memory (array p n)) in room w (string_left s w r) (strings s w r)
decode_string _ w = tt

cells : (s : List Cell) (w : Board) (r : Result (List Cell × Array) Throw) → IsQuiet w (cells_left s w r)
cells s w (Ok x) = refl
cells s w (Err t) = tt

reads : (s : List Cell) (w : Board) (p : Array) (r : Result ℕ Throw) → IsQuiet w (phys_read s w p r)
reads s w p (Ok count) =
    let r = of_array (phys_decoded w.memory p count) in room w (cells_left s w r) (cells s w r)
reads s w p (Err t) = tt

decode_phys : (s : List Cell) (w : Board) → IsQuiet w (decode_phys_entry s w)
unfolding decode_phys_entry
decode_phys (n ∷ p ∷ s) w = reads s w (array p n) (cells_in w.memory w.tree (active_package w))
decode_phys _ w = tt

-- ---- finding

values : (s : List Cell) (w : Board) (r : Result (Option Property) Throw) → IsQuiet w (value_left s w r)
values s w (Ok None) = refl
values s w (Ok (Some p)) = refl
values s w (Err t) = tt

finds : (s : List Cell) (w : Board) (ph : Result Phandle Throw) (name : Result (List ℕ) Throw)
    → IsQuiet w (value_found s w ph name)
finds s w (Err t) name = tt
finds s w (Ok ph) (Err t) = tt
finds s w (Ok ph) (Ok name) = values s w _

get_my : (s : List Cell) (w : Board) → IsQuiet w (get_my_entry s w)
unfolding get_my_entry
get_my (n ∷ a ∷ s) w =
    let ph = active_package w in
    let name = text_at w.memory a n in
    room w (value_found s w ph name) (finds s w ph name)
get_my _ w = tt

get_inherited : (s : List Cell) (w : Board) → IsQuiet w (get_inherited_entry s w)
unfolding get_inherited_entry
get_inherited (n ∷ a ∷ s) w =
    let r = inherited_found w (active_package w) (text_at w.memory a n) in
    room w (value_left s w r) (values s w r)
get_inherited _ w = tt

get_package : (s : List Cell) (w : Board) → IsQuiet w (get_package_entry s w)
unfolding get_package_entry
get_package (ph ∷ n ∷ a ∷ s) w = finds s w (package_at w.tree ph) (text_at w.memory a n)
get_package _ w = tt

names : (s : List Cell) (w : Board) (r : Result (Option Property) Throw) → IsQuiet w (name_left s w r)
names s w (Ok None) = refl
names s w (Ok (Some p)) = refl
names s w (Err t) = tt

nexts : (s : List Cell) (w : Board) (ph : Result Phandle Throw) (name : Result (List ℕ) Throw)
    → IsQuiet w (name_found s w ph name)
nexts s w (Err t) name = tt
nexts s w (Ok ph) (Err t) = tt
nexts s w (Ok ph) (Ok name) = names s w _

next : (s : List Cell) (w : Board) → IsQuiet w (next_entry s w)
unfolding next_entry
next (ph ∷ n ∷ a ∷ s) w = nexts s w (package_at w.tree ph) (text_at w.memory a n)
next _ w = tt

-- ---- setting and deleting

sets : (s : List Cell) (w : Board) (r : Result (List Node × DataSpace) Throw) → IsQuiet w (set_left s w r)
sets s w (Ok x) = refl
sets s w (Err t) = tt

puts : (s : List Cell) (w : Board) (ph : Phandle) (name xs : List ℕ) → IsQuiet w (property_put s w ph name xs)
puts s w ph name xs = sets s w (of_tree (tree_property_set w.memory w.tree ph name xs))

makes : (s : List Cell) (w : Board) (ph : Result Phandle Throw) (value name : Result (List ℕ) Throw)
    → IsQuiet w (property_made s w ph value name)
makes s w (Err t) value name = tt
makes s w (Ok ph) (Err t) name = tt
makes s w (Ok ph) (Ok value) (Err t) = tt
makes s w (Ok ph) (Ok value) (Ok name) = puts s w ph name value

property : (s : List Cell) (w : Board) → IsQuiet w (property_entry s w)
unfolding property_entry
property (n ∷ a ∷ k ∷ p ∷ s) w = makes s w (active_package w) (text_at w.memory p k) (text_at w.memory a n)
property _ w = tt

texts : (name : List ℕ) (s : List Cell) (w : Board) (ph : Result Phandle Throw) (r : Result (List ℕ) Throw)
    → IsQuiet w (string_made name s w ph r)
texts name s w (Err t) r = tt
texts name s w (Ok ph) (Err t) = tt
texts name s w (Ok ph) (Ok xs) = puts s w ph name (xs ++ 0 ∷ [])

string : (name : List ℕ) (s : List Cell) (w : Board) → IsQuiet w (string_entry name s w)
unfolding string_entry
string name (n ∷ a ∷ s) w = texts name s w (active_package w) (text_at w.memory a n)
string name _ w = tt

regs : (size : Cell) (s : List Cell) (w : Board) (ph : Phandle) (r : Result ℕ Throw) → IsQuiet w (reg_put size s w ph r)
regs size s w ph (Ok count) =
    let xs = phys_bytes (take count s ++ size ∷ []) in
    either (nat_lt (length s) count) w (Err stack_underflow) (property_put (drop count s) w ph (codes "reg") xs) tt
    (puts (drop count s) w ph (codes "reg") xs)
regs size s w ph (Err t) = tt

reg_makes : (size : Cell) (s : List Cell) (w : Board) (ph : Result Phandle Throw) → IsQuiet w (reg_made size s w ph)
reg_makes size s w (Ok ph) = regs size s w ph (cells_of w.memory w.tree ph)
reg_makes size s w (Err t) = tt

reg : (s : List Cell) (w : Board) → IsQuiet w (reg_entry s w)
unfolding reg_entry
reg (size ∷ hi ∷ s) w = reg_makes size (hi ∷ s) w (active_package w)
reg _ w = tt

deletes : (s : List Cell) (w : Board) (r : Result (Unit {0} × List Node) Throw) → IsQuiet w (deleted_left s w r)
deletes s w (Ok x) = refl
deletes s w (Err t) = tt

cuts : (s : List Cell) (w : Board) (ph : Result Phandle Throw) (name : Result (List ℕ) Throw)
    → IsQuiet w (property_cut s w ph name)
cuts s w (Err t) name = tt
cuts s w (Ok ph) (Err t) = tt
cuts s w (Ok ph) (Ok name) = deletes s w (of_tree (property_deleted w.tree ph name))

delete : (s : List Cell) (w : Board) → IsQuiet w (delete_entry s w)
unfolding delete_entry
delete (n ∷ a ∷ s) w = cuts s w (active_package w) (text_at w.memory a n)
delete _ w = tt

-- ---- the group Properties

pub properties : (p : PropertiesWord) (w : Board) → IsQuiet w (properties_entry p w)
unfolding properties_entry
properties word.Property w = property w.stack w
properties word.EncodeInt w = encode_int w.stack w
properties word.EncodeString w = encode_string w.stack w
properties word.EncodeBytes w = encode_bytes w.stack w
properties word.EncodePhys w = encode_phys w.stack w
properties word.EncodePlus w = encode_plus w.stack w
properties word.DecodeInt w = decode_int w.stack w
properties word.DecodeString w = decode_string w.stack w
properties word.DecodePhys w = decode_phys w.stack w
properties word.Reg w = reg w.stack w
properties word.Model w = string (codes "model") w.stack w
properties word.DeviceType w = string (codes "device_type") w.stack w
properties word.DeviceName w = string (codes "name") w.stack w
properties word.GetMyProperty w = get_my w.stack w
properties word.GetInheritedProperty w = get_inherited w.stack w
properties word.GetPackageProperty w = get_package w.stack w
properties word.DeleteProperty w = delete w.stack w
properties word.NextProperty w = next w.stack w
