-- The law `words_keep_the_space`: what each word over properties leaves.
use Rattle.std.proofs.Common.{◌≡◌, ℕ, Bool, true, false, List, [], ◌∷◌, ◌++◌, length, take, drop, nat_lt, Option, Some}
use Rattle.std.proofs.Common.{None, Result, Ok, Err, codes, refl, if◌then◌else◌}
use Rattle.byteorder.specs.Endian.{big_bytes}
use Rattle.of_cells.specs.declared.cells.Cell.{Cell}
use Rattle.of_stacks.specs.declared.throws.Throw.{Throw}
use Rattle.of_stacks.specs.Throws.{stack_underflow}
use Rattle.of_memory.specs.Access.{are_readable}
use Rattle.of_memory.specs.DataSpace.{DataSpace, IsSound, bytes_from}
use Rattle.of_memory.specs.Growth.{appended}
use Rattle.of_memory.specs.SoundChanges.{AreBytes}
use Rattle.of_memory.specs.declared.fault.MemFault.{MemFault}
use Rattle.of_fcodes.specs.declared.words.PropertiesWord.{PropertiesWord}
use Rattle.of_fcodes.specs.declared.words.PropertiesWord.TheVariants as word
use Rattle.of_nodes.specs.Nodes.{property_deleted, tree_property_set}
use Rattle.of_nodes.specs.declared.fault.NodeFault.{NodeFault}
use Rattle.of_nodes.specs.declared.phandles.Phandle.{Phandle}
use Rattle.of_nodes.specs.declared.properties.Property.{Property}
use Rattle.of_nodes.specs.declared.tree.Node.{Node}
use Rattle.of_props.specs.Decoding.{int_decoded, phys_decoded, string_decoded}
use Rattle.of_props.specs.Encoding.{as_array, encoded, phys_bytes}
use Rattle.of_props.specs.declared.arrays.Array.{Array}
use Rattle.of_props.specs.declared.fault.PropFault.TheVariants.{Address}
use Rattle.of_ihandles.specs.SpaceKept.{Keeps as KeepsSpace}
use Rattle.of_board.specs.declared.board.Board.{Board}
use Rattle.of_instances.specs.Encoding.{array, cells_left, decode_int_entry, decode_phys_entry, decode_string_entry}
use Rattle.of_instances.specs.Encoding.{encode_bytes_entry, encode_int_entry, encode_phys_entry, encode_plus_entry}
use Rattle.of_instances.specs.Encoding.{encode_string_entry, encoded_left, int_left, joined_left, phys_left, phys_read}
use Rattle.of_instances.specs.Encoding.{string_left}
use Rattle.of_instances.specs.Faults.{of_array, of_tree}
use Rattle.of_instances.specs.Finding.{get_inherited_entry, get_my_entry, get_package_entry, inherited_found}
use Rattle.of_instances.specs.Finding.{name_found, name_left, next_entry, value_found, value_left}
use Rattle.of_instances.specs.Left.{with_room}
use Rattle.of_instances.specs.PropertyWords.{properties_entry}
use Rattle.of_instances.specs.Reading.{active_package, cells_of, package_at, text_at}
use Rattle.of_instances.specs.Setting.{delete_entry, deleted_left, property_cut, property_entry, property_made}
use Rattle.of_instances.specs.Setting.{property_put, reg_entry, reg_made, reg_put, set_left, string_entry, string_made}
use Rattle.of_instances.proofs.SpaceKept.{BoardKept, Given, IsText, by_space, either, joined}
use Rattle.of_instances.proofs.SpaceKept.{no_bytes, part, phys_small, room, same, tested, text}

-- ---- encoding

put : (g : Given) (s : List Cell) (w : Board) (xs : List ℕ) (r : Result (ℕ × DataSpace) MemFault) → IsSound w.memory
    → AreBytes xs → appended w.memory xs ≡ r → BoardKept w (encoded_left s w (of_array (as_array (length xs) r)))
put g s w xs (Ok x) sound small e =
    let space : KeepsSpace w.memory x.1 = record {
      sound = g.sound.by_append w.memory x.1 xs x.0 sound small e;
      images = g.images.by_append w.memory x.1 xs x.0 sound e;
      properties = g.properties.by_append w.memory x.1 xs x.0 sound e;
    } in
    by_space g w _ sound space (λ a. a)
put g s w xs (Err fault) sound small e = tt

encodes : (g : Given) (s : List Cell) (w : Board) (xs : List ℕ) → IsSound w.memory → AreBytes xs
    → BoardKept w (encoded_left s w (of_array (encoded w.memory xs)))
encodes g s w xs sound small = put g s w xs (appended w.memory xs) sound small refl

copy_if : (g : Given) (b : Bool) (s : List Cell) (w : Board) (xs : List ℕ) → IsSound w.memory → AreBytes xs
    → BoardKept w (encoded_left s w (of_array (if b then encoded w.memory xs else Err Address)))
copy_if g true s w xs sound small = encodes g s w xs sound small
copy_if g false s w xs sound small = tt

copies : (g : Given) (a n : Cell) (tail : List ℕ) (s : List Cell) (w : Board) → IsSound w.memory → AreBytes tail
    → BoardKept w (encoded_left s w (of_array
    (if are_readable w.memory a.0 n.0 then encoded w.memory (bytes_from w.memory a.0 n.0 ++ tail) else Err Address)))
copies g a n tail s w sound small =
    let xs = bytes_from w.memory a.0 n.0 in
    let bytes = joined xs tail (part w.memory a.0 n.0 sound) small in
    copy_if g (are_readable w.memory a.0 n.0) s w (xs ++ tail) sound bytes

encode_int : (g : Given) (s : List Cell) (w : Board) → IsSound w.memory → BoardKept w (encode_int_entry s w)
unfolding encode_int_entry
encode_int g [] w sound = tt
encode_int g (x ∷ s) w sound =
    room w (encoded_left s w (of_array (encoded w.memory (big_bytes 4 x.0))))
    (encodes g s w (big_bytes 4 x.0) sound (g.sound.number 4 x.0))

encode_string : (g : Given) (s : List Cell) (w : Board) → IsSound w.memory → BoardKept w (encode_string_entry s w)
unfolding encode_string_entry
encode_string g (n ∷ a ∷ s) w sound = copies g a n (0 ∷ []) s w sound (tested (0 ∷ []) refl)
encode_string g _ w sound = tt

encode_bytes : (g : Given) (s : List Cell) (w : Board) → IsSound w.memory → BoardKept w (encode_bytes_entry s w)
unfolding encode_bytes_entry
encode_bytes g (n ∷ a ∷ s) w sound = copies g a n [] s w sound no_bytes
encode_bytes g _ w sound = tt

phys : (g : Given) (s : List Cell) (w : Board) (r : Result ℕ Throw) → IsSound w.memory → BoardKept w (phys_left s w r)
phys g s w (Ok count) sound =
    let xs = phys_bytes (take count s) in
    let left = encoded_left (drop count s) w (of_array (encoded w.memory xs)) in
    either (nat_lt (length s) count) w (Err stack_underflow) (with_room left) tt
    (room w left (encodes g (drop count s) w xs sound (phys_small g (take count s))))
phys g s w (Err t) sound = tt

encode_phys : (g : Given) (s : List Cell) (w : Board) → IsSound w.memory → BoardKept w (encode_phys_entry s w)
unfolding encode_phys_entry
encode_phys g [] w sound = tt
encode_phys g (hi ∷ s) w sound = phys g (hi ∷ s) w _ sound

-- ---- what leaves data space and tree as they are

joins : (s : List Cell) (w : Board) (r : Result Array Throw) → IsSound w.memory → BoardKept w (joined_left s w r)
joins s w (Ok p) sound = same w sound
joins s w (Err t) sound = tt

encode_plus : (s : List Cell) (w : Board) → IsSound w.memory → BoardKept w (encode_plus_entry s w)
unfolding encode_plus_entry
encode_plus (k ∷ q ∷ n ∷ p ∷ s) w sound = joins s w _ sound
encode_plus _ w sound = tt

ints : (s : List Cell) (w : Board) (r : Result (Cell × Array) Throw) → IsSound w.memory → BoardKept w (int_left s w r)
ints s w (Ok x) sound = same w sound
ints s w (Err t) sound = tt

decode_int : (s : List Cell) (w : Board) → IsSound w.memory → BoardKept w (decode_int_entry s w)
unfolding decode_int_entry
decode_int (n ∷ p ∷ s) w sound =
    let r = of_array (int_decoded w.memory (array p n)) in room w (int_left s w r) (ints s w r sound)
decode_int _ w sound = tt

strings : (s : List Cell) (w : Board) (r : Result (Array × Array) Throw) → IsSound w.memory
    → BoardKept w (string_left s w r)
strings s w (Ok x) sound = same w sound
strings s w (Err t) sound = tt

decode_string : (s : List Cell) (w : Board) → IsSound w.memory → BoardKept w (decode_string_entry s w)
unfolding decode_string_entry
decode_string (n ∷ p ∷ s) w sound =
    let r = of_array (string_decoded w.memory (array p n)) in room w (string_left s w r) (strings s w r sound)
decode_string _ w sound = tt

cells : (s : List Cell) (w : Board) (r : Result (List Cell × Array) Throw) → IsSound w.memory
    → BoardKept w (cells_left s w r)
cells s w (Ok x) sound = same w sound
cells s w (Err t) sound = tt

reads : (s : List Cell) (w : Board) (p : Array) (r : Result ℕ Throw) → IsSound w.memory
    → BoardKept w (phys_read s w p r)
reads s w p (Ok count) sound =
    let r = of_array (phys_decoded w.memory p count) in room w (cells_left s w r) (cells s w r sound)
reads s w p (Err t) sound = tt

decode_phys : (s : List Cell) (w : Board) → IsSound w.memory → BoardKept w (decode_phys_entry s w)
unfolding decode_phys_entry
decode_phys (n ∷ p ∷ s) w sound = reads s w (array p n) _ sound
decode_phys _ w sound = tt

values : (s : List Cell) (w : Board) (r : Result (Option Property) Throw) → IsSound w.memory
    → BoardKept w (value_left s w r)
values s w (Ok None) sound = same w sound
values s w (Ok (Some p)) sound = same w sound
values s w (Err t) sound = tt

finds : (s : List Cell) (w : Board) (ph : Result Phandle Throw) (name : Result (List ℕ) Throw) → IsSound w.memory
    → BoardKept w (value_found s w ph name)
finds s w (Err t) name sound = tt
finds s w (Ok ph) (Err t) sound = tt
finds s w (Ok ph) (Ok name) sound = values s w _ sound

get_my : (s : List Cell) (w : Board) → IsSound w.memory → BoardKept w (get_my_entry s w)
unfolding get_my_entry
get_my (n ∷ a ∷ s) w sound =
    let ph = active_package w in
    let name = text_at w.memory a n in
    room w (value_found s w ph name) (finds s w ph name sound)
get_my _ w sound = tt

get_inherited : (s : List Cell) (w : Board) → IsSound w.memory → BoardKept w (get_inherited_entry s w)
unfolding get_inherited_entry
get_inherited (n ∷ a ∷ s) w sound =
    let r = inherited_found w (active_package w) (text_at w.memory a n) in
    room w (value_left s w r) (values s w r sound)
get_inherited _ w sound = tt

get_package : (s : List Cell) (w : Board) → IsSound w.memory → BoardKept w (get_package_entry s w)
unfolding get_package_entry
get_package (ph ∷ n ∷ a ∷ s) w sound = finds s w (package_at w.tree ph) (text_at w.memory a n) sound
get_package _ w sound = tt

names : (s : List Cell) (w : Board) (r : Result (Option Property) Throw) → IsSound w.memory
    → BoardKept w (name_left s w r)
names s w (Ok None) sound = same w sound
names s w (Ok (Some p)) sound = same w sound
names s w (Err t) sound = tt

nexts : (s : List Cell) (w : Board) (ph : Result Phandle Throw) (name : Result (List ℕ) Throw) → IsSound w.memory
    → BoardKept w (name_found s w ph name)
nexts s w (Err t) name sound = tt
nexts s w (Ok ph) (Err t) sound = tt
nexts s w (Ok ph) (Ok name) sound = names s w _ sound

next : (s : List Cell) (w : Board) → IsSound w.memory → BoardKept w (next_entry s w)
unfolding next_entry
next (ph ∷ n ∷ a ∷ s) w sound = nexts s w (package_at w.tree ph) (text_at w.memory a n) sound
next _ w sound = tt

-- ---- setting and deleting properties

sets : (g : Given) (s : List Cell) (w : Board) (ph : Phandle) (name xs : List ℕ)
    (r : Result (List Node × DataSpace) NodeFault) → IsSound w.memory → AreBytes name → AreBytes xs
    → tree_property_set w.memory w.tree ph name xs ≡ r → BoardKept w (set_left s w (of_tree r))
sets g s w ph name xs (Ok x) sound n small e =
    let k = g.nodes.by_set w.memory x.1 w.tree x.0 ph name xs sound n small e in
    record {
      sound = k.sound;
      images = k.images;
      stored = λ a. g.stored.by_set w.memory x.1 w.tree x.0 ph name xs sound a e;
    }
sets g s w ph name xs (Err fault) sound n small e = tt

puts : (g : Given) (s : List Cell) (w : Board) (ph : Phandle) (name xs : List ℕ) → IsSound w.memory → AreBytes name
    → AreBytes xs → BoardKept w (property_put s w ph name xs)
puts g s w ph name xs sound n small =
    sets g s w ph name xs (tree_property_set w.memory w.tree ph name xs) sound n small refl

makes : (g : Given) (s : List Cell) (w : Board) (ph : Result Phandle Throw) (value name : Result (List ℕ) Throw)
    → IsSound w.memory → IsText value → IsText name → BoardKept w (property_made s w ph value name)
makes g s w (Err t) value name sound h k = tt
makes g s w (Ok ph) (Err t) name sound h k = tt
makes g s w (Ok ph) (Ok value) (Err t) sound h k = tt
makes g s w (Ok ph) (Ok value) (Ok name) sound h k = puts g s w ph name value sound k h

property : (g : Given) (s : List Cell) (w : Board) → IsSound w.memory → BoardKept w (property_entry s w)
unfolding property_entry
property g (n ∷ a ∷ k ∷ p ∷ s) w sound =
    makes g s w (active_package w) (text_at w.memory p k) (text_at w.memory a n) sound (text w.memory p k sound)
    (text w.memory a n sound)
property g _ w sound = tt

texts : (g : Given) (name : List ℕ) (s : List Cell) (w : Board) (ph : Result Phandle Throw)
    (r : Result (List ℕ) Throw) → IsSound w.memory → AreBytes name → IsText r → BoardKept w (string_made name s w ph r)
texts g name s w (Err t) r sound n h = tt
texts g name s w (Ok ph) (Err t) sound n h = tt
texts g name s w (Ok ph) (Ok xs) sound n h =
    puts g s w ph name (xs ++ 0 ∷ []) sound n (joined xs (0 ∷ []) h (tested (0 ∷ []) refl))

string : (g : Given) (name : List ℕ) (s : List Cell) (w : Board) → IsSound w.memory → AreBytes name
    → BoardKept w (string_entry name s w)
unfolding string_entry
string g name (n ∷ a ∷ s) w sound small =
    texts g name s w (active_package w) (text_at w.memory a n) sound small (text w.memory a n sound)
string g name _ w sound small = tt

regs : (g : Given) (size : Cell) (s : List Cell) (w : Board) (ph : Phandle) (r : Result ℕ Throw) → IsSound w.memory
    → BoardKept w (reg_put size s w ph r)
regs g size s w ph (Ok count) sound =
    let xs = phys_bytes (take count s ++ size ∷ []) in
    either (nat_lt (length s) count) w (Err stack_underflow) (property_put (drop count s) w ph (codes "reg") xs) tt
    (puts g (drop count s) w ph (codes "reg") xs sound (tested (codes "reg") refl)
    (phys_small g (take count s ++ size ∷ [])))
regs g size s w ph (Err t) sound = tt

reg_makes : (g : Given) (size : Cell) (s : List Cell) (w : Board) (ph : Result Phandle Throw) → IsSound w.memory
    → BoardKept w (reg_made size s w ph)
reg_makes g size s w (Ok ph) sound = regs g size s w ph (cells_of w.memory w.tree ph) sound
reg_makes g size s w (Err t) sound = tt

reg : (g : Given) (s : List Cell) (w : Board) → IsSound w.memory → BoardKept w (reg_entry s w)
unfolding reg_entry
reg g (size ∷ hi ∷ s) w sound = reg_makes g size (hi ∷ s) w (active_package w) sound
reg g _ w sound = tt

deletes : (g : Given) (s : List Cell) (w : Board) (ph : Phandle) (name : List ℕ)
    (r : Result (Unit {0} × List Node) NodeFault) → IsSound w.memory → property_deleted w.tree ph name ≡ r
    → BoardKept w (deleted_left s w (of_tree r))
deletes g s w ph name (Ok x) sound e = record {
  sound = sound;
  images = (refl, refl);
  stored = λ a. g.stored.by_delete w.memory w.tree x.1 ph name a e;
}
deletes g s w ph name (Err fault) sound e = tt

cuts : (g : Given) (s : List Cell) (w : Board) (ph : Result Phandle Throw) (name : Result (List ℕ) Throw)
    → IsSound w.memory → BoardKept w (property_cut s w ph name)
cuts g s w (Err t) name sound = tt
cuts g s w (Ok ph) (Err t) sound = tt
cuts g s w (Ok ph) (Ok name) sound = deletes g s w ph name (property_deleted w.tree ph name) sound refl

delete : (g : Given) (s : List Cell) (w : Board) → IsSound w.memory → BoardKept w (delete_entry s w)
unfolding delete_entry
delete g (n ∷ a ∷ s) w sound = cuts g s w (active_package w) (text_at w.memory a n) sound
delete g _ w sound = tt

-- ---- the group Properties

pub properties : (g : Given) (p : PropertiesWord) (w : Board) → IsSound w.memory → BoardKept w (properties_entry p w)
unfolding properties_entry
properties g word.Property w sound = property g w.stack w sound
properties g word.EncodeInt w sound = encode_int g w.stack w sound
properties g word.EncodeString w sound = encode_string g w.stack w sound
properties g word.EncodeBytes w sound = encode_bytes g w.stack w sound
properties g word.EncodePhys w sound = encode_phys g w.stack w sound
properties g word.EncodePlus w sound = encode_plus w.stack w sound
properties g word.DecodeInt w sound = decode_int w.stack w sound
properties g word.DecodeString w sound = decode_string w.stack w sound
properties g word.DecodePhys w sound = decode_phys w.stack w sound
properties g word.Reg w sound = reg g w.stack w sound
properties g word.Model w sound = string g (codes "model") w.stack w sound (tested (codes "model") refl)
properties g word.DeviceType w sound =
    string g (codes "device_type") w.stack w sound (tested (codes "device_type") refl)
properties g word.DeviceName w sound = string g (codes "name") w.stack w sound (tested (codes "name") refl)
properties g word.GetMyProperty w sound = get_my w.stack w sound
properties g word.GetInheritedProperty w sound = get_inherited w.stack w sound
properties g word.GetPackageProperty w sound = get_package w.stack w sound
properties g word.DeleteProperty w sound = delete g w.stack w sound
properties g word.NextProperty w sound = next w.stack w sound
