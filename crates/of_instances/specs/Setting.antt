-- The words that set and delete properties of the active package, by what they make of the data stack, the top first
-- (IEEE 1275-1994, 3.2.2.1 and annex A).
use Rattle.std.specs.Prelude.{ℕ, nat_lt, List, [], ◌∷◌, ◌++◌, length, take, drop, codes, Result, Ok, Err}
use Rattle.std.specs.Prelude.{if◌then◌else◌}
use Rattle.of_cells.specs.declared.cells.Cell.{Cell}
use Rattle.of_stacks.specs.declared.throws.Throw.{Throw}
use Rattle.of_stacks.specs.Throws.{stack_underflow}
use Rattle.of_memory.specs.DataSpace.{DataSpace}
use Rattle.of_nodes.specs.declared.phandles.Phandle.{Phandle}
use Rattle.of_nodes.specs.declared.tree.Node.{Node}
use Rattle.of_nodes.specs.Nodes.{property_deleted, tree_property_set}
use Rattle.of_props.specs.Encoding.{phys_bytes}
use Rattle.of_board.specs.declared.board.Board.{Board}
use Rattle.of_instances.specs.Faults.{of_tree}
use Rattle.of_instances.specs.Reading.{active_package, cells_of, text_at}

-- a property is set, and this stack is left
abbrev pub set_left : List Cell → Board → Result (List Node × DataSpace) Throw → Result Board Throw
set_left s w (Ok x) = Ok (record w { stack = s; memory = x.1; tree = x.0 })
set_left s w (Err t) = Err t

abbrev pub property_put : List Cell → Board → Phandle → List ℕ → List ℕ → Result Board Throw
property_put s w ph name value = set_left s w (of_tree (tree_property_set w.memory w.tree ph name value))

-- a property of a package is set to a value, if all three are there
abbrev pub property_made :
    List Cell → Board → Result Phandle Throw → Result (List ℕ) Throw → Result (List ℕ) Throw → Result Board Throw
property_made s w (Err t) value name = Err t
property_made s w (Ok ph) (Err t) name = Err t
property_made s w (Ok ph) (Ok value) (Err t) = Err t
property_made s w (Ok ph) (Ok value) (Ok name) = property_put s w ph name value

-- `property` ( p n s n -- )
unfoldable pub property_entry : List Cell → Board → Result Board Throw
property_entry (n ∷ a ∷ k ∷ p ∷ s) w =
    property_made s w (active_package w) (text_at w.memory p k) (text_at w.memory a n)
property_entry _ w = Err stack_underflow

-- a property of a package is set to a text and a zero byte, if both are there
abbrev pub string_made : List ℕ → List Cell → Board → Result Phandle Throw → Result (List ℕ) Throw → Result Board Throw
string_made name s w (Err t) text = Err t
string_made name s w (Ok ph) (Err t) = Err t
string_made name s w (Ok ph) (Ok text) = property_put s w ph name (text ++ 0 ∷ [])

-- `model`, `device-type` and `device-name` ( s n -- ), which set the property of this name
unfoldable pub string_entry : List ℕ → List Cell → Board → Result Board Throw
string_entry name (n ∷ a ∷ s) w = string_made name s w (active_package w) (text_at w.memory a n)
string_entry name _ w = Err stack_underflow

-- `reg` ( lo .. hi size -- ), with so many cells before the size
abbrev pub reg_put : Cell → List Cell → Board → Phandle → Result ℕ Throw → Result Board Throw
reg_put size s w ph (Err t) = Err t
reg_put size s w ph (Ok count) =
    if nat_lt (length s) count then Err stack_underflow
    else property_put (drop count s) w ph (codes "reg") (phys_bytes (take count s ++ size ∷ []))

abbrev pub reg_made : Cell → List Cell → Board → Result Phandle Throw → Result Board Throw
reg_made size s w (Err t) = Err t
reg_made size s w (Ok ph) = reg_put size s w ph (cells_of w.memory w.tree ph)

unfoldable pub reg_entry : List Cell → Board → Result Board Throw
reg_entry (size ∷ hi ∷ s) w = reg_made size (hi ∷ s) w (active_package w)
reg_entry _ w = Err stack_underflow

-- a property is deleted, and this stack is left
abbrev pub deleted_left : List Cell → Board → Result (Unit {0} × List Node) Throw → Result Board Throw
deleted_left s w (Ok x) = Ok (record w { stack = s; tree = x.1 })
deleted_left s w (Err t) = Err t

abbrev pub property_cut : List Cell → Board → Result Phandle Throw → Result (List ℕ) Throw → Result Board Throw
property_cut s w (Err t) name = Err t
property_cut s w (Ok ph) (Err t) = Err t
property_cut s w (Ok ph) (Ok name) = deleted_left s w (of_tree (property_deleted w.tree ph name))

-- `delete-property` ( s n -- )
unfoldable pub delete_entry : List Cell → Board → Result Board Throw
delete_entry (n ∷ a ∷ s) w = property_cut s w (active_package w) (text_at w.memory a n)
delete_entry _ w = Err stack_underflow
