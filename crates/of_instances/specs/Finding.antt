-- The words that find properties of a package, by what they make of the data stack, the top first
-- (IEEE 1275-1994, annex A).
use Rattle.std.specs.Prelude.{ℕ, zero, suc, ◌-◌, ◌^◌, ◌==◌, Bool, true, false, List, ◌∷◌, Option, Some, None}
use Rattle.std.specs.Prelude.{Result, Ok, Err, if◌then◌else◌}
use Rattle.of_cells.specs.declared.cells.Cell.{Cell}
use Rattle.of_stacks.specs.declared.throws.Throw.{Throw}
use Rattle.of_stacks.specs.Throws.{stack_underflow}
use Rattle.of_nodes.specs.declared.phandles.Phandle.{Phandle}
use Rattle.of_nodes.specs.declared.properties.Property.{Property}
use Rattle.of_nodes.specs.Nodes.{next_found, property_found}
use Rattle.of_ihandles.specs.Instances.{most_instances, package_of, parent_of}
use Rattle.of_board.specs.declared.board.Board.{Board}
use Rattle.of_instances.specs.Faults.{of_instance, of_tree}
use Rattle.of_instances.specs.Reading.{active_package, package_at, text_at}
use Rattle.of_instances.specs.Left.{number, with_room, with_stack}

-- true, as a cell
abbrev pub yes : Cell
yes = number (2 ^ 32 - 1)

-- ( -- true ) where there is no property, or ( -- p n false ) of its value
abbrev pub value_left : List Cell → Board → Result (Option Property) Throw → Result Board Throw
value_left s w (Ok None) = Ok (with_stack w (yes ∷ s))
value_left s w (Ok (Some p)) = Ok (with_stack w (number 0 ∷ p.value.length ∷ p.value.address ∷ s))
value_left s w (Err t) = Err t

-- a property of a package, if there is one
abbrev pub property_in : Board → List ℕ → Result Phandle Throw → Result (Option Property) Throw
property_in w name (Ok ph) = of_tree (property_found w.tree ph name)
property_in w name (Err t) = Err t

abbrev pub value_found : List Cell → Board → Result Phandle Throw → Result (List ℕ) Throw → Result Board Throw
value_found s w (Err t) name = Err t
value_found s w (Ok ph) (Err t) = Err t
value_found s w (Ok ph) (Ok name) = value_left s w (of_tree (property_found w.tree ph name))

-- `get-my-property` ( s n -- true, or p n false )
unfoldable pub get_my_entry : List Cell → Board → Result Board Throw
get_my_entry (n ∷ a ∷ s) w = with_room (value_found s w (active_package w) (text_at w.memory a n))
get_my_entry _ w = Err stack_underflow

-- ---- through the parents of the current instance

-- a property of the package of an instance
abbrev pub property_of : Board → List ℕ → Cell → Result (Option Property) Throw
property_of w name ih = property_in w name (of_instance (package_of w.instances ih))

-- what was found of an instance, or else what is found of its parent, unless it has none
abbrev pub or_above : Result (Option Property) Throw → Result Cell Throw → (Cell → Result (Option Property) Throw)
    → Result (Option Property) Throw
or_above (Err t) parent rest = Err t
or_above (Ok (Some p)) parent rest = Ok (Some p)
or_above (Ok None) (Err t) rest = Err t
or_above (Ok None) (Ok ih) rest = if ih.0 == 0 then Ok None else rest ih

-- a property of the package of an instance, or of the nearest of so many parents that has one of the name
unfoldable pub inherited : Board → List ℕ → ℕ → Cell → Result (Option Property) Throw
inherited w name zero ih = Ok None
inherited w name (suc above) ih =
    or_above (property_of w name ih) (of_instance (parent_of w.instances ih)) (λ parent. inherited w name above parent)

-- that of the current instance, or of the active package alone where none is current
abbrev pub inherited_for : Bool → Board → Result Phandle Throw → List ℕ → Result (Option Property) Throw
inherited_for true w ph name = property_in w name ph
inherited_for false w ph name = inherited w name most_instances w.active.my_self

abbrev pub inherited_found : Board → Result Phandle Throw → Result (List ℕ) Throw → Result (Option Property) Throw
inherited_found w (Err t) name = Err t
inherited_found w (Ok ph) (Err t) = Err t
inherited_found w (Ok ph) (Ok name) = inherited_for (w.active.my_self.0 == 0) w (Ok ph) name

-- `get-inherited-property` ( s n -- true, or p n false )
unfoldable pub get_inherited_entry : List Cell → Board → Result Board Throw
get_inherited_entry (n ∷ a ∷ s) w =
    with_room (value_left s w (inherited_found w (active_package w) (text_at w.memory a n)))
get_inherited_entry _ w = Err stack_underflow

-- `get-package-property` ( s n ph -- true, or p n false )
unfoldable pub get_package_entry : List Cell → Board → Result Board Throw
get_package_entry (ph ∷ n ∷ a ∷ s) w = value_found s w (package_at w.tree ph) (text_at w.memory a n)
get_package_entry _ w = Err stack_underflow

-- ( -- false ) where there is no property, or ( -- s n true ) of its name
abbrev pub name_left : List Cell → Board → Result (Option Property) Throw → Result Board Throw
name_left s w (Ok None) = Ok (with_stack w (number 0 ∷ s))
name_left s w (Ok (Some p)) = Ok (with_stack w (yes ∷ p.name.length ∷ p.name.address ∷ s))
name_left s w (Err t) = Err t

abbrev pub name_found : List Cell → Board → Result Phandle Throw → Result (List ℕ) Throw → Result Board Throw
name_found s w (Err t) name = Err t
name_found s w (Ok ph) (Err t) = Err t
name_found s w (Ok ph) (Ok name) = name_left s w (of_tree (next_found w.tree ph name))

-- `next-property` ( s n ph -- false, or s n true )
unfoldable pub next_entry : List Cell → Board → Result Board Throw
next_entry (ph ∷ n ∷ a ∷ s) w = name_found s w (package_at w.tree ph) (text_at w.memory a n)
next_entry _ w = Err stack_underflow
