-- The words over instances that run no method, by what they make of the data stack, the top first (IEEE 1275-1994,
-- annex A).
use Rattle.std.specs.Prelude.{ℕ, zero, suc, List, [], ◌∷◌, ◌++◌, take, drop, Option, Some, None, Result, Ok, Err}
use Rattle.of_cells.specs.declared.cells.Cell.{Cell}
use Rattle.of_stacks.specs.declared.throws.Throw.{Throw}
use Rattle.of_stacks.specs.Throws.{invalid_argument, stack_underflow}
use Rattle.of_format.specs.Reading.{number_read}
use Rattle.of_memory.specs.DataSpace.{DataSpace}
use Rattle.of_nodes.specs.Texts.{before, behind}
use Rattle.of_nodes.specs.declared.phandles.Phandle.{Phandle}
use Rattle.of_nodes.specs.declared.properties.Span.{Span}
use Rattle.of_ihandles.specs.Instances.{argument_span, arguments_set, package_of, parent_of, units}
use Rattle.of_ihandles.specs.Table.{InstanceTable}
use Rattle.of_board.specs.Active.{with_instances}
use Rattle.of_board.specs.declared.board.Board.{Board}
use Rattle.of_instances.specs.Faults.{of_instance}
use Rattle.of_instances.specs.Left.{with_room, with_stack}
use Rattle.of_instances.specs.Reading.{cells_in, text_at}

-- ---- the current instance

-- cells go on the stack, the first on top, if they are there
abbrev pub unit_left : List Cell → Board → Result (List Cell) Throw → Result Board Throw
unit_left s w (Ok xs) = with_room (Ok (with_stack w (xs ++ s)))
unit_left s w (Err t) = Err t

-- one cell
abbrev pub cell_left : List Cell → Board → Result Cell Throw → Result Board Throw
cell_left s w (Ok x) = with_room (Ok (with_stack w (x ∷ s)))
cell_left s w (Err t) = Err t

-- `my-self` ( -- ih or 0 )
unfoldable pub my_self_entry : List Cell → Board → Result Board Throw
my_self_entry s w = cell_left s w (Ok w.active.my_self)

-- `my-parent` ( -- ih or 0 )
unfoldable pub my_parent_entry : List Cell → Board → Result Board Throw
my_parent_entry s w = cell_left s w (of_instance (parent_of w.instances w.active.my_self))

-- the package of an instance on the stack
abbrev pub phandle_left : List Cell → Board → Result Phandle Throw → Result Board Throw
phandle_left s w (Ok ph) = Ok (with_stack w (ph.0 ∷ s))
phandle_left s w (Err t) = Err t

-- `ihandle>phandle` ( ih -- ph )
unfoldable pub package_of_entry : List Cell → Board → Result Board Throw
package_of_entry [] w = Err stack_underflow
package_of_entry (ih ∷ s) w = phandle_left s w (of_instance (package_of w.instances ih))

-- the address of bytes and their number
abbrev pub span_left : List Cell → Board → Result Span Throw → Result Board Throw
span_left s w (Ok b) = with_room (Ok (with_stack w (b.length ∷ b.address ∷ s)))
span_left s w (Err t) = Err t

-- `my-args` ( -- s n )
unfoldable pub my_args_entry : List Cell → Board → Result Board Throw
my_args_entry s w = span_left s w (of_instance (argument_span w.instances w.active.my_self))

-- ---- its physical address

-- the first so many cells, if there is an instance
abbrev pub counted : Result (List Cell) Throw → Result ℕ Throw → Result (List Cell) Throw
counted (Err t) count = Err t
counted (Ok unit) (Err t) = Err t
counted (Ok unit) (Ok count) = Ok (take count unit)

-- how many cells an address of the current instance's package has
abbrev pub own_cells : Board → Result ℕ Throw
own_cells w = cells_in w.memory w.tree (of_instance (package_of w.instances w.active.my_self))

-- the cells of the current instance's address, the high one first
abbrev pub own_unit : Board → Result (List Cell) Throw
own_unit w = counted (of_instance (units w.instances w.active.my_self)) (own_cells w)

-- `my-unit` ( -- lo .. hi )
unfoldable pub my_unit_entry : List Cell → Board → Result Board Throw
my_unit_entry s w = unit_left s w (own_unit w)

-- without the high cell
abbrev pub behind_high : Result (List Cell) Throw → Result (List Cell) Throw
behind_high (Ok xs) = Ok (drop 1 xs)
behind_high (Err t) = Err t

-- `my-address` ( -- lo .. )
unfoldable pub my_address_entry : List Cell → Board → Result Board Throw
my_address_entry s w = unit_left s w (behind_high (own_unit w))

-- the high cell alone
abbrev pub high : Result (List Cell) Throw → Result (List Cell) Throw
high (Ok xs) = Ok (take 1 xs)
high (Err t) = Err t

-- `my-space` ( -- hi )
unfoldable pub my_space_entry : List Cell → Board → Result Board Throw
my_space_entry s w = unit_left s w (high (own_unit w))

-- ---- other arguments

-- a number before others
abbrev pub number_before : Option Cell → Option (List Cell) → Option (List Cell)
number_before x None = None
number_before None (Some xs) = None
number_before (Some x) (Some xs) = Some (x ∷ xs)

-- A hexadecimal number, and so many more behind it, each behind a comma; none where there is no text any more.
abbrev pub numbers_read : ℕ → Option (List ℕ) → Option (List Cell)
numbers_read more None = None
numbers_read zero (Some text) = number_before (number_read 16 text) (Some [])
numbers_read (suc more) (Some text) =
    number_before (number_read 16 (before 44 text)) (numbers_read more (behind 44 text))

-- the cells of a physical address of so many, the high one first: none where the text is empty
abbrev pub unit_read : ℕ → List ℕ → Option (List Cell)
unit_read count [] = Some []
unit_read zero (b ∷ text) = None
unit_read (suc more) (b ∷ text) = numbers_read more (Some (b ∷ text))

abbrev pub instances_left : List Cell → Board → Result (Unit {0} × (InstanceTable × DataSpace)) Throw
    → Result Board Throw
instances_left s w (Ok x) = Ok (with_instances (with_stack w s) x.1)
instances_left s w (Err t) = Err t

abbrev pub arguments_left : List Cell → Board → List ℕ → Option (List Cell) → Result Board Throw
arguments_left s w arguments None = Err invalid_argument
arguments_left s w arguments (Some unit) =
    instances_left s w (of_instance (arguments_set w.instances w.memory w.active.my_self arguments unit))

abbrev pub arguments_read :
    List Cell → Board → Result ℕ Throw → Result (List ℕ) Throw → Result (List ℕ) Throw → Result Board Throw
arguments_read s w (Err t) arguments unit = Err t
arguments_read s w (Ok count) (Err t) unit = Err t
arguments_read s w (Ok count) (Ok arguments) (Err t) = Err t
arguments_read s w (Ok count) (Ok arguments) (Ok unit) = arguments_left s w arguments (unit_read count unit)

-- `set-args` ( args n unit n -- ) of the current instance
unfoldable pub set_args_entry : List Cell → Board → Result Board Throw
set_args_entry (k ∷ u ∷ n ∷ a ∷ s) w = arguments_read s w (own_cells w) (text_at w.memory a n) (text_at w.memory u k)
set_args_entry _ w = Err stack_underflow
