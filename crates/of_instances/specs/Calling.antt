-- The words that call a method, by what they find: the word of which execution token they run, for which instance, what
-- is due when that has ended, and which cells they take (IEEE 1275-1994, annex A). They change nothing themselves; what
-- opens an instance makes it before its method `open` runs.
use Rattle.std.specs.Prelude.{◌≡◌, ℕ, List, [], ◌∷◌, ◌++◌, length, drop, codes, Option, Some, None, Result, Ok, Err}
use Rattle.of_cells.specs.declared.cells.Cell.{Cell}
use Rattle.of_stacks.specs.declared.return_item.Due.TheVariants as due
use Rattle.of_stacks.specs.declared.stop.Stop.{Stop}
use Rattle.of_stacks.specs.declared.stop.Stop.TheVariants.{Thrown, NoMemory}
use Rattle.of_stacks.specs.declared.throws.Throw.{Throw}
use Rattle.of_stacks.specs.Throws.{no_method, stack_underflow}
use Rattle.of_nodes.specs.declared.phandles.Phandle.{Phandle}
use Rattle.of_nodes.specs.declared.tree.Node.{Node}
use Rattle.of_nodes.specs.Lookup.{package_found}
use Rattle.of_nodes.specs.Nodes.{method_found}
use Rattle.of_memory.specs.DataSpace.{DataSpace}
use Rattle.of_ihandles.specs.Instances.{opened, package_of, parent_of}
use Rattle.of_ihandles.specs.Table.{InstanceTable}
use Rattle.of_board.specs.Active.{with_instances}
use Rattle.of_board.specs.declared.board.Board.{Board}
use Rattle.of_instances.specs.declared.calling.CallingWord.{CallingWord}
use Rattle.of_instances.specs.declared.calling.CallingWord.TheVariants as calling
use Rattle.of_instances.specs.declared.calling.Callee.TheVariants.{Live, New}
use Rattle.of_instances.specs.declared.calling.MethodCall.{MethodCall}
use Rattle.of_instances.specs.declared.calling.Operands.{Operands}
use Rattle.of_instances.specs.declared.calling.Operands.TheVariants.{One, Two, Three, Four}
use Rattle.of_instances.specs.Faults.{of_instance, of_tree}
use Rattle.of_instances.specs.Reading.{package_at, text_at}

-- ---- operands

-- the cells that a word takes, the top first
abbrev pub operand_cells : Operands → List Cell
operand_cells (One x) = x ∷ []
operand_cells (Two x y) = y ∷ x ∷ []
operand_cells (Three x y z) = z ∷ y ∷ x ∷ []
operand_cells (Four x y z u) = u ∷ z ∷ y ∷ x ∷ []

-- the data stack without them
abbrev pub beneath : Operands → List Cell → List Cell
beneath o cells = drop (length (operand_cells o)) cells

-- The operands of what is called stand on top of the data stack.
abbrev pub TakesOperands : List Cell → Result (Option MethodCall) Throw → Type 0
TakesOperands cells (Ok (Some m)) = cells ≡ operand_cells m.operands ++ beneath m.operands cells
TakesOperands cells (Ok None) = Unit {0}
TakesOperands cells (Err t) = Unit {0}

-- ---- methods

abbrev pub method_there : Result (Option Cell) Throw → Result Cell Throw
method_there (Ok (Some xt)) = Ok xt
method_there (Ok None) = Err no_method
method_there (Err t) = Err t

-- the method with a name of a package
abbrev pub method_in : List Node → Result Phandle Throw → Result (List ℕ) Throw → Result Cell Throw
method_in ns (Err t) name = Err t
method_in ns (Ok ph) (Err t) = Err t
method_in ns (Ok ph) (Ok name) = method_there (of_tree (method_found ns ph name))

-- of the package of an instance, where the name stands in memory
abbrev pub method_of : Board → Cell → Cell → Cell → Result Cell Throw
method_of w ih a n = method_in w.tree (of_instance (package_of w.instances ih)) (text_at w.memory a n)

-- ---- calls

-- an execution token is run for an instance, and then the current one comes back
abbrev pub call_of : Board → Cell → Operands → Result Cell Throw → Result (Option MethodCall) Throw
call_of w ih o (Ok xt) =
    Ok (Some (record { xt = xt; operands = o; callee = Live ih (due.Method w.active.my_self) }))
call_of w ih o (Err t) = Err t

-- an execution token, if there is the instance
abbrev pub xt_for : Cell → Result Phandle Throw → Result Cell Throw
xt_for xt (Ok ph) = Ok xt
xt_for xt (Err t) = Err t

-- the method of the parent
abbrev pub call_above : Board → Cell → Cell → Result Cell Throw → Result (Option MethodCall) Throw
call_above w a n (Ok parent) = call_of w parent (Two a n) (method_of w parent a n)
call_above w a n (Err t) = Err t

-- `call-package` ( .. xt ih -- .. )
unfoldable pub call_package_entry : List Cell → Board → Result (Option MethodCall) Throw
call_package_entry (ih ∷ xt ∷ s) w = call_of w ih (Two xt ih) (xt_for xt (of_instance (package_of w.instances ih)))
call_package_entry _ w = Err stack_underflow

-- `$call-method` ( .. s n ih -- .. )
unfoldable pub call_method_entry : List Cell → Board → Result (Option MethodCall) Throw
call_method_entry (ih ∷ n ∷ a ∷ s) w = call_of w ih (Three a n ih) (method_of w ih a n)
call_method_entry _ w = Err stack_underflow

-- `$call-parent` ( .. s n -- .. ): the parent of the current instance
unfoldable pub call_parent_entry : List Cell → Board → Result (Option MethodCall) Throw
call_parent_entry (n ∷ a ∷ s) w = call_above w a n (of_instance (parent_of w.instances w.active.my_self))
call_parent_entry _ w = Err stack_underflow

-- the method `close` of a package
abbrev pub close_in : List Node → Result Phandle Throw → Result (Option Cell) Throw
close_in ns (Ok ph) = of_tree (method_found ns ph (codes "close"))
close_in ns (Err t) = Err t

-- it is run for an instance, which is released then; a package without it is left to the word itself
abbrev pub close_of : Board → Cell → Result (Option Cell) Throw → Result (Option MethodCall) Throw
close_of w ih (Ok None) = Ok None
close_of w ih (Ok (Some xt)) =
    Ok (Some (record { xt = xt; operands = One ih; callee = Live ih (due.Close w.active.my_self ih) }))
close_of w ih (Err t) = Err t

-- `close-package` ( ih -- )
unfoldable pub close_package_entry : List Cell → Board → Result (Option MethodCall) Throw
close_package_entry (ih ∷ s) w = close_of w ih (close_in w.tree (of_instance (package_of w.instances ih)))
close_package_entry [] w = Err stack_underflow

-- ---- opening

-- the method `open` is run for a new instance with these arguments; a package without it is left to the word itself
abbrev pub open_of : Phandle → Cell → Cell → Operands → Result (Option Cell) Throw → Result (Option MethodCall) Throw
open_of ph a n o (Ok None) = Ok None
open_of ph a n o (Ok (Some xt)) = Ok (Some (record { xt = xt; operands = o; callee = New ph a n }))
open_of ph a n o (Err t) = Err t

-- the arguments must be there, even where there is no such method
abbrev pub open_in : Board → Phandle → Cell → Cell → Operands → Result (List ℕ) Throw → Result (Option MethodCall) Throw
open_in w ph a n o (Ok arguments) = open_of ph a n o (of_tree (method_found w.tree ph (codes "open")))
open_in w ph a n o (Err t) = Err t

abbrev pub open_at : Board → Cell → Cell → Operands → Result Phandle Throw → Result (Option MethodCall) Throw
open_at w a n o (Ok ph) = open_in w ph a n o (text_at w.memory a n)
open_at w a n o (Err t) = Err t

-- `open-package` ( s n ph -- ih or 0 )
unfoldable pub open_package_entry : List Cell → Board → Result (Option MethodCall) Throw
open_package_entry (ph ∷ n ∷ a ∷ s) w = open_at w a n (Three a n ph) (package_at w.tree ph)
open_package_entry _ w = Err stack_underflow

abbrev pub none_found : Result (List ℕ) Throw → Result (Option MethodCall) Throw
none_found (Ok arguments) = Ok None
none_found (Err t) = Err t

-- a path that leads to no package is left to the word, too
abbrev pub open_found : Board → Cell → Cell → Operands → Option Phandle → Result (Option MethodCall) Throw
open_found w a n o None = none_found (text_at w.memory a n)
open_found w a n o (Some ph) = open_in w ph a n o (text_at w.memory a n)

abbrev pub open_named : Board → Cell → Cell → Operands → Result (List ℕ) Throw → Result (Option MethodCall) Throw
open_named w a n o (Ok path) = open_found w a n o (package_found w.memory w.tree path)
open_named w a n o (Err t) = Err t

-- `$open-package` ( args n name n -- ih or 0 ), where the path is one below `/packages`
unfoldable pub open_named_entry : List Cell → Board → Result (Option MethodCall) Throw
open_named_entry (k ∷ p ∷ n ∷ a ∷ s) w = open_named w a n (Four a n p k) (text_at w.memory p k)
open_named_entry _ w = Err stack_underflow

-- ---- the table

abbrev pub calling_entry : CallingWord → Board → Result (Option MethodCall) Throw
calling_entry calling.Package w = call_package_entry w.stack w
calling_entry calling.Method w = call_method_entry w.stack w
calling_entry calling.Parent w = call_parent_entry w.stack w
calling_entry calling.Close w = close_package_entry w.stack w
calling_entry calling.Open w = open_package_entry w.stack w
calling_entry calling.OpenNamed w = open_named_entry w.stack w

-- ---- the new instance

abbrev pub opened_with : Board → Phandle → Result (List ℕ) Throw → Result (Cell × (InstanceTable × DataSpace)) Throw
opened_with w ph (Ok arguments) = of_instance (opened w.instances w.memory ph w.active.my_self arguments)
opened_with w ph (Err t) = Err t

-- a new instance of a package below the current one, with a copy of the arguments that stand in memory
abbrev pub new_instance : Board → Phandle → Cell → Cell → Result (Cell × (InstanceTable × DataSpace)) Throw
new_instance w ph a n = opened_with w ph (text_at w.memory a n)

-- A call opened an instance, or threw so, or found no memory; then nothing has changed.
abbrev pub Opens : Phandle → Cell → Cell → Board → Board → Result Cell Stop → Type 0
Opens ph a n old new (Ok ih) =
    (new_instance old ph a n ≡ Ok (ih, (new.instances, new.memory)))
    × (new ≡ with_instances old (new.instances, new.memory))
Opens ph a n old new (Err (Thrown t)) = (new_instance old ph a n ≡ Err t) × (new ≡ old)
Opens ph a n old new (Err NoMemory) = new ≡ old
