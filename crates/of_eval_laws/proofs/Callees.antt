-- What is called is a method of an instance, whose end brings back the current one, or one of a new instance.
use Rattle.std.proofs.Common.{◌≡◌, ℕ, List, Option, Some, None, Result, Ok, Err, refl}
use Rattle.std.specs.Prelude.{[], ◌∷◌}
use Rattle.of_cells.specs.declared.cells.Cell.{Cell}
use Rattle.of_stacks.specs.declared.throws.Throw.{Throw}
use Rattle.of_nodes.specs.declared.phandles.Phandle.{Phandle}
use Rattle.of_nodes.specs.Lookup.{package_found}
use Rattle.of_ihandles.specs.Instances.{package_of, parent_of}
use Rattle.of_board.specs.declared.board.Board.{Board}
use Rattle.of_instances.specs.declared.calling.Callee.{Callee}
use Rattle.of_instances.specs.declared.calling.Callee.TheVariants.{Live, New}
use Rattle.of_instances.specs.declared.calling.CallingWord.{CallingWord}
use Rattle.of_instances.specs.declared.calling.CallingWord.TheVariants as calling
use Rattle.of_instances.specs.declared.calling.MethodCall.{MethodCall}
use Rattle.of_instances.specs.declared.calling.Operands.{Operands}
use Rattle.of_instances.specs.Calling.{call_above, call_method_entry, call_of, call_package_entry, call_parent_entry}
use Rattle.of_instances.specs.Calling.{calling_entry, close_in, close_of, close_package_entry, method_of, none_found}
use Rattle.of_instances.specs.Calling.{open_at, open_found, open_in, open_named, open_named_entry, open_of}
use Rattle.of_instances.specs.Calling.{open_package_entry, xt_for}
use Rattle.of_instances.specs.Faults.{of_instance}
use Rattle.of_instances.specs.Reading.{package_at, text_at}
use Rattle.of_state.specs.Settling.{caller_self}
use Rattle.of_eval_laws.specs.Returning.{IsCall}

-- what is due is that at the end of a method, and brings back the current instance
abbrev pub IsCallee : Board → Callee → Type 0
IsCallee w (Live ih d) = IsCall d × (caller_self d ≡ w.active.my_self)
IsCallee w (New ph a n) = Unit {0}

abbrev pub HasCallee : Board → Result (Option MethodCall) Throw → Type 0
HasCallee w (Ok (Some m)) = IsCallee w m.callee
HasCallee w (Ok None) = Unit {0}
HasCallee w (Err t) = Unit {0}

method_due : (w : Board) (ih : Cell) (o : Operands) (r : Result Cell Throw) → HasCallee w (call_of w ih o r)
method_due w ih o (Ok xt) = (tt, refl)
method_due w ih o (Err t) = tt

above_due : (w : Board) (a n : Cell) (r : Result Cell Throw) → HasCallee w (call_above w a n r)
above_due w a n (Ok parent) = method_due w parent _ (method_of w parent a n)
above_due w a n (Err t) = tt

close_due : (w : Board) (ih : Cell) (r : Result (Option Cell) Throw) → HasCallee w (close_of w ih r)
close_due w ih (Ok None) = tt
close_due w ih (Ok (Some xt)) = (tt, refl)
close_due w ih (Err t) = tt

opens_due : (w : Board) (ph : Phandle) (a n : Cell) (o : Operands) (r : Result (Option Cell) Throw)
    → HasCallee w (open_of ph a n o r)
opens_due w ph a n o (Ok None) = tt
opens_due w ph a n o (Ok (Some xt)) = tt
opens_due w ph a n o (Err t) = tt

open_due : (w : Board) (ph : Phandle) (a n : Cell) (o : Operands) (r : Result (List ℕ) Throw)
    → HasCallee w (open_in w ph a n o r)
open_due w ph a n o (Ok arguments) = opens_due w ph a n o _
open_due w ph a n o (Err t) = tt

there_due : (w : Board) (a n : Cell) (o : Operands) (r : Result Phandle Throw) → HasCallee w (open_at w a n o r)
there_due w a n o (Ok ph) = open_due w ph a n o (text_at w.memory a n)
there_due w a n o (Err t) = tt

none_due : (w : Board) (r : Result (List ℕ) Throw) → HasCallee w (none_found r)
none_due w (Ok arguments) = tt
none_due w (Err t) = tt

found_due : (w : Board) (a n : Cell) (o : Operands) (ph : Option Phandle) → HasCallee w (open_found w a n o ph)
found_due w a n o None = none_due w (text_at w.memory a n)
found_due w a n o (Some ph) = open_due w ph a n o (text_at w.memory a n)

path_due : (w : Board) (a n : Cell) (o : Operands) (r : Result (List ℕ) Throw) → HasCallee w (open_named w a n o r)
path_due w a n o (Ok path) = found_due w a n o (package_found w.memory w.tree path)
path_due w a n o (Err t) = tt

package_due : (cells : List Cell) (w : Board) → HasCallee w (call_package_entry cells w)
unfolding call_package_entry
package_due (ih ∷ xt ∷ cells) w = method_due w ih _ (xt_for xt (of_instance (package_of w.instances ih)))
package_due _ w = tt

named_due : (cells : List Cell) (w : Board) → HasCallee w (call_method_entry cells w)
unfolding call_method_entry
named_due (ih ∷ n ∷ a ∷ cells) w = method_due w ih _ (method_of w ih a n)
named_due _ w = tt

parent_due : (cells : List Cell) (w : Board) → HasCallee w (call_parent_entry cells w)
unfolding call_parent_entry
parent_due (n ∷ a ∷ cells) w = above_due w a n (of_instance (parent_of w.instances w.active.my_self))
parent_due _ w = tt

closing_due : (cells : List Cell) (w : Board) → HasCallee w (close_package_entry cells w)
unfolding close_package_entry
closing_due (ih ∷ cells) w = close_due w ih (close_in w.tree (of_instance (package_of w.instances ih)))
closing_due [] w = tt

opening_due : (cells : List Cell) (w : Board) → HasCallee w (open_package_entry cells w)
unfolding open_package_entry
opening_due (ph ∷ n ∷ a ∷ cells) w = there_due w a n _ (package_at w.tree ph)
opening_due _ w = tt

opening_named_due : (cells : List Cell) (w : Board) → HasCallee w (open_named_entry cells w)
unfolding open_named_entry
opening_named_due (k ∷ p ∷ n ∷ a ∷ cells) w = path_due w a n _ (text_at w.memory p k)
opening_named_due _ w = tt

pub callees : (k : CallingWord) (w : Board) → HasCallee w (calling_entry k w)
callees calling.Package w = package_due w.stack w
callees calling.Method w = named_due w.stack w
callees calling.Parent w = parent_due w.stack w
callees calling.Close w = closing_due w.stack w
callees calling.Open w = opening_due w.stack w
callees calling.OpenNamed w = opening_named_due w.stack w
