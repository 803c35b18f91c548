-- What the functions on the return stack come to (Forth 2012, 6.1.0140, 6.1.1680, 6.1.1800, 9.6.1.2275).
use Rattle.std.specs.Prelude.{◌≡◌, ◌↔◌, ◌-◌, ◌^◌, ◌<◌, ◌≤◌, ℕ, Bool, true, false, List, [], ◌∷◌, ◌++◌, filter_map}
use Rattle.std.specs.Prelude.{reverse, take, replicate, Option, Some, None}
use Rattle.std.specs.List.{list_all, list_any}
use Rattle.of_cells.specs.declared.cells.Cell.{Cell}
use Rattle.of_cells.specs.Numbers.{cell}
use Rattle.of_cells.specs.Arithmetic.{plus, minus}
use Rattle.of_cells.specs.Splitting.{IsCell}
use Rattle.of_stacks.specs.declared.return_item.LoopParameters.{LoopParameters}
use Rattle.of_stacks.specs.declared.return_item.ExceptionFrame.{ExceptionFrame}
use Rattle.of_stacks.specs.declared.return_item.Reading.{Reading}
use Rattle.of_stacks.specs.declared.return_item.ReturnItem.{ReturnItem}
use Rattle.of_stacks.specs.declared.return_item.ReturnItem.TheVariants.{Return, Loop, User, Handler, Source, Caller}
use Rattle.of_stacks.specs.Loops.{open_loops, passes_limit}
use Rattle.of_stacks.specs.Unwinding.{latest_handler, beneath_handler, latest_source, beneath_source, nought, to_depth}

-- the item is of the running word: no word returns to it, and nothing is due or read on with at it
abbrev pub is_own : ReturnItem → Bool
is_own (Loop l) = true
is_own (User x) = true
is_own (Handler h) = true
is_own (Return to) = false
is_own (Source s) = false
is_own (Caller c) = false

abbrev pub loop_in : ReturnItem → Option LoopParameters
loop_in (Loop l) = Some l
loop_in (User x) = None
loop_in (Handler h) = None
loop_in (Return to) = None
loop_in (Source s) = None
loop_in (Caller c) = None

-- the open loops are those among the running word's own items, and none beneath
pub record LoopsAreOwn : Type 0 where
  pub all : (own : List ReturnItem) → list_all is_own own ≡ true → open_loops own ≡ filter_map loop_in own
  pub above :
      (own r : List ReturnItem) (item : ReturnItem) →
      list_all is_own own ≡ true → is_own item ≡ false → open_loops (own ++ item ∷ r) ≡ filter_map loop_in own

abbrev pub is_handler : ReturnItem → Bool
is_handler (Handler h) = true
is_handler (Return to) = false
is_handler (Loop l) = false
is_handler (User x) = false
is_handler (Source s) = false
is_handler (Caller c) = false

abbrev pub is_source : ReturnItem → Bool
is_source (Source s) = true
is_source (Return to) = false
is_source (Loop l) = false
is_source (User x) = false
is_source (Handler h) = false
is_source (Caller c) = false

-- the end of an image or text cuts the return stack at the source above which there is none
pub record EndsCut : Type 0 where
  pub source :
      (above r : List ReturnItem) (s : Reading) → list_any is_source above ≡ false →
      (latest_source (above ++ Source s ∷ r) ≡ Some s) × (beneath_source (above ++ Source s ∷ r) ≡ r)
  pub none :
      (items : List ReturnItem) → list_any is_source items ≡ false →
      (latest_source items ≡ None) × (beneath_source items ≡ [])

-- A throw cuts the return stack at the handler above which there is none. The data stack keeps its lowest cells,
-- as many as the depth says, and cells of 0 where they are fewer.
pub record ThrowsCut : Type 0 where
  pub handler :
      (above r : List ReturnItem) (h : ExceptionFrame) → list_any is_handler above ≡ false →
      (latest_handler (above ++ Handler h ∷ r) ≡ Some h) × (beneath_handler (above ++ Handler h ∷ r) ≡ r)
  pub none :
      (items : List ReturnItem) → list_any is_handler items ≡ false →
      (latest_handler items ≡ None) × (beneath_handler items ≡ [])
  pub cells :
      (depth : ℕ) (s : List Cell) → reverse (to_depth depth s) ≡ take depth (reverse s ++ replicate depth nought)

-- The step crosses the boundary between the limit minus one and the limit: a step forward comes to the limit,
-- and a step back begins at it or comes to it before its end.
pub record LimitsArePassed : Type 0 where
  pub forward :
      (index limit step : Cell) → IsCell index → IsCell limit → step.0 < 2 ^ 31 →
      (passes_limit index limit step ≡ true) ↔ ((k : ℕ) × (0 < k) × (k ≤ step.0) × (plus index (cell k) ≡ limit))
  pub back :
      (index limit step : Cell) → IsCell index → IsCell limit → 2 ^ 31 ≤ step.0 → IsCell step →
      (passes_limit index limit step ≡ true) ↔ ((k : ℕ) × (k < 2 ^ 32 - step.0) × (minus index (cell k) ≡ limit))
