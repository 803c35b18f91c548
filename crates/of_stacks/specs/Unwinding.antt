-- What a throw leaves of both stacks (Forth 2012, 9.6.1.2275), and what the end of an image or text leaves of the
-- return stack (IEEE 1275-1994, `end0`).
use Rattle.std.specs.Prelude.{ℕ, ◌-◌, nat_lt, List, [], ◌∷◌, ◌++◌, length, drop, replicate, Option, Some, None}
use Rattle.std.specs.Prelude.{if◌then◌else◌}
use Rattle.std.specs.Int.{w32, cast_unsigned}
use Rattle.of_cells.specs.declared.cells.Cell.{Cell}
use Rattle.of_stacks.specs.declared.throws.Throw.{Throw}
use Rattle.of_stacks.specs.declared.return_item.ExceptionFrame.{ExceptionFrame}
use Rattle.of_stacks.specs.declared.return_item.Reading.{Reading}
use Rattle.of_stacks.specs.declared.return_item.ReturnItem.{ReturnItem}
use Rattle.of_stacks.specs.declared.return_item.ReturnItem.TheVariants.{Return, Loop, User, Handler, Source, Caller}

-- what the latest `catch` kept, if one waits
unfoldable pub latest_handler : List ReturnItem → Option ExceptionFrame
latest_handler [] = None
latest_handler (Handler h ∷ r) = Some h
latest_handler (Return to ∷ r) = latest_handler r
latest_handler (Loop l ∷ r) = latest_handler r
latest_handler (User x ∷ r) = latest_handler r
latest_handler (Source s ∷ r) = latest_handler r
latest_handler (Caller c ∷ r) = latest_handler r

-- the items beneath it, or none
unfoldable pub beneath_handler : List ReturnItem → List ReturnItem
beneath_handler [] = []
beneath_handler (Handler h ∷ r) = r
beneath_handler (Return to ∷ r) = beneath_handler r
beneath_handler (Loop l ∷ r) = beneath_handler r
beneath_handler (User x ∷ r) = beneath_handler r
beneath_handler (Source s ∷ r) = beneath_handler r
beneath_handler (Caller c ∷ r) = beneath_handler r

-- what the latest source keeps, if something is read
unfoldable pub latest_source : List ReturnItem → Option Reading
latest_source [] = None
latest_source (Source s ∷ r) = Some s
latest_source (Return to ∷ r) = latest_source r
latest_source (Loop l ∷ r) = latest_source r
latest_source (User x ∷ r) = latest_source r
latest_source (Handler h ∷ r) = latest_source r
latest_source (Caller c ∷ r) = latest_source r

-- the items beneath it, or none
unfoldable pub beneath_source : List ReturnItem → List ReturnItem
beneath_source [] = []
beneath_source (Source s ∷ r) = r
beneath_source (Return to ∷ r) = beneath_source r
beneath_source (Loop l ∷ r) = beneath_source r
beneath_source (User x ∷ r) = beneath_source r
beneath_source (Handler h ∷ r) = beneath_source r
beneath_source (Caller c ∷ r) = beneath_source r

abbrev pub nought : Cell
nought = record { 0 = 0 }

-- the cells cut to a depth, or filled up to it with cells of 0
abbrev pub to_depth : ℕ → List Cell → List Cell
to_depth depth s =
    if nat_lt (length s) depth then replicate (depth - length s) nought ++ s else drop (length s - depth) s

-- the number of a throw as a cell, by two's complement
abbrev pub number_cell : Throw → Cell
number_cell t = record { 0 = cast_unsigned w32 t.0 }

-- the data stack after a throw, given what the latest `catch` kept
abbrev pub unwound : Throw → Option ExceptionFrame → List Cell → List Cell
unwound t None s = []
unwound t (Some h) s = number_cell t ∷ to_depth h.depth s
