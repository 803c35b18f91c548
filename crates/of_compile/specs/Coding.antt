-- What each element makes of an open definition: the code so far, and what is open in it.
use Rattle.std.specs.Prelude.{ℕ, ◌+◌, ◌==◌, Bool, true, false, if◌then◌else◌, List, [], ◌∷◌, map, take, drop, ◌++◌}
use Rattle.std.specs.Prelude.{Option, Some, None, Result, Ok, Err}
use Rattle.of_cells.specs.declared.cells.Cell.{Cell}
use Rattle.of_code.specs.declared.item.Place.{Place}
use Rattle.of_code.specs.declared.item.Item.{Item}
use Rattle.of_code.specs.declared.item.Item.TheVariants as I
use Rattle.of_code.specs.Items.{with_target}
use Rattle.of_code.specs.Code.{Code, abandoned, appended, end_of, finished, has_room, retargeted}
use Rattle.of_control.specs.Openers.{Openers, is_all_closed}
use Rattle.of_control.specs.Element.{Element, Plain, Branch, Resolve, Mark, Back, Roll, Do, Loop, Leave, Case, Of}
use Rattle.of_control.specs.Element.{EndOf, EndCase, Misfit}
use Rattle.of_control.specs.Calls.{AreWithin, IsWithin as IsPlaceWithin, after_call, call_answer}
use Rattle.of_stacks.specs.declared.throws.Throw.{Throw}
use Rattle.of_stacks.specs.Throws.{control_mismatch, dictionary_overflow}
use Rattle.of_compile.specs.declared.element.PlainItem.{PlainItem}
use Rattle.of_compile.specs.declared.waiting.Waiting.{Waiting}
use Rattle.of_compile.specs.declared.waiting.Waiting.TheVariants.{Leaves, Arms}
use Rattle.of_compile.specs.Elements.{branch_item, do_item, loop_item, nowhere, own_item, plain_item}

-- all code, the open definition last, and the control structures that are open in it
pub record Coding : Type 0 where
  pub code : Code
  pub openers : Openers

-- whether an item waits for the end of its loop or case
abbrev pub waits : Waiting → Item → Bool
waits Leaves (I.Leave to) = to.cell == 0
waits Arms (I.EndOf to) = to.cell == 0
waits _ _ = false

-- an item that gets this target if it waits
abbrev pub aimed : Waiting → Place → Item → Item
aimed w to item = if waits w item then with_target item to else item

-- the same of what begins at a cell
abbrev pub aimed_cell : Waiting → Place → Option Item → Option Item
aimed_cell w to None = None
aimed_cell w to (Some item) = Some (aimed w to item)

-- each item that waits gets this target, from a place on
abbrev pub aimed_from : Waiting → Place → Place → Code → Code
aimed_from w from to c =
    record c { cells = take from.cell c.cells ++ map (aimed_cell w to) (drop from.cell c.cells) }

abbrev pub place_of : ℕ → Place
place_of n = record { cell = n }

-- so many cells past a place
abbrev pub past : Place → ℕ → Place
past place n = record { cell = place.cell + n }

-- a loop ended, whose `do` is at this cell: the `do` and each `leave` go past it, and it goes back past the `do`
abbrev pub looped : Bool → ℕ → Code → Code
looped l n c =
    let end = past (end_of c) 2 in
    appended (aimed_from Leaves (place_of n) end (retargeted c (place_of n) end)) (loop_item l (place_of (n + 2)))

-- a case ended, which began at this cell: each `endof` goes past it
abbrev pub cased : ℕ → Code → Code
cased n c = appended (aimed_from Arms (place_of n) (past (end_of c) 1) c) I.EndCase

-- the code after an element, where the control-flow stack answers it the place of what it closes
abbrev pub code_after : Element PlainItem → Option ℕ → Code → Code
code_after (Plain k) a c = appended c (plain_item k)
code_after (Branch z t) a c = appended c (branch_item z nowhere)
code_after (Resolve p) (Some n) c = retargeted c (place_of n) (end_of c)
code_after (Resolve p) None c = c
code_after (Mark p) a c = c
code_after (Back z t) (Some n) c = appended c (branch_item z (place_of n))
code_after (Back z t) None c = appended c (branch_item z nowhere)
code_after (Roll n) a c = c
code_after (Do q) a c = appended c (do_item q nowhere)
code_after (Loop l) (Some n) c = looped l n c
code_after (Loop l) None c = appended c (loop_item l nowhere)
code_after Leave a c = appended c (I.Leave nowhere)
code_after Case a c = c
code_after Of a c = appended c (I.Of nowhere)
code_after EndOf (Some n) c = appended (retargeted c (place_of n) (past (end_of c) 2)) (I.EndOf nowhere)
code_after EndOf None c = appended c (I.EndOf nowhere)
code_after EndCase (Some n) c = cased n c
code_after EndCase None c = appended c I.EndCase
code_after (Misfit k) a c = appended c (plain_item k)

-- an open definition after an element, in which 32 structures may be open at once
abbrev pub compiled : Element PlainItem → Coding → Coding
compiled e c = record {
  code = code_after e (call_answer e c.openers) c.code;
  openers = after_call 32 (end_of c.code).cell e c.openers;
}

-- what a call leaves, and whether it threw
pub record Outcome : Type 0 where
  pub coding : Coding
  pub ended : Result (Unit {0}) Throw

-- whether an item doesn't pass the last cell, if there is one
abbrev pub fits : Option Item → Code → Bool
fits None c = true
fits (Some item) c = has_room c item

-- compiling an element: -8 where its item would pass the last cell
unfoldable pub compiling : Element PlainItem → Coding → Outcome
compiling e c =
    if fits (own_item e) c.code then record { coding = compiled e c; ended = Ok tt }
    else record { coding = c; ended = Err dictionary_overflow }

-- an empty open definition after these elements, the latest first
abbrev pub coding_on : Code → List (Element PlainItem) → Coding
coding_on base [] = record { code = base; openers = Some [] }
coding_on base (e ∷ es) = compiled e (coding_on base es)

-- ending the open definition as the word xt: -22 where control isn't matched, then -8 where the return would pass the
-- last cell
unfoldable pub finishing : Cell → Coding → Outcome
finishing xt c =
    if is_all_closed c.openers then
    (if has_room c.code I.Return then record { coding = record c { code = finished c.code xt }; ended = Ok tt }
    else record { coding = c; ended = Err dictionary_overflow })
    else record { coding = c; ended = Err control_mismatch }

-- without the open definition
abbrev pub abandoning : Coding → Coding
abandoning c = record { code = abandoned c.code; openers = Some [] }

-- the parts of an open definition
abbrev pub coding_of : Code → Openers → Coding
coding_of code openers = record { code = code; openers = openers }

-- and with whether a call threw
abbrev pub outcome_of : Code → Openers → Result (Unit {0}) Throw → Outcome
outcome_of code openers ended = record { coding = coding_of code openers; ended = ended }

-- an open definition, and for how many calls that append or finish there is memory
pub record Spared : Type 0 where
  pub coding : Coding
  pub spare : ℕ

-- what is open begins in the code or at its end
abbrev pub IsWithin : Coding → Type 0
IsWithin c = AreWithin (end_of c.code).cell c.openers

-- and so does what an element closes
abbrev pub IsAnsweredWithin : Element PlainItem → Coding → Type 0
IsAnsweredWithin e c = IsPlaceWithin (end_of c.code).cell (call_answer e c.openers)
