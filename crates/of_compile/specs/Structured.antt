-- Definitions by their structure, and the code that they are: how they are compiled, ended and abandoned, and what is
-- fetched where one runs.
use Rattle.std.specs.Prelude.{ℕ, zero, suc, ◌+◌, ◌-◌, ◌==◌, nat_le, nat_lt, Bool, true, false, if◌then◌else◌, List, []}
use Rattle.std.specs.Prelude.{◌∷◌, ◌++◌, map, length, Option, Some, None, Result, Ok, Err}
use Rattle.of_cells.specs.declared.cells.Cell.{Cell}
use Rattle.of_code.specs.declared.item.Place.{Place}
use Rattle.of_code.specs.declared.item.Item.{Item}
use Rattle.of_code.specs.declared.item.Item.TheVariants as I
use Rattle.of_code.specs.declared.store.Start.{Start}
use Rattle.of_code.specs.Items.{capacity, cells_of, laid_out}
use Rattle.of_code.specs.Code.{Code}
use Rattle.of_control.specs.Element.{Element}
use Rattle.of_control.specs.Body.{Body, items_of}
use Rattle.of_control.specs.Openers.{one_later}
use Rattle.of_control.specs.Reading.{body_in}
use Rattle.of_control.specs.Running.{DropsSelector, EndsArm, Enters, Jumps, Leaves, Performs, Point, Repeats, Returns}
use Rattle.of_control.specs.Running.{Taken, Tests, number, step_at}
use Rattle.of_stacks.specs.declared.throws.Throw.{Throw}
use Rattle.of_stacks.specs.Throws.{control_mismatch, dictionary_overflow}
use Rattle.of_compile.specs.declared.element.PlainItem.{PlainItem}
use Rattle.of_compile.specs.Elements.{branch_item, do_item, element_cells, loop_item, own_item, plain_item}
use Rattle.of_compile.specs.Coding.{Coding, Outcome, coding_on, past, place_of}
use Rattle.of_compile.specs.Layout.{item_cells, item_place, laid_body, total}

-- a finished word with its body
pub record Definition : Type 0 where
  pub xt : Cell
  pub body : Body PlainItem

-- the finished words and the elements of the open definition, the latest first
pub record Definitions : Type 0 where
  pub finished : List Definition
  pub elements : List (Element PlainItem)

-- ---- as code

-- the cells of words in the order in which they were finished, each with a return behind its body
abbrev pub laid_all : List Definition → List (Option Item)
laid_all [] = []
laid_all (d ∷ ds) = laid_all ds ++ (laid_body (length (laid_all ds)) d.body ++ laid_out I.Return)

-- where they begin
abbrev pub starts_of : List Definition → List Start
starts_of [] = []
starts_of (d ∷ ds) = record { xt = d.xt; place = place_of (length (laid_all ds)) } ∷ starts_of ds

-- their code, with an empty open definition
abbrev pub code_of : List Definition → Code
code_of ds = record { cells = laid_all ds; opened = place_of (length (laid_all ds)); starts = starts_of ds }

-- the code of all definitions, in which the elements of the open one are compiled
abbrev pub flat_of : Definitions → Coding
flat_of d = coding_on (code_of d.finished) d.elements

-- ---- compiling, ending, abandoning

-- the cells that words take
abbrev pub finished_cells : List Definition → ℕ
finished_cells [] = 0
finished_cells (d ∷ ds) = finished_cells ds + (total (map item_cells (items_of d.body)) + 1)

-- whether there is room for an item, if there is one
abbrev pub has_room : Option Item → Definitions → Bool
has_room None d = true
has_room (Some item) d =
    nat_le (finished_cells d.finished + element_cells d.elements + cells_of item) capacity

-- what an action leaves, and whether it threw
pub record Told : Type 0 where
  pub definitions : Definitions
  pub ended : Result (Unit {0}) Throw

abbrev pub told : Definitions → Told
told d = record { definitions = d; ended = Ok tt }

abbrev pub refused : Definitions → Throw → Told
refused d t = record { definitions = d; ended = Err t }

-- a compiled token appends an element
abbrev pub element_told : Element PlainItem → Definitions → Told
element_told e d =
    if has_room (own_item e) d then told (record d { elements = e ∷ d.elements }) else refused d dictionary_overflow

-- the open definition finished with this body, if it has one
abbrev pub finished_told : Cell → Definitions → Option (Body PlainItem) → Told
finished_told xt d None = refused d control_mismatch
finished_told xt d (Some b) =
    if has_room (Some I.Return) d then
    told (record { finished = record { xt = xt; body = b } ∷ d.finished; elements = [] })
    else refused d dictionary_overflow

-- `b(;)` gives the word the body of its elements, in which at most 32 structures are open at once
abbrev pub semicolon_told : Cell → Definitions → Told
semicolon_told xt d = finished_told xt d (body_in 32 d.elements)

-- without the open definition
abbrev pub abandoned_told : Definitions → Definitions
abandoned_told d = record d { elements = [] }

-- the same as code
abbrev pub flat_told : Told → Outcome
flat_told t = record { coding = flat_of t.definitions; ended = t.ended }

-- ---- running

-- a place in a word whose body begins at the cell `start`, by the number of its item; the return comes last
pub record Spot : Type 0 where
  pub start : ℕ
  pub body : Body PlainItem
  pub number : ℕ

-- the number of the item that begins so many cells behind the beginning of items of these sizes, the return last
abbrev pub number_at : List ℕ → ℕ → Option ℕ
number_at ns zero = Some 0
number_at [] (suc c) = None
number_at (n ∷ ns) (suc c) = if nat_lt (suc c) n then None else one_later (number_at ns (suc c - n))

abbrev pub spot_of : ℕ → Body PlainItem → Option ℕ → Option Spot
spot_of start b None = None
spot_of start b (Some k) = Some (record { start = start; body = b; number = k })

-- the spot of the item that begins at a cell, if one of a finished word does
abbrev pub spot_in : List Definition → ℕ → Option Spot
spot_in [] c = None
spot_in (d ∷ ds) c =
    if nat_lt c (length (laid_all ds)) then spot_in ds c else
    spot_of (length (laid_all ds)) d.body (number_at (map item_cells (items_of d.body)) (c - length (laid_all ds)))

-- the place of a point of the word that has this spot
abbrev pub point_place : Spot → Point PlainItem → Place
point_place s p = item_place s.start (items_of s.body) (number s.body p)

-- what is taken at a point as an item, where each point has its place
abbrev pub taken_item : (Point PlainItem → Place) → Taken PlainItem → Item
taken_item place (Performs k) = plain_item k
taken_item place (Jumps z p) = branch_item z (place p)
taken_item place (Enters q p) = do_item q (place p)
taken_item place (Repeats l p) = loop_item l (place p)
taken_item place (Leaves p) = I.Leave (place p)
taken_item place (Tests p) = I.Of (place p)
taken_item place (EndsArm p) = I.EndOf (place p)
taken_item place DropsSelector = I.EndCase
taken_item place Returns = I.Return

abbrev pub is_return : {A : Type 0} → Taken A → Bool
is_return (Performs k) = false
is_return (Jumps z p) = false
is_return (Enters q p) = false
is_return (Repeats l p) = false
is_return (Leaves p) = false
is_return (Tests p) = false
is_return (EndsArm p) = false
is_return DropsSelector = false
is_return Returns = true

-- what is taken at the spot of a place, and the place of the next point; behind a return nothing goes on
abbrev pub taken_at : Place → Option Spot → Option (Item × Place)
taken_at p None = None
taken_at p (Some s) =
    let t = step_at s.body s.number in
    Some (taken_item (point_place s) t.taken, if is_return t.taken then past p 1 else point_place s t.next)

-- what is fetched at a place of the finished words
abbrev pub fetched : Definitions → Place → Option (Item × Place)
fetched d p = taken_at p (spot_in d.finished p.cell)

-- where a word begins, of which the latest counts
abbrev pub begun : List Definition → Cell → Option Spot
begun [] xt = None
begun (d ∷ ds) xt =
    if d.xt.0 == xt.0 then Some (record { start = length (laid_all ds); body = d.body; number = 0 }) else begun ds xt

-- the place of a spot
abbrev pub spot_place : Spot → Place
spot_place s = item_place s.start (items_of s.body) s.number

abbrev pub begun_place : Option Spot → Option Place
begun_place None = None
begun_place (Some s) = Some (spot_place s)
