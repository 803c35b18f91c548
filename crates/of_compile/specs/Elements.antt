-- The elements of an open definition, and the items that they leave in code.
use Rattle.std.specs.Prelude.{ℕ, ◌+◌, Bool, true, false, List, [], ◌∷◌, Option, Some, None}
use Rattle.of_code.specs.declared.item.Place.{Place}
use Rattle.of_code.specs.declared.item.Item.{Item}
use Rattle.of_code.specs.declared.item.Item.TheVariants as I
use Rattle.of_code.specs.Items.{IsStorable, cells_of}
use Rattle.of_control.specs.Element.{Element as ElementOf, Plain, Branch, Resolve, Mark, Back, Roll, Do, Loop, Leave}
use Rattle.of_control.specs.Element.{Case, Of, EndOf, EndCase, Misfit}
use Rattle.of_compile.specs.declared.element.PlainItem.{PlainItem}
use Rattle.of_compile.specs.declared.element.PlainItem.TheVariants as P
use Rattle.of_compile.specs.declared.element.Element.{Element}
use Rattle.of_compile.specs.declared.element.Element.TheVariants as E

-- an element as the theory of control has it
abbrev pub element_of : Element → ElementOf PlainItem
element_of (E.Plain k) = Plain k
element_of (E.Branch z t) = Branch z t
element_of (E.Resolve p) = Resolve p
element_of (E.Mark p) = Mark p
element_of (E.Back z t) = Back z t
element_of (E.Roll n) = Roll n
element_of (E.Do q) = Do q
element_of (E.Loop l) = Loop l
element_of E.Leave = Leave
element_of E.Case = Case
element_of E.Of = Of
element_of E.EndOf = EndOf
element_of E.EndCase = EndCase
element_of (E.Misfit k) = Misfit k

-- the target of an item whose target isn't known yet
abbrev pub nowhere : Place
nowhere = record { cell = 0 }

abbrev pub plain_item : PlainItem → Item
plain_item (P.Operation xt) = I.Operation xt
plain_item (P.Literal x) = I.Literal x
plain_item (P.String address n) = I.String address n
plain_item (P.Call xt) = I.Call xt
plain_item (P.Store xt) = I.Store xt

-- a branch, only on zero or always
abbrev pub branch_item : Bool → Place → Item
branch_item true to = I.BranchIfZero to
branch_item false to = I.Branch to

-- `?do` or `do`
abbrev pub do_item : Bool → Place → Item
do_item true to = I.QuestionDo to
do_item false to = I.Do to

-- `+loop` or `loop`
abbrev pub loop_item : Bool → Place → Item
loop_item true to = I.PlusLoop to
loop_item false to = I.Loop to

-- the item that an element appends, its target not known yet
abbrev pub own_item : ElementOf PlainItem → Option Item
own_item (Plain k) = Some (plain_item k)
own_item (Branch z t) = Some (branch_item z nowhere)
own_item (Resolve p) = None
own_item (Mark p) = None
own_item (Back z t) = Some (branch_item z nowhere)
own_item (Roll n) = None
own_item (Do q) = Some (do_item q nowhere)
own_item (Loop l) = Some (loop_item l nowhere)
own_item Leave = Some (I.Leave nowhere)
own_item Case = None
own_item Of = Some (I.Of nowhere)
own_item EndOf = Some (I.EndOf nowhere)
own_item EndCase = Some I.EndCase
own_item (Misfit k) = Some (plain_item k)

-- every store can hold the item, if there is one
abbrev pub CanBeStored : Option Item → Type 0
CanBeStored None = Unit {0}
CanBeStored (Some item) = IsStorable item

-- how many cells it takes
abbrev pub item_size : Option Item → ℕ
item_size None = 0
item_size (Some item) = cells_of item

-- the cells that elements take
abbrev pub element_cells : List (ElementOf PlainItem) → ℕ
element_cells [] = 0
element_cells (e ∷ es) = element_cells es + item_size (own_item e)
