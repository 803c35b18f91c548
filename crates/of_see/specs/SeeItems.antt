-- The elements that `see` prints of a definition, by one pass over its cells (IEEE 1275-1994, annex A, `see`; Forth
-- 2012, 15.6.1.2194). Cells are numbered as in the code, from the first of the definition on.
use Rattle.std.specs.Prelude.{ℕ, zero, suc, ◌+◌, ◌-◌, ◌==◌, Bool, true, false, not, nat_lt, if◌then◌else◌, List, []}
use Rattle.std.specs.Prelude.{◌∷◌, ◌++◌, replicate, slice_index_or, Option, Some, None}
use Rattle.std.specs.List.{cons_option, count_by, filter, list_any}
use Rattle.of_code.specs.declared.item.Item.{Item}
use Rattle.of_code.specs.declared.item.Item.TheVariants as I
use Rattle.of_code.specs.Numbering.{is_return}
use Rattle.of_compile.specs.declared.element.Element.{Element}
use Rattle.of_compile.specs.declared.element.Element.TheVariants as E
use Rattle.of_compile.specs.declared.element.PlainItem.TheVariants as P

-- the cells of a definition: those up to its return
abbrev pub cells_to_return : List (Option Item) → List (Option Item)
cells_to_return [] = []
cells_to_return (None ∷ cells) = None ∷ cells_to_return cells
cells_to_return (Some item ∷ cells) = if is_return item then [] else Some item ∷ cells_to_return cells

-- a number is one of some
abbrev pub has : List ℕ → ℕ → Bool
has ns n = list_any (λ m. m == n) ns

-- ---- branches

-- where a branch goes: it takes a cell first, or doesn't
abbrev pub branch_of : Item → Option (Bool × ℕ)
branch_of (I.Operation xt) = None
branch_of (I.Literal x) = None
branch_of (I.String address n) = None
branch_of (I.Call xt) = None
branch_of (I.Store xt) = None
branch_of (I.Branch to) = Some (false, to.cell)
branch_of (I.BranchIfZero to) = Some (true, to.cell)
branch_of (I.Do to) = None
branch_of (I.QuestionDo to) = None
branch_of (I.Loop to) = None
branch_of (I.PlusLoop to) = None
branch_of (I.Leave to) = None
branch_of (I.Of to) = None
branch_of (I.EndOf to) = None
branch_of I.EndCase = None
branch_of I.Return = None

-- the cell to which an item branches is this one
abbrev pub is_to : ℕ → Option (Bool × ℕ) → Bool
is_to p None = false
is_to p (Some branch) = branch.1 == p

abbrev pub branches_to : ℕ → Option Item → Bool
branches_to p None = false
branches_to p (Some item) = is_to p (branch_of item)

-- Of the cells from p on: how many items there go back to p. As many times `begin` stands before p.
abbrev pub begins : ℕ → List (Option Item) → ℕ
begins p cells = count_by (branches_to p) cells

-- where the branches go that no `then` has ended, with one that was appended, if it goes forward; the latest first
abbrev pub with_branch : ℕ → Option (Bool × ℕ) → List ℕ → List ℕ
with_branch p None ts = ts
with_branch p (Some branch) ts = if nat_lt p branch.1 then branch.1 ∷ ts else ts

-- the end of a branch that so many later ones outlast
abbrev pub ending : ℕ → List Element
ending zero = E.Resolve None ∷ []
ending (suc later) = E.Roll (suc later) ∷ E.Resolve None ∷ []

-- the ends of the branches that go to p, the latest first, where so many later ones go elsewhere
abbrev pub endings : ℕ → ℕ → List ℕ → List Element
endings p later [] = []
endings p later (t ∷ ts) = if t == p then ending later ++ endings p later ts else endings p (suc later) ts

-- the branches that go elsewhere
abbrev pub lasting : ℕ → List ℕ → List ℕ
lasting p ts = filter (λ t. not (t == p)) ts

-- ---- cases

-- where an `endof` goes
abbrev pub past_case : Option Item → Option ℕ
past_case None = None
past_case (Some (I.Operation xt)) = None
past_case (Some (I.Literal x)) = None
past_case (Some (I.String address n)) = None
past_case (Some (I.Call xt)) = None
past_case (Some (I.Store xt)) = None
past_case (Some (I.Branch to)) = None
past_case (Some (I.BranchIfZero to)) = None
past_case (Some (I.Do to)) = None
past_case (Some (I.QuestionDo to)) = None
past_case (Some (I.Loop to)) = None
past_case (Some (I.PlusLoop to)) = None
past_case (Some (I.Leave to)) = None
past_case (Some (I.Of to)) = None
past_case (Some (I.EndOf to)) = Some to.cell
past_case (Some I.EndCase) = None
past_case (Some I.Return) = None

-- no `endof` of the same case came before
abbrev pub is_new : List ℕ → Option ℕ → Bool
is_new ends None = true
is_new ends (Some end) = not (has ends end)

-- Whether `case` stands before the item at p: an `of` or an `endcase` before which no `endof` of its case stands. The
-- `endof` of an `of` takes two cells and ends where the `of` goes; all go to the cell behind the `endcase`.
abbrev pub begins_case : ℕ → List (Option Item) → ℕ → Item → List ℕ → Bool
begins_case first cells p (I.Operation xt) ends = false
begins_case first cells p (I.Literal x) ends = false
begins_case first cells p (I.String address n) ends = false
begins_case first cells p (I.Call xt) ends = false
begins_case first cells p (I.Store xt) ends = false
begins_case first cells p (I.Branch to) ends = false
begins_case first cells p (I.BranchIfZero to) ends = false
begins_case first cells p (I.Do to) ends = false
begins_case first cells p (I.QuestionDo to) ends = false
begins_case first cells p (I.Loop to) ends = false
begins_case first cells p (I.PlusLoop to) ends = false
begins_case first cells p (I.Leave to) ends = false
begins_case first cells p (I.Of to) ends =
    is_new ends (past_case (slice_index_or cells (to.cell - first - 2) None))
begins_case first cells p (I.EndOf to) ends = false
begins_case first cells p I.EndCase ends = not (has ends (p + 1))
begins_case first cells p I.Return ends = false

-- where the cases end that have an `endof` and aren't ended, each once
abbrev pub with_end : ℕ → List ℕ → List ℕ
with_end end ends = if has ends end then ends else end ∷ ends

abbrev pub ends_after : ℕ → Item → List ℕ → List ℕ
ends_after p (I.Operation xt) ends = ends
ends_after p (I.Literal x) ends = ends
ends_after p (I.String address n) ends = ends
ends_after p (I.Call xt) ends = ends
ends_after p (I.Store xt) ends = ends
ends_after p (I.Branch to) ends = ends
ends_after p (I.BranchIfZero to) ends = ends
ends_after p (I.Do to) ends = ends
ends_after p (I.QuestionDo to) ends = ends
ends_after p (I.Loop to) ends = ends
ends_after p (I.PlusLoop to) ends = ends
ends_after p (I.Leave to) ends = ends
ends_after p (I.Of to) ends = ends
ends_after p (I.EndOf to) ends = with_end to.cell ends
ends_after p I.EndCase ends = lasting (p + 1) ends
ends_after p I.Return ends = ends

-- ---- elements

-- a branch from p: forward, or back
abbrev pub branch_element : ℕ → Bool → ℕ → Element
branch_element p on_zero t = if nat_lt p t then E.Branch on_zero None else E.Back on_zero None

-- the element of the item at p; a return has none
abbrev pub element_at : ℕ → Item → Option Element
element_at p (I.Operation xt) = Some (E.Plain (P.Operation xt))
element_at p (I.Literal x) = Some (E.Plain (P.Literal x))
element_at p (I.String address n) = Some (E.Plain (P.String address n))
element_at p (I.Call xt) = Some (E.Plain (P.Call xt))
element_at p (I.Store xt) = Some (E.Plain (P.Store xt))
element_at p (I.Branch to) = Some (branch_element p false to.cell)
element_at p (I.BranchIfZero to) = Some (branch_element p true to.cell)
element_at p (I.Do to) = Some (E.Do false)
element_at p (I.QuestionDo to) = Some (E.Do true)
element_at p (I.Loop to) = Some (E.Loop false)
element_at p (I.PlusLoop to) = Some (E.Loop true)
element_at p (I.Leave to) = Some E.Leave
element_at p (I.Of to) = Some E.Of
element_at p (I.EndOf to) = Some E.EndOf
element_at p I.EndCase = Some E.EndCase
element_at p I.Return = None

-- what is open before a cell
pub record Open : Type 0 where
  -- where the branches go that no `then` has ended, the latest first
  pub branches : List ℕ
  -- where the cases end that have an `endof`
  pub cases : List ℕ

-- what an item at p leaves open
abbrev pub opened : ℕ → Item → Open → Open
opened p item o = record {
  branches = with_branch p (branch_of item) (lasting p o.branches);
  cases = ends_after p item o.cases;
}

-- what stands before an item: the ends of the branches that go there, and a `begin` for each that comes back
abbrev pub before_item : ℕ → ℕ → Open → List Element
before_item p count o = endings p 0 o.branches ++ replicate count (E.Mark None)

-- an item with the `case` before it
abbrev pub case_if : Bool → List Element
case_if true = E.Case ∷ []
case_if false = []

abbrev pub item_elements : ℕ → List (Option Item) → ℕ → Item → Open → List Element
item_elements first all p item o =
    case_if (begins_case first all p item o.cases) ++ cons_option (element_at p item) []

-- what is printed of a cell: of the item that begins there, if one does
abbrev pub cell_elements : ℕ → List (Option Item) → ℕ → Option Item → ℕ → Open → List Element
cell_elements first all p None count o = []
cell_elements first all p (Some item) count o = before_item p count o ++ item_elements first all p item o

-- what it leaves open
abbrev pub open_after : ℕ → Option Item → Open → Open
open_after p None o = o
open_after p (Some item) o = opened p item o

-- what is printed from p on, where the rest of the definition is these cells
abbrev pub elements_from : ℕ → List (Option Item) → ℕ → List (Option Item) → Open → List Element
elements_from first all p [] o = endings p 0 o.branches
elements_from first all p (cell ∷ cells) o =
    cell_elements first all p cell (begins p (cell ∷ cells)) o
    ++ elements_from first all (p + 1) cells (open_after p cell o)

-- The elements that `see` prints of a definition whose cells are these, from one of the code on.
abbrev pub see_items : ℕ → List (Option Item) → List Element
see_items first cells = elements_from first cells first cells (record { branches = []; cases = [] })
