-- How many `begin`s and `then`s are printed (Forth 2012, 6.1.0760, 6.1.2270, 6.1.2390, 6.2.0700).
use Rattle.std.specs.Prelude.{◌≡◌, ℕ, ◌+◌, ◌==◌, ◌&&◌, ◌||◌, nat_lt, Bool, true, false, cond, is_some, List}
use Rattle.std.specs.Prelude.{[], ◌∷◌, slice_index_or, Option, Some, None}
use Rattle.std.specs.List.{count_by}
use Rattle.of_code.specs.declared.item.Item.{Item}
use Rattle.of_compile.specs.declared.element.Element.{Element}
use Rattle.of_compile.specs.declared.element.Element.TheVariants as E
use Rattle.of_see.specs.Begins.{gone_back}
use Rattle.of_see.specs.SeeItems.{branch_of, see_items}

-- an element is a `begin`
abbrev pub is_begin : Element → Bool
is_begin (E.Plain k) = false
is_begin (E.Branch z t) = false
is_begin (E.Resolve p) = false
is_begin (E.Mark p) = true
is_begin (E.Back z t) = false
is_begin (E.Roll n) = false
is_begin (E.Do q) = false
is_begin (E.Loop l) = false
is_begin E.Leave = false
is_begin E.Case = false
is_begin E.Of = false
is_begin E.EndOf = false
is_begin E.EndCase = false
is_begin (E.Misfit k) = false

-- of these cells of a definition, numbered from k on: how many hold an item that goes back to a cell of the definition
abbrev pub backs : ℕ → ℕ → List (Option Item) → ℕ
backs first k [] = 0
backs first k (cell ∷ cells) = cond (is_some (gone_back first k cell)) 1 0 + backs first (k + 1) cells

-- an item begins wherever one goes back to
abbrev pub BacksAreAimed : ℕ → List (Option Item) → Type 0
BacksAreAimed first cells =
    (k i : ℕ) → gone_back first k (slice_index_or cells k None) ≡ Some i → is_some (slice_index_or cells i None) ≡ true

-- There are as many `begin`s as items that go back.
abbrev pub BeginsAreCounted : Type 0
BeginsAreCounted =
    (first : ℕ) (cells : List (Option Item)) → BacksAreAimed first cells
    → count_by is_begin (see_items first cells) ≡ backs first 0 cells

-- ---- branches forward

-- an element is a `then`
abbrev pub is_then : Element → Bool
is_then (E.Plain k) = false
is_then (E.Branch z t) = false
is_then (E.Resolve p) = true
is_then (E.Mark p) = false
is_then (E.Back z t) = false
is_then (E.Roll n) = false
is_then (E.Do q) = false
is_then (E.Loop l) = false
is_then E.Leave = false
is_then E.Case = false
is_then E.Of = false
is_then E.EndOf = false
is_then E.EndCase = false
is_then (E.Misfit k) = false

-- a branch at p goes forward
abbrev pub is_forward : ℕ → Option (Bool × ℕ) → Bool
is_forward p None = false
is_forward p (Some branch) = nat_lt p branch.1

-- of these cells, numbered from p on: how many hold a branch that goes forward
abbrev pub forwards : ℕ → List (Option Item) → ℕ
forwards p [] = 0
forwards p (None ∷ cells) = forwards (p + 1) cells
forwards p (Some item ∷ cells) = cond (is_forward p (branch_of item)) 1 0 + forwards (p + 1) cells

-- an item begins at t, or the cells end there
abbrev pub is_place : ℕ → List (Option Item) → ℕ → Bool
is_place p [] t = t == p
is_place p (cell ∷ cells) t = (is_some cell && (t == p)) || is_place (p + 1) cells t

-- a branch that goes forward from the cell before these goes to such a place
abbrev pub IsAimed : ℕ → List (Option Item) → Option (Bool × ℕ) → Type 0
IsAimed p cells None = Unit {0}
IsAimed p cells (Some branch) = nat_lt p branch.1 ≡ true → is_place (p + 1) cells branch.1 ≡ true

abbrev pub ForwardsAreAimed : ℕ → List (Option Item) → Type 0
ForwardsAreAimed p [] = Unit {0}
ForwardsAreAimed p (None ∷ cells) = ForwardsAreAimed (p + 1) cells
ForwardsAreAimed p (Some item ∷ cells) = IsAimed p cells (branch_of item) × ForwardsAreAimed (p + 1) cells

-- There are as many `then`s as branches that go forward.
abbrev pub ThensAreCounted : Type 0
ThensAreCounted =
    (first : ℕ) (cells : List (Option Item)) → ForwardsAreAimed first cells
    → count_by is_then (see_items first cells) ≡ forwards first cells
