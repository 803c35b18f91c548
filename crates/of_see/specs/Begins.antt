-- How many items go back to each cell of a definition, counted in one pass.
use Rattle.std.specs.Prelude.{ℕ, ◌+◌, ◌-◌, ◌||◌, Bool, nat_lt, if◌then◌else◌, List, [], ◌∷◌, slice_index, slice_set}
use Rattle.std.specs.Prelude.{Option, Some, None}
use Rattle.of_code.specs.declared.item.Item.{Item}
use Rattle.of_see.specs.SeeItems.{begins, branch_of}

-- how many go back to each
abbrev pub all_begins : ℕ → List (Option Item) → List ℕ
all_begins p [] = []
all_begins p (cell ∷ cells) = begins p (cell ∷ cells) ∷ all_begins (p + 1) cells

-- which cell of a definition a branch in one of its cells goes back to, if it does
abbrev pub back_to : ℕ → ℕ → Option (Bool × ℕ) → Option ℕ
back_to first index None = None
back_to first index (Some branch) =
    if nat_lt branch.1 first || nat_lt (first + index) branch.1 then None else Some (branch.1 - first)

abbrev pub gone_back : ℕ → ℕ → Option Item → Option ℕ
gone_back first index None = None
gone_back first index (Some item) = back_to first index (branch_of item)

-- one more at a place, if there is one
abbrev pub counted : List ℕ → Option ℕ → List ℕ
counted counts None = counts
counted counts (Some i) = slice_set counts i (slice_index counts i + 1)
