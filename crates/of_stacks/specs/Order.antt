-- Of several faults of one word, the one that it throws.
use Rattle.std.specs.Prelude.{◌≡◌, ℕ, ◌≤◌, ℤ, Bool, false, nat_le, List, [], ◌∷◌, ◌++◌, map, Option, Some, None, Result}
use Rattle.std.specs.Prelude.{Ok, Err, if◌then◌else◌}
use Rattle.std.specs.List.{Contains, list_any}
use Rattle.of_stacks.specs.declared.throws.Throw.{Throw}
use Rattle.of_stacks.specs.Throws.{is_minus, throw}

-- where a throw stands in the order, from the addresses on
unfoldable pub later_rank : ℤ → ℕ
later_rank code =
    if is_minus 9 code then 10 else
    if is_minus 23 code then 11 else
    if is_minus 20 code then 12 else
    if is_minus 16 code then 13 else
    if is_minus 13 code then 14 else
    if is_minus 19 code then 15 else
    if is_minus 32 code then 16 else
    if is_minus 24 code then 17 else
    if is_minus 262 code then 18 else
    if is_minus 5 code then 20 else
    if is_minus 8 code then 21 else
    if is_minus 3 code then 22 else
    19

-- Where a throw stands in the order of faults: of two the one of lesser rank counts.
-- Those of rank 19 stand together, since no word finds two of them.
unfoldable pub rank : ℤ → ℕ
rank code =
    if is_minus 14 code then 0 else
    if is_minus 29 code then 1 else
    if is_minus 4 code then 2 else
    if is_minus 6 code then 3 else
    if is_minus 25 code then 4 else
    if is_minus 26 code then 5 else
    if is_minus 259 code then 6 else
    if is_minus 260 code then 7 else
    if is_minus 263 code then 8 else
    if is_minus 261 code then 9 else
    later_rank code

-- the one of two faults that counts
abbrev pub first_of : Throw → Throw → Throw
first_of t u = if nat_le (rank t.0) (rank u.0) then t else u

-- a fault, where it is found
abbrev pub fault_if : Bool → Throw → Option Throw
fault_if found t = if found then Some t else None

-- the fault that counts of one that may be found and of those behind it
abbrev pub counted : Option Throw → Option Throw → Option Throw
counted None later = later
counted (Some t) None = Some t
counted (Some t) (Some u) = Some (first_of t u)

-- of the faults that a word finds, the one that it throws
abbrev pub counting : List (Option Throw) → Option Throw
counting [] = None
counting (fault ∷ faults) = counted fault (counting faults)

-- the value, unless something is thrown
abbrev pub unless : {A : Type 0} → Option Throw → A → Result A Throw
unless None x = Ok x
unless (Some t) x = Err t

-- the value, unless the one fault that there can be is found
abbrev pub refused_if : {A : Type 0} → Bool → Throw → A → Result A Throw
refused_if found t x = unless (fault_if found t) x

-- ---- laws

-- the fault that counts is found, and none that is found stands before it
pub record FirstCounts : Type 0 where
  pub found : (faults : List (Option Throw)) (t : Throw) → counting faults ≡ Some t → Contains faults (Some t)
  pub first :
      (faults : List (Option Throw)) (t u : Throw) →
      counting faults ≡ Some t → Contains faults (Some u) → rank t.0 ≤ rank u.0
  pub none : (faults : List (Option Throw)) (u : Throw) → counting faults ≡ None → Contains faults (Some u) → ⊥

-- the faults that stand before all others, in their order: what can't be used here, what is missing
-- on a stack, handles, addresses, names and numbers
abbrev pub first_faults : List ℕ
first_faults =
    14 ∷ 29 ∷ 4 ∷ 6 ∷ 25 ∷ 26 ∷ 259 ∷ 260 ∷ 263 ∷ 261 ∷ 9 ∷ 23 ∷ 20 ∷ 16 ∷ 13 ∷ 19 ∷ 32 ∷ 24 ∷ 262 ∷ []

-- those that stand behind all others: what finds no room
abbrev pub last_faults : List ℕ
last_faults = 5 ∷ 8 ∷ 3 ∷ []

abbrev pub ranks_of : List ℕ → List ℕ
ranks_of numbers = map (λ n. rank (throw n).0) numbers

-- the ranks are the places in the written order
pub record OrderIsWritten : Type 0 where
  pub first : ranks_of first_faults
      ≡ 0 ∷ 1 ∷ 2 ∷ 3 ∷ 4 ∷ 5 ∷ 6 ∷ 7 ∷ 8 ∷ 9 ∷ 10 ∷ 11 ∷ 12 ∷ 13 ∷ 14 ∷ 15 ∷ 16 ∷ 17 ∷ 18 ∷ []
  pub others : (t : Throw) → list_any (λ n. is_minus n t.0) (first_faults ++ last_faults) ≡ false → rank t.0 ≡ 19
  pub last : ranks_of last_faults ≡ 20 ∷ 21 ∷ 22 ∷ []
