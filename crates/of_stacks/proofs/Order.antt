-- Of several faults the first counts, and the order is as it is written.
use Rattle.std.proofs.Common.{◌≡◌, ℕ, zero, suc, ◌<◌, ◌≤◌, Bool, true, false, ◌||◌, List, [], ◌∷◌, ◌++◌, length}
use Rattle.std.proofs.Common.{Option, Some, None, nat_le, if◌then◌else◌, refl, arith}
use Rattle.std.specs.List.{Contains, list_any}
use Rattle.std.proofs.lemmas.Bool.Decides.{nat_tests}
use Rattle.of_stacks.specs.declared.throws.Throw.{Throw}
use Rattle.of_stacks.specs.Throws.{is_minus}
use Rattle.of_stacks.specs.Order.{rank, later_rank, first_of, counted, counting, FirstCounts, OrderIsWritten}
use Rattle.of_stacks.specs.Order.{first_faults, last_faults}

-- an element behind another
behind : (fault : Option Throw) (faults : List (Option Throw)) (t : Throw) → Contains faults (Some t)
    → Contains (fault ∷ faults) (Some t)
behind fault faults t there =
    let below : there.0 < length faults = there.1 in
    (suc there.0, omega (arith, below), there.2)

one_of : (u v : Throw) (faults : List (Option Throw)) (b : Bool) (t : Throw) →
    Some (if b then u else v) ≡ Some t → Contains faults (Some v) → Contains (Some u ∷ faults) (Some t)
one_of u v faults true t e there = (zero, omega arith, e)
one_of u v faults false t e there =
    let same : v ≡ t = cc in
    rw (← same) (behind (Some u) faults v there)

found_at : (u : Throw) (faults : List (Option Throw)) (later : Option Throw) (t : Throw) →
    counted (Some u) later ≡ Some t → ((v : Throw) → later ≡ Some v → Contains faults (Some v))
    → Contains (Some u ∷ faults) (Some t)
found_at u faults None t e there = (zero, omega arith, e)
found_at u faults (Some v) t e there = one_of u v faults (nat_le (rank u.0) (rank v.0)) t e (there v refl)

found : (faults : List (Option Throw)) (t : Throw) → counting faults ≡ Some t → Contains faults (Some t)
found [] t e = let no : ⊥ = cc in absurd no
found (None ∷ faults) t e = behind None faults t (found faults t e)
found (Some u ∷ faults) t e = found_at u faults (counting faults) t e (found faults)

-- the fault that counts of two stands before neither
first_least : (u v : Throw) (b : Bool) → nat_le (rank u.0) (rank v.0) ≡ b →
    (rank (if b then u else v).0 ≤ rank u.0) × (rank (if b then u else v).0 ≤ rank v.0)
first_least u v true e = (omega arith, grind (arith, nat_tests, e))
first_least u v false e = (grind (arith, nat_tests, e), omega arith)

-- what counts stands before no fault found, if it stands before none behind the first
least_here : (u : Throw) (later : Option Throw) (t : Throw) → counted (Some u) later ≡ Some t → rank t.0 ≤ rank u.0
least_here u None t e = let same : u ≡ t = cc in rw (← same) (omega arith)
least_here u (Some v) t e =
    let same : first_of u v ≡ t = cc in
    rw (← same) (first_least u v (nat_le (rank u.0) (rank v.0)) refl).0

least_behind : (fault later : Option Throw) (t v w : Throw) → counted fault later ≡ Some t → later ≡ Some v
    → rank v.0 ≤ rank w.0 → rank t.0 ≤ rank w.0
least_behind None later t v w e f le =
    let same : v ≡ t = cc in
    rw (← same) le
least_behind (Some u) None t v w e f le = let no : ⊥ = cc in absurd no
least_behind (Some u) (Some x) t v w e f le =
    let was : x ≡ v = cc in
    let same : first_of u x ≡ t = cc in
    let least : rank (first_of u x).0 ≤ rank x.0 = (first_least u x (nat_le (rank u.0) (rank x.0)) refl).1 in
    let here : rank x.0 ≤ rank w.0 = rw was le in
    rw (← same) (omega (arith, least, here))

some_counted : (v : Throw) (later : Option Throw) → counted (Some v) later ≡ None → ⊥
some_counted v None e = cc
some_counted v (Some w) e = cc

-- where a fault is found one counts
none : (faults : List (Option Throw)) (u : Throw) → counting faults ≡ None → Contains faults (Some u) → ⊥
none [] u e there = omega (arith, there.1)
none (None ∷ faults) u e (zero, lt, same) = cc
none (None ∷ faults) u e (suc k, lt, same) = none faults u e (k, omega (arith, lt), same)
none (Some v ∷ faults) u e there = some_counted v (counting faults) e

first_in_rest : (fault : Option Throw) (faults : List (Option Throw)) (t u : Throw) (later : Option Throw) →
    counting faults ≡ later → counted fault later ≡ Some t → Contains faults (Some u) →
    ((v : Throw) → later ≡ Some v → rank v.0 ≤ rank u.0) → rank t.0 ≤ rank u.0
first_in_rest fault faults t u None f e there le = absurd (none faults u f there)
first_in_rest fault faults t u (Some v) f e there le = least_behind fault (Some v) t v u e refl (le v refl)

first : (faults : List (Option Throw)) (t u : Throw) → counting faults ≡ Some t → Contains faults (Some u)
    → rank t.0 ≤ rank u.0
first [] t u e there = absurd (omega (arith, there.1))
first (None ∷ faults) t u e (zero, lt, same) = let no : ⊥ = cc in absurd no
first (Some v ∷ faults) t u e (zero, lt, same) =
    let here : v ≡ u = cc in
    rw (← here) (least_here v (counting faults) t e)
first (fault ∷ faults) t u e (suc k, lt, same) =
    let there : Contains faults (Some u) = (k, omega (arith, lt), same) in
    first_in_rest fault faults t u (counting faults) refl e there
    (λ (v : Throw) (f : counting faults ≡ Some v). first faults v u f there)

pub first_counts : FirstCounts
first_counts = record { found = found; first = first; none = none }

-- a test that isn't met, and those behind it
skip : (b c : Bool) (x y : ℕ) → b || c ≡ false → (c ≡ false → y ≡ 19) → (if b then x else y) ≡ 19
skip false c x y h rest = rest h
skip true c x y h rest = let no : ⊥ = cc in absurd no

others : (t : Throw) → list_any (λ n. is_minus n t.0) (first_faults ++ last_faults) ≡ false → rank t.0 ≡ 19
unfolding rank later_rank
others t h =
    skip (is_minus 14 t.0) _ 0 _ h (λ h.
    skip (is_minus 29 t.0) _ 1 _ h (λ h.
    skip (is_minus 4 t.0) _ 2 _ h (λ h.
    skip (is_minus 6 t.0) _ 3 _ h (λ h.
    skip (is_minus 25 t.0) _ 4 _ h (λ h.
    skip (is_minus 26 t.0) _ 5 _ h (λ h.
    skip (is_minus 259 t.0) _ 6 _ h (λ h.
    skip (is_minus 260 t.0) _ 7 _ h (λ h.
    skip (is_minus 263 t.0) _ 8 _ h (λ h.
    skip (is_minus 261 t.0) _ 9 _ h (λ h.
    skip (is_minus 9 t.0) _ 10 _ h (λ h.
    skip (is_minus 23 t.0) _ 11 _ h (λ h.
    skip (is_minus 20 t.0) _ 12 _ h (λ h.
    skip (is_minus 16 t.0) _ 13 _ h (λ h.
    skip (is_minus 13 t.0) _ 14 _ h (λ h.
    skip (is_minus 19 t.0) _ 15 _ h (λ h.
    skip (is_minus 32 t.0) _ 16 _ h (λ h.
    skip (is_minus 24 t.0) _ 17 _ h (λ h.
    skip (is_minus 262 t.0) _ 18 _ h (λ h.
    skip (is_minus 5 t.0) _ 20 _ h (λ h.
    skip (is_minus 8 t.0) _ 21 _ h (λ h.
    skip (is_minus 3 t.0) _ 22 _ h (λ h.
    refl))))))))))))))))))))))

pub order_is_written : OrderIsWritten
unfolding rank later_rank
order_is_written = record { first = refl; others = others; last = refl }
