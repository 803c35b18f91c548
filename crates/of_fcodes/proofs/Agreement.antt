-- Places computed from rows whose numbers rise lead to the rows of these numbers.
use Rattle.std.proofs.Common.{◌≡◌, ℕ, suc, zero, ◌+◌, ◌≤◌, ◌<◌, Bool, true, false, ◌&&◌, List, [], ◌∷◌, length, drop}
use Rattle.std.proofs.Common.{get_or, Some, None, nat_eq, nat_lt, refl, ap, sym, ◌∙◌, arith}
use Rattle.std.specs.Prelude.{slice_get, nat_le}
use Rattle.std.proofs.lemmas.Bool.Decides.{nat_tests}
use Rattle.of_fcodes.specs.Rows.{Row}
use Rattle.of_fcodes.specs.Lookup.{row_in}

-- the numbers of the rows rise, from n on
abbrev pub is_rising : ℕ → List Row → Bool
is_rising n [] = true
is_rising n (r ∷ rs) = nat_le n r.number && is_rising (suc r.number) rs

abbrev pub place_if : Bool → ℕ → ℕ
place_if true k = k
place_if false k = 256

abbrev pub rest_if : Bool → Row → List Row → List Row
rest_if true r rs = rs
rest_if false r rs = r ∷ rs

abbrev pub next_if : Bool → ℕ → ℕ
next_if true k = suc k
next_if false k = k

abbrev pub place_at : ℕ → ℕ → List Row → ℕ
place_at n k [] = 256
place_at n k (r ∷ rs) = place_if (nat_eq r.number n) k

abbrev pub rest_at : ℕ → List Row → List Row
rest_at n [] = []
rest_at n (r ∷ rs) = rest_if (nat_eq r.number n) r rs

abbrev pub next_at : ℕ → ℕ → List Row → ℕ
next_at n k [] = k
next_at n k (r ∷ rs) = next_if (nat_eq r.number n) k

-- the places of m numbers from n on, where the rows that are left begin with the k-th
abbrev pub places_from : ℕ → ℕ → List Row → ℕ → List ℕ
places_from n k rs zero = []
places_from n k rs (suc m) = place_at n k rs ∷ places_from (suc n) (next_at n k rs) (rest_at n rs) m

get-drop : (all rs : List Row) (r : Row) (k : ℕ) → drop k all ≡ r ∷ rs → slice_get all k ≡ Some r
get-drop [] rs r zero h = cc
get-drop [] rs r (suc k) h = cc
get-drop (x ∷ all) rs r zero h = cc
get-drop (x ∷ all) rs r (suc k) h = get-drop all rs r k h

drop-next : (all rs : List Row) (r : Row) (k : ℕ) → drop k all ≡ r ∷ rs → drop (suc k) all ≡ rs
drop-next [] rs r zero h = cc
drop-next [] rs r (suc k) h = cc
drop-next (x ∷ all) rs r zero h = cc
drop-next (x ∷ all) rs r (suc k) h = drop-next all rs r k h

get-past : (all : List Row) (k : ℕ) → length all ≤ k → slice_get all k ≡ None
get-past [] k h = refl
get-past (x ∷ all) zero h = absurd (omega arith)
get-past (x ∷ all) (suc k) h = get-past all k (omega arith)

and_both : (a b : Bool) → a && b ≡ true → (a ≡ true) × (b ≡ true)
and_both true b h = (refl, h)
and_both false b h = absurd cc

-- a number below all others has no row
row_in-below : (rs : List Row) (n m : ℕ) → is_rising n rs ≡ true → m < n → row_in rs m ≡ None
row_in-below [] n m h lt = refl
row_in-below (r ∷ rs) n m h lt =
    let parts = and_both (nat_le n r.number) (is_rising (suc r.number) rs) h in
    let later : row_in rs m ≡ None = row_in-below rs (suc r.number) m parts.1 (grind (arith, nat_tests, parts.0)) in
    let other : nat_eq r.number m ≡ false = grind (arith, nat_tests, parts.0) in
    rw other later

row_in-other : (r : Row) (rs : List Row) (n : ℕ) → nat_eq r.number n ≡ false → row_in (r ∷ rs) n ≡ row_in rs n
row_in-other r rs n h = rw h refl

row_in-this : (r : Row) (rs : List Row) (n : ℕ) → nat_eq r.number n ≡ true → row_in (r ∷ rs) n ≡ Some r
row_in-this r rs n h = rw h refl

-- the rows that are left
rest_is-rising : (b : Bool) (r : Row) (rs : List Row) (n : ℕ) → nat_eq r.number n ≡ b → is_rising n (r ∷ rs) ≡ true
    → is_rising (suc n) (rest_if b r rs) ≡ true
rest_is-rising true r rs n e h =
    let parts = and_both (nat_le n r.number) (is_rising (suc r.number) rs) h in
    let same : r.number ≡ n = grind (arith, nat_tests, e) in
    rw (← same) parts.1
rest_is-rising false r rs n e h =
    let parts = and_both (nat_le n r.number) (is_rising (suc r.number) rs) h in
    let more : nat_le (suc n) r.number ≡ true = grind (arith, nat_tests, e, parts.0) in
    rw (more, parts.1) refl

rest-drop : (b : Bool) (all : List Row) (r : Row) (rs : List Row) (k : ℕ) → drop k all ≡ r ∷ rs
    → drop (next_if b k) all ≡ rest_if b r rs
rest-drop true all r rs k h = drop-next all rs r k h
rest-drop false all r rs k h = h

first_found : (b : Bool) (all : List Row) (r : Row) (rs : List Row) (n k : ℕ) → nat_eq r.number n ≡ b
    → length all ≤ 256 → drop k all ≡ r ∷ rs → is_rising n (r ∷ rs) ≡ true
    → slice_get all (place_if b k) ≡ row_in (r ∷ rs) n
first_found true all r rs n k e len at h = get-drop all rs r k at ∙ sym (row_in-this r rs n e)
first_found false all r rs n k e len at h =
    let parts = and_both (nat_le n r.number) (is_rising (suc r.number) rs) h in
    let least : n < suc r.number = grind (arith, nat_tests, parts.0) in
    get-past all 256 len ∙ sym (row_in-other r rs n e ∙ row_in-below rs (suc r.number) n parts.1 least)

row_in-rest : (b : Bool) (r : Row) (rs : List Row) (n m : ℕ) → nat_eq r.number n ≡ b → n < m
    → row_in (rest_if b r rs) m ≡ row_in (r ∷ rs) m
row_in-rest true r rs n m e lt =
    let other : nat_eq r.number m ≡ false = grind (arith, nat_tests, e) in
    sym (row_in-other r rs m other)
row_in-rest false r rs n m e lt = refl

-- the place of a number leads to its row
pub place_found : (m n k : ℕ) (all rs : List Row) → length all ≤ 256 → drop k all ≡ rs → is_rising n rs ≡ true
    → (j : ℕ) → j < m
    → slice_get all (get_or (places_from n k rs m) j 256) ≡ row_in rs (n + j)
place_found zero n k all rs len at h j lt = absurd (omega arith)
place_found (suc m) n k all [] len at h zero lt = get-past all 256 len
place_found (suc m) n k all [] len at h (suc j) lt = place_found m (suc n) k all [] len at refl j (omega arith)
place_found (suc m) n k all (r ∷ rs) len at h zero lt =
    let same : n + 0 ≡ n = omega arith in
    first_found (nat_eq r.number n) all r rs n k refl len at h ∙ ap (row_in (r ∷ rs)) (sym same)
place_found (suc m) n k all (r ∷ rs) len at h (suc j) lt =
    let same : suc n + j ≡ n + suc j = omega arith in
    place_found m (suc n) (next_if (nat_eq r.number n) k) all (rest_if (nat_eq r.number n) r rs) len
    (rest-drop (nat_eq r.number n) all r rs k at) (rest_is-rising (nat_eq r.number n) r rs n refl h) j (omega arith)
    ∙ row_in-rest (nat_eq r.number n) r rs n (suc n + j) refl (omega arith) ∙ ap (row_in (r ∷ rs)) same

-- all numbers are below m
abbrev pub are_below : ℕ → List Row → Bool
are_below m [] = true
are_below m (r ∷ rs) = nat_lt r.number m && are_below m rs

-- a number above all others has no row
pub row_in-above : (rs : List Row) (m n : ℕ) → are_below m rs ≡ true → m ≤ n → row_in rs n ≡ None
row_in-above [] m n h le = refl
row_in-above (r ∷ rs) m n h le =
    let parts = and_both (nat_lt r.number m) (are_below m rs) h in
    let other : nat_eq r.number n ≡ false = grind (arith, nat_tests, parts.0) in
    row_in-other r rs n other ∙ row_in-above rs m n parts.1 le
