-- How many items go back to each cell, counted item by item.
use Rattle.std.proofs.Common.{◌≡◌, ◌<◌, ◌≤◌, ◌-◌, ◌+◌, ◌||◌, ℕ, zero, suc, Bool, true, false, nat_eq, nat_lt, List}
use Rattle.std.proofs.Common.{[], ◌∷◌, length, drop, get_or, Option, Some, None, refl, ap, sym, ◌∙◌, arith, inl}
use Rattle.std.proofs.Common.{inr, if◌then◌else◌}
use Rattle.std.specs.Prelude.{◌==◌, cond, slice_index, IfSome}
use Rattle.std.proofs.lemmas.Bool.{cases_lt}
use Rattle.std.proofs.lemmas.Grind.{same_number_lists}
use Rattle.std.proofs.lemmas.List.Sums.{sum_by-cons}
use Rattle.of_code.specs.declared.item.Item.{Item}
use Rattle.of_code.specs.Items.{capacity}
use Rattle.of_see.specs.SeeItems.{begins, branch_of, branches_to, is_to}
use Rattle.of_see.specs.Begins.{all_begins, back_to, gone_back}

-- one for a cell to which an item goes back
abbrev pub one : ℕ → Option ℕ → ℕ
one q None = 0
one q (Some i) = cond (i == q) 1 0

-- how many of these cells, which are numbered from k on, go back to cell q
abbrev pub going_back : ℕ → ℕ → ℕ → List (Option Item) → ℕ
going_back first q k [] = 0
going_back first q k (cell ∷ cells) = one q (gone_back first k cell) + going_back first q (suc k) cells

-- ---- there are no more than items

one_at_most : (q : ℕ) (at : Option ℕ) → one q at ≤ 1
one_at_most q None = omega arith
one_at_most q (Some i) = at_most (i == q)
  where
    at_most : (b : Bool) → cond b 1 0 ≤ 1
    at_most true = omega arith
    at_most false = omega arith

pub few_go_back : (first q k : ℕ) (cells : List (Option Item)) → going_back first q k cells ≤ length cells
few_go_back first q k [] = omega arith
few_go_back first q k (cell ∷ cells) =
    omega (arith, one_at_most q (gone_back first k cell), few_go_back first q (suc k) cells)

-- ---- those that go back are those behind

-- whether a number is from a place on, as numbers
none_behind : (first q k : ℕ) (branch : Option (Bool × ℕ)) → k < q → one q (back_to first k branch) ≡ 0
none_behind first q k None l = refl
none_behind first q k (Some b) l = by_tests (nat_lt b.1 first || nat_lt (first + k) b.1) refl
  where
    by_tests : (t : Bool) → (nat_lt b.1 first || nat_lt (first + k) b.1) ≡ t
        → one q (if t then None else Some (b.1 - first)) ≡ 0
    by_tests true e = refl
    by_tests false e =
        let other : nat_eq (b.1 - first) q ≡ false = grind (arith, e, l) in
        ap (λ c. cond c 1 0) other

one_behind : (first q k : ℕ) (branch : Option (Bool × ℕ)) → q ≤ k
    → one q (back_to first k branch) ≡ cond (is_to (first + q) branch) 1 0
one_behind first q k None l = refl
one_behind first q k (Some b) l = by_tests (nat_lt b.1 first || nat_lt (first + k) b.1) refl
  where
    by_tests : (t : Bool) → (nat_lt b.1 first || nat_lt (first + k) b.1) ≡ t
        → one q (if t then None else Some (b.1 - first)) ≡ cond (nat_eq b.1 (first + q)) 1 0
    by_tests true e =
        let other : nat_eq b.1 (first + q) ≡ false = grind (arith, e, l) in
        sym (ap (λ c. cond c 1 0) other)
    by_tests false e =
        let same : nat_eq (b.1 - first) q ≡ nat_eq b.1 (first + q) = grind (arith, e, l) in
        ap (λ c. cond c 1 0) same

none_behind_cell : (first q k : ℕ) (cell : Option Item) → k < q → one q (gone_back first k cell) ≡ 0
none_behind_cell first q k None l = refl
none_behind_cell first q k (Some item) l = none_behind first q k (branch_of item) l

one_behind_cell : (first q k : ℕ) (cell : Option Item) → q ≤ k
    → one q (gone_back first k cell) ≡ cond (branches_to (first + q) cell) 1 0
one_behind_cell first q k None l = refl
one_behind_cell first q k (Some item) l = one_behind first q k (branch_of item) l

begins_more : (p : ℕ) (cell : Option Item) (cells : List (Option Item))
    → begins p (cell ∷ cells) ≡ cond (branches_to p cell) 1 0 + begins p cells
begins_more p cell cells = sum_by-cons (λ c. cond (branches_to p c) 1 0) cell cells

all_behind : (first q k : ℕ) (cells : List (Option Item)) → q ≤ k
    → going_back first q k cells ≡ begins (first + q) cells
all_behind first q k [] l = refl
all_behind first q k (cell ∷ cells) l =
    let one_more = one_behind_cell first q k cell l in
    let rest = all_behind first q (suc k) cells (omega (arith, l)) in
    omega (arith, one_more, rest, begins_more (first + q) cell cells)

pub gone_back_begins : (first q k : ℕ) (cells : List (Option Item))
    → going_back first q k cells ≡ begins (first + q) (drop (q - k) cells)
gone_back_begins first q k [] = none (q - k)
  where
    none : (n : ℕ) → 0 ≡ begins (first + q) (drop n [])
    none zero = refl
    none (suc n) = refl
gone_back_begins first q k (cell ∷ cells) = elim (cases_lt k q) [
  | inl less ↦
      let next : q - k ≡ suc (q - suc k) = omega (arith, less) in
      let none = none_behind_cell first q k cell less in
      let rest = gone_back_begins first q (suc k) cells in
      let same : begins (first + q) (drop (q - k) (cell ∷ cells)) ≡ begins (first + q) (drop (q - suc k) cells) =
      ap (λ n. begins (first + q) (drop n (cell ∷ cells))) next in
      omega (arith, none, rest, same)
  | inr most ↦
      let here : q - k ≡ 0 = omega (arith, most) in
      all_behind first q k (cell ∷ cells) most
      ∙ ap (λ n. begins (first + q) (drop n (cell ∷ cells))) (sym here)
]

-- ---- the counts in a list

pub all_length : (p : ℕ) (cells : List (Option Item)) → length (all_begins p cells) ≡ length cells
all_length p [] = refl
all_length p (cell ∷ cells) = ap suc (all_length (p + 1) cells)

pub begins_at : (p i : ℕ) (cells : List (Option Item)) (d : ℕ) → i < length cells
    → get_or (all_begins p cells) i d ≡ begins (p + i) (drop i cells)
begins_at p i [] d l = absurd (omega (arith, l))
begins_at p zero (cell ∷ cells) d l =
    let same : p + 0 ≡ p = omega arith in ap (λ n. begins n (cell ∷ cells)) (sym same)
begins_at p (suc i) (cell ∷ cells) d l =
    let same : p + 1 + i ≡ p + suc i = omega arith in
    begins_at (p + 1) i cells d (omega (arith, l)) ∙ ap (λ n. begins n (drop i cells)) same

-- what was counted is how many go back to each
pub all_counted : (first : ℕ) (cells : List (Option Item)) (counts : List ℕ) → length counts ≡ length cells
    → ((q : ℕ) → slice_index counts q ≡ going_back first q 0 cells) → counts ≡ all_begins first cells
all_counted first cells counts size each =
    same_number_lists counts (all_begins first cells) (size ∙ sym (all_length first cells)) (λ k l.
    each k
    ∙ gone_back_begins first k 0 cells
    ∙ ap (λ n. begins (first + k) (drop n cells)) (whole k)
    ∙ sym (begins_at first k cells 0 (omega (arith, l, size))))
  where
    whole : (k : ℕ) → k - 0 ≡ k
    whole k = omega arith

-- ---- what the loops need

-- there is room for one more
pub room : (first k : ℕ) (counts : List ℕ) (cells : List (Option Item)) (at : Option ℕ)
    → length counts ≡ length cells → length cells ≤ capacity → k < length cells → IfSome at (λ i. i ≤ k)
    → ((q : ℕ) → slice_index counts q + going_back first q k (drop k cells) ≡ going_back first q 0 cells)
    → IfSome at (λ i. (i < length counts) × (slice_index counts i ≤ capacity))
room first k counts cells None size few l back told = tt
room first k counts cells (Some i) size few l back told =
    (omega (arith, size, l, back), omega (arith, told i, few_go_back first i 0 cells, few))

-- none are left behind the last
pub none_left : (first q k : ℕ) (cells : List (Option Item)) → length cells ≤ k
    → going_back first q k (drop k cells) ≡ 0
none_left first q k cells l = ap (going_back first q k) (past k cells l)
  where
    past : (k : ℕ) (cells : List (Option Item)) → length cells ≤ k → drop k cells ≡ []
    past zero [] l = refl
    past (suc k) [] l = refl
    past zero (cell ∷ cells) l = absurd (omega (arith, l))
    past (suc k) (cell ∷ cells) l = past k cells (omega (arith, l))
