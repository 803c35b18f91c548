-- A step passes the limit where it crosses the boundary before it.
use Rattle.std.proofs.Common.{◌≡◌, ◌↔◌, ℕ, ◌+◌, ◌-◌, ◌^◌, ◌%◌, ◌≤◌, ◌<◌, ℤ, pos, negsuc, ◌+ℤ◌, Bool, true}
use Rattle.std.proofs.Common.{false}
use Rattle.std.proofs.Common.{◌||◌, nat_lt, sym, ap, ◌∙◌, arith}
use Rattle.std.specs.Prelude.{int_lt, int_le}
use Rattle.std.specs.Int.{w32}
use Rattle.std.proofs.lemmas.Int.{ints, to_z_pos}
use Rattle.std.proofs.lemmas.Bool.Decides.{nat_tests}
use Rattle.of_cells.specs.declared.cells.Cell.{Cell}
use Rattle.of_cells.specs.Numbers.{cell, signed}
use Rattle.of_cells.specs.Arithmetic.{plus, minus}
use Rattle.of_cells.specs.Splitting.{IsCell}
use Rattle.of_stacks.specs.Loops.{passes_limit}
use Rattle.of_stacks.specs.ReturnLaws.{LimitsArePassed}

abbrev outside : ℤ → Bool
outside z = int_lt z (pos 0) || int_le (pos (2 ^ 32)) z

over_is : (d s : ℕ) → outside (pos d +ℤ pos s) ≡ true → 2 ^ 32 ≤ d + s
over_is d s h = grind (arith, ints, nat_tests, h)

is_over : (d s : ℕ) → 2 ^ 32 ≤ d + s → outside (pos d +ℤ pos s) ≡ true
is_over d s h = grind (arith, ints, nat_tests, h)

under_is : (d m : ℕ) → d < 2 ^ 32 → outside (pos d +ℤ negsuc m) ≡ true → d ≤ m
under_is d m small h = grind (arith, ints, nat_tests, small, h)

is_under : (d m : ℕ) → d ≤ m → outside (pos d +ℤ negsuc m) ≡ true
is_under d m h = grind (arith, ints, nat_tests, h)

-- the index is as far from the limit as it takes to come there
comes : (i l : ℕ) → i < 2 ^ 32 → l < 2 ^ 32 → (i + (2 ^ 32 - (i + (2 ^ 32 - l)) % 2 ^ 32) % 2 ^ 32) % 2 ^ 32 ≡ l
comes i l a b = omega arith

goes_back : (i l : ℕ) → i < 2 ^ 32 → l < 2 ^ 32 → (i + (2 ^ 32 - (i + (2 ^ 32 - l)) % 2 ^ 32 % 2 ^ 32)) % 2 ^ 32 ≡ l
goes_back i l a b = omega arith

far : (i l k : ℕ) → i < 2 ^ 32 → 0 < k → k < 2 ^ 31 → (i + k % 2 ^ 32) % 2 ^ 32 ≡ l →
    (i + (2 ^ 32 - l)) % 2 ^ 32 ≡ 2 ^ 32 - k
far i l k a b c e = omega (arith, e)

near : (i l k : ℕ) → i < 2 ^ 32 → k < 2 ^ 31 + 1 → (i + (2 ^ 32 - k % 2 ^ 32)) % 2 ^ 32 ≡ l →
    (i + (2 ^ 32 - l)) % 2 ^ 32 ≡ k
near i l k a b e = omega (arith, e)

to_limit : (index limit step : Cell) → IsCell index → IsCell limit → signed step ≡ pos step.0 →
    passes_limit index limit step ≡ true → (k : ℕ) × (0 < k) × (k ≤ step.0) × (plus index (cell k) ≡ limit)
to_limit index limit step a b is h =
    let d = (index.0 + (2 ^ 32 - limit.0)) % 2 ^ 32 in
    let over : 2 ^ 32 ≤ d + step.0 = over_is d step.0 (sym (ap (λ z. outside (pos d +ℤ z)) is) ∙ h) in
    let below : d < 2 ^ 32 = omega arith in
    let same : (plus index (cell (2 ^ 32 - d))).0 ≡ limit.0 = comes index.0 limit.0 a b in
    (2 ^ 32 - d, omega (arith, below), omega (arith, over), ap (λ (n : ℕ). record { 0 = n }) same)

from_limit : (index limit step : Cell) (k : ℕ) → IsCell index → step.0 < 2 ^ 31 → signed step ≡ pos step.0 →
    0 < k → k ≤ step.0 → plus index (cell k) ≡ limit → passes_limit index limit step ≡ true
from_limit index limit step k a small is some within e =
    let d = (index.0 + (2 ^ 32 - limit.0)) % 2 ^ 32 in
    let away : d ≡ 2 ^ 32 - k =
    far index.0 limit.0 k a some (omega (arith, small, within)) (ap (λ (x : Cell). x.0) e) in
    let over : 2 ^ 32 ≤ d + step.0 = omega (arith, away, within, small) in
    ap (λ z. outside (pos d +ℤ z)) is ∙ is_over d step.0 over

back_to_limit : (index limit step : Cell) (m : ℕ) → IsCell index → IsCell limit → signed step ≡ negsuc m →
    passes_limit index limit step ≡ true → (k : ℕ) × (k ≤ m) × (minus index (cell k) ≡ limit)
back_to_limit index limit step m a b is h =
    let d = (index.0 + (2 ^ 32 - limit.0)) % 2 ^ 32 in
    let below : d < 2 ^ 32 = omega arith in
    let under : d ≤ m = under_is d m below (sym (ap (λ z. outside (pos d +ℤ z)) is) ∙ h) in
    let same : (minus index (cell d)).0 ≡ limit.0 = goes_back index.0 limit.0 a b in
    (d, under, ap (λ (n : ℕ). record { 0 = n }) same)

back_from_limit : (index limit step : Cell) (m k : ℕ) → IsCell index → m < 2 ^ 31 → signed step ≡ negsuc m →
    k ≤ m → minus index (cell k) ≡ limit → passes_limit index limit step ≡ true
back_from_limit index limit step m k a small is within e =
    let d = (index.0 + (2 ^ 32 - limit.0)) % 2 ^ 32 in
    let away : d ≡ k = near index.0 limit.0 k a (omega (arith, small, within)) (ap (λ (x : Cell). x.0) e) in
    let under : d ≤ m = omega (arith, away, within) in
    ap (λ z. outside (pos d +ℤ z)) is ∙ is_under d m under

backwards : (step : Cell) → 2 ^ 31 ≤ step.0 → IsCell step → signed step ≡ negsuc (2 ^ 32 - step.0 - 1)
backwards step large small =
    let test : nat_lt step.0 (2 ^ 31) ≡ false = grind (arith, nat_tests) in
    rw test (ap negsuc (omega arith))

forwards : (index limit step : Cell) → IsCell index → IsCell limit → step.0 < 2 ^ 31 →
    (passes_limit index limit step ≡ true) ↔ ((k : ℕ) × (0 < k) × (k ≤ step.0) × (plus index (cell k) ≡ limit))
forwards index limit step a b small =
    let is : signed step ≡ pos step.0 = to_z_pos w32 step.0 small in
    (to_limit index limit step a b is, λ h. from_limit index limit step h.0 a small is h.1 h.2 h.3)

shorter : (k n : ℕ) → k ≤ 2 ^ 32 - n - 1 → n < 2 ^ 32 → k < 2 ^ 32 - n
shorter k n h small = omega (arith, h, small)

back : (index limit step : Cell) → IsCell index → IsCell limit → 2 ^ 31 ≤ step.0 → IsCell step →
    (passes_limit index limit step ≡ true) ↔ ((k : ℕ) × (k < 2 ^ 32 - step.0) × (minus index (cell k) ≡ limit))
back index limit step a b large small =
    let m = 2 ^ 32 - step.0 - 1 in
    let is : signed step ≡ negsuc m = backwards step large small in (
      λ (h : passes_limit index limit step ≡ true).
          (let r = back_to_limit index limit step m a b is h in (r.0, shorter r.0 step.0 r.1 small, r.2)),
      λ (h : (k : ℕ) × (k < 2 ^ 32 - step.0) × (minus index (cell k) ≡ limit)).
          back_from_limit index limit step m h.0 a (omega (arith, large, small)) is (omega (arith, small, h.1)) h.2,
    )

pub limits_are_passed : LimitsArePassed
limits_are_passed = record { forward = forwards; back = back }
