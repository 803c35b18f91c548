-- Digits read one by one.
use Rattle.std.proofs.Common.{◌≡◌, ℕ, ◌+◌, ◌*◌, ◌<◌, ◌≤◌, List, [], ◌∷◌, Option, Some, None, refl, arith}
use Rattle.std.proofs.Math.Nat.{mul-le-mul_left}
use Rattle.std.proofs.lemmas.Bool.Decides.{nat_tests}
use Rattle.of_format.specs.Digits.{digit_value}
use Rattle.of_format.specs.Reading.{with_digit, with_digits, at_most}

-- where there is no number, more digits make none
pub no_more_digits : (base : ℕ) (text : List ℕ) → with_digits base None text ≡ None
no_more_digits base [] = refl
no_more_digits base (char ∷ text) = no_more_digits base text

grown : (base n d : ℕ) → 2 ≤ base → n ≤ n * base + d
grown base n d b = let m : n * 1 ≤ n * base = mul-le-mul_left n (omega arith) in omega arith

above : (limit n : ℕ) → limit < n → at_most limit (Some n) ≡ None
above limit n l = grind (arith, nat_tests)

-- a number above the limit stays above it with more digits
pub too_great : (base limit n : ℕ) (text : List ℕ) → 2 ≤ base → limit < n
    → at_most limit (with_digits base (Some n) text) ≡ None
too_great base limit n [] b l = above limit n l
too_great base limit n (char ∷ text) b l = step (digit_value base char) (λ d.
    let g = grown base n d b in too_great base limit (n * base + d) text b (omega arith))
  where
    step : (o : Option ℕ) → ((d : ℕ) → at_most limit (with_digits base (Some (n * base + d)) text) ≡ None)
        → at_most limit (with_digits base (with_digit base (Some n) o) text) ≡ None
    step None h = rw (no_more_digits base text) refl
    step (Some d) h = h d
