-- Values as they are shown.
use Rattle.std.proofs.Common.{◌≡◌, ℕ, zero, suc, ◌<◌, ◌-◌, ◌/◌, ◌%◌, Bool, true, false, nat_eq, nat_lt, not}
use Rattle.std.proofs.Common.{List, [], ◌∷◌, ◌++◌, length, take, Some, Ok, refl, ap, ◌∙◌, arith}
use Rattle.std.specs.Prelude.{if◌then◌else◌, slice_index, slice_index_or}
use Rattle.std.specs.List.{filter}
use Rattle.std.proofs.lemmas.List.{length-append}
use Rattle.std.proofs.lemmas.List.Elements.{filter-append}
use Rattle.std.proofs.Math.Seq.{take-append_seam}
use Rattle.hex.specs.Hex.{IsBytes, decode_of, encode_lower, encode_with, hex_digit_value, lower_digits}
use Rattle.hex.proofs.HexLemmas.{IsDigits-lower_digits, decode_of-encode_lower}
use Rattle.of_console.specs.Laws.{ValuesAreShown, is_solid}
use Rattle.of_console.specs.Values.{all_shown, before_last, grouped, is_text, last_byte, value_shown}

-- ---- digits

no_space : (c d : ℕ) → hex_digit_value c ≡ Some d → (b : Bool) → nat_eq c 32 ≡ b → not b ≡ true
no_space c d e true is = absurd (grind (arith, e, is))
no_space c d e false is = refl

solid : (d : ℕ) → d < 16 → is_solid (slice_index lower_digits d) ≡ true
solid d small =
    let c = slice_index lower_digits d in no_space c d (IsDigits-lower_digits d small) (nat_eq c 32) refl

all_solid : (v : List ℕ) → IsBytes v → filter is_solid (encode_lower v) ≡ encode_lower v
unfolding encode_with
all_solid [] h = refl
all_solid (b ∷ v) h =
    let fits : b < 256 = h 0 in
    let high : b / 16 < 16 = omega (arith, fits) in
    let low : b % 16 < 16 = omega arith in
    let rest = all_solid v (λ i. h (suc i)) in
    rw (solid (b / 16) high, solid (b % 16) low, rest) refl

-- without the spaces between groups
without_spaces : (v : List ℕ) → IsBytes v → filter is_solid (grouped v) ≡ encode_lower v
unfolding encode_with
without_spaces [] h = refl
without_spaces (a ∷ []) h = all_solid (a ∷ []) h
without_spaces (a ∷ b ∷ []) h = all_solid (a ∷ b ∷ []) h
without_spaces (a ∷ b ∷ c ∷ []) h = all_solid (a ∷ b ∷ c ∷ []) h
without_spaces (a ∷ b ∷ c ∷ d ∷ []) h = all_solid (a ∷ b ∷ c ∷ d ∷ []) h
without_spaces (a ∷ b ∷ c ∷ d ∷ e ∷ v) h =
    let group = encode_lower (a ∷ b ∷ c ∷ d ∷ []) in
    let rest = without_spaces (e ∷ v) (λ i. h (suc (suc (suc (suc i))))) in
    filter-append is_solid group (32 ∷ grouped (e ∷ v))
    ∙ ap (λ x. x ++ filter is_solid (grouped (e ∷ v))) (all_solid (a ∷ b ∷ c ∷ d ∷ []) (first a b c d (e ∷ v) h))
    ∙ ap (λ x. group ++ x) rest
  where
    first : (a b c d : ℕ) (v : List ℕ) → IsBytes (a ∷ b ∷ c ∷ d ∷ v) → IsBytes (a ∷ b ∷ c ∷ d ∷ [])
    first a b c d v h zero = h 0
    first a b c d v h (suc zero) = h 1
    first a b c d v h (suc (suc zero)) = h 2
    first a b c d v h (suc (suc (suc zero))) = h 3
    first a b c d v h (suc (suc (suc (suc i)))) = omega arith

shown_if : (b : Bool) (v : List ℕ) → b ≡ false
    → (if b then 34 ∷ before_last v ++ 34 ∷ [] else grouped v) ≡ grouped v
shown_if true v e = absurd cc
shown_if false v e = refl

digits_said : (v : List ℕ) → IsBytes v → is_text v ≡ false → decode_of (filter is_solid (value_shown v)) ≡ Ok v
digits_said v h none =
    ap (λ x. decode_of (filter is_solid x)) (shown_if (is_text v) v none)
    ∙ ap decode_of (without_spaces v h) ∙ decode_of-encode_lower v h

-- ---- texts

before_zero : (t : List ℕ) → before_last (t ++ 0 ∷ []) ≡ t
before_zero t =
    let size : length (t ++ 0 ∷ []) - 1 ≡ length t =
    let sum = length-append t (0 ∷ []) in omega (arith, sum) in
    ap (λ n. take n (t ++ 0 ∷ [])) size ∙ take-append_seam t (0 ∷ [])

last_zero : (t : List ℕ) → last_byte (t ++ 0 ∷ []) ≡ 0
last_zero t =
    let size : length (t ++ 0 ∷ []) - 1 ≡ length t =
    let sum = length-append t (0 ∷ []) in omega (arith, sum) in
    ap (λ n. slice_index_or (t ++ 0 ∷ []) n 1) size ∙ at_seam t
  where
    at_seam : (t : List ℕ) → slice_index_or (t ++ 0 ∷ []) (length t) 1 ≡ 0
    at_seam [] = refl
    at_seam (b ∷ t) = at_seam t

text_quoted : (t : List ℕ) → 0 < length t → all_shown t ≡ true → value_shown (t ++ 0 ∷ []) ≡ 34 ∷ t ++ 34 ∷ []
text_quoted t some shown =
    let sum = length-append t (0 ∷ []) in
    let long : nat_lt 1 (length (t ++ 0 ∷ [])) ≡ true = grind (arith, sum, some) in
    rw (long, last_zero t, before_zero t, shown) refl

pub values_are_shown : ValuesAreShown
unfolding encode_with
values_are_shown = record { text = text_quoted; digits = digits_said; zero = refl }
