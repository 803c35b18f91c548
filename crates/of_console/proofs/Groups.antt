-- Digits in groups of four.
use Rattle.std.proofs.Common.{◌≡◌, ◌≤◌, ◌<◌, ℕ, List, [], ◌∷◌, ◌++◌, length, take, drop, refl, ap, sym, ◌∙◌, arith}
use Rattle.std.proofs.lemmas.List.{append_assoc}
use Rattle.hex.specs.Hex.{encode_lower}
use Rattle.of_console.specs.Values.{grouped}

grouped_more : (bs : List ℕ) → 4 < length bs → grouped bs ≡ encode_lower (take 4 bs) ++ 32 ∷ grouped (drop 4 bs)
grouped_more [] l = absurd (omega (arith, l))
grouped_more (a ∷ []) l = absurd (omega (arith, l))
grouped_more (a ∷ b ∷ []) l = absurd (omega (arith, l))
grouped_more (a ∷ b ∷ c ∷ []) l = absurd (omega (arith, l))
grouped_more (a ∷ b ∷ c ∷ d ∷ []) l = absurd (omega (arith, l))
grouped_more (a ∷ b ∷ c ∷ d ∷ e ∷ bs) l = refl

grouped_few : (bs : List ℕ) → length bs ≤ 4 → grouped bs ≡ encode_lower bs
grouped_few [] l = refl
grouped_few (a ∷ []) l = refl
grouped_few (a ∷ b ∷ []) l = refl
grouped_few (a ∷ b ∷ c ∷ []) l = refl
grouped_few (a ∷ b ∷ c ∷ d ∷ []) l = refl
grouped_few (a ∷ b ∷ c ∷ d ∷ e ∷ bs) l = absurd (omega (arith, l))

-- a group was appended, and a space
pub goes_on : (out rest all pushed next : List ℕ) → 4 < length rest → out ++ grouped rest ≡ all
    → pushed ≡ out ++ encode_lower (take 4 rest) → next ≡ pushed ++ 32 ∷ [] → next ++ grouped (drop 4 rest) ≡ all
goes_on out rest all pushed next l e p n =
    let digits = encode_lower (take 4 rest) in
    let more = grouped (drop 4 rest) in
    ap (λ x. x ++ more) (n ∙ ap (λ x. x ++ 32 ∷ []) p)
    ∙ append_assoc (out ++ digits) (32 ∷ []) more
    ∙ append_assoc out digits (32 ∷ more)
    ∙ ap (λ x. out ++ x) (sym (grouped_more rest l))
    ∙ e

-- and the last
pub ends : (out rest all pushed : List ℕ) → length rest ≤ 4 → out ++ grouped rest ≡ all
    → pushed ≡ out ++ encode_lower rest → pushed ≡ all
ends out rest all pushed l e p = p ∙ ap (λ x. out ++ x) (sym (grouped_few rest l)) ∙ e
