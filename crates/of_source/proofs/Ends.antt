-- What stands at the end of a list, latest first.
use Rattle.std.proofs.Common.{◌≡◌, ◌≤◌, ℕ, List, [], ◌∷◌, ◌++◌, length, get_or, nat_eq, if◌then◌else◌, refl, ap, sym}
use Rattle.std.proofs.Common.{◌∙◌, zero, suc, arith}
use Rattle.std.proofs.lemmas.List.{map-append, reverse-append}
use Rattle.std.specs.Prelude.{reverse}
use Rattle.std.proofs.lemmas.Bool.Decides.{nat_tests}
use Rattle.of_source.specs.declared.nesting.Frame.{Frame}
use Rattle.of_source.specs.declared.nesting.Level.{Level}
use Rattle.of_source.specs.Nesting.{last_or, earliest_of, frames}

last_or_last : (d : ℕ) (xs : List ℕ) (x : ℕ) → last_or d (xs ++ x ∷ []) ≡ x
last_or_last d [] x = refl
last_or_last d (y ∷ ys) x = last_or_last y ys x

pub last_or_reverse : (d e : ℕ) (xs : List ℕ) → 1 ≤ length xs → last_or d (reverse xs) ≡ get_or xs 0 e
last_or_reverse d e [] h = absurd (omega arith)
last_or_reverse d e (x ∷ xs) h = ap (last_or d) (reverse-append (x ∷ []) xs) ∙ last_or_last d (reverse xs) x

earliest_last : (at : ℕ) (fs : List Frame) (f : Frame)
    → earliest_of at (fs ++ f ∷ []) ≡ (if nat_eq f.beneath 0 then f.at else at)
earliest_last at [] f = refl
earliest_last at (g ∷ []) f = refl
earliest_last at (g ∷ h ∷ gs) f = earliest_last at (h ∷ gs) f

pub earliest_reverse : (at : ℕ) (e : Level) (ls : List Level) → 1 ≤ length ls
    → earliest_of at (frames (reverse ls))
    ≡ (if nat_eq (get_or ls 0 e).frame.beneath 0 then (get_or ls 0 e).frame.at else at)
earliest_reverse at e [] h = absurd (omega arith)
earliest_reverse at e (l ∷ ls) h =
    ap (λ ms. earliest_of at (frames ms)) (reverse-append (l ∷ []) ls)
    ∙ ap (earliest_of at) (map-append (λ (m : Level). m.frame) (reverse ls) (l ∷ []))
    ∙ earliest_last at (frames (reverse ls)) l.frame

pub earliest_first : (at : ℕ) (e : Level) (ls : List Level) → 1 ≤ length ls → (get_or ls 0 e).frame.beneath ≡ 0
    → (get_or ls 0 e).frame.at ≡ earliest_of at (frames (reverse ls))
earliest_first at e ls h z =
    sym (earliest_reverse at e ls h
    ∙ at_zero (get_or ls 0 e).frame.beneath (get_or ls 0 e).frame.at at z)
  where
    at_zero : (n a b : ℕ) → n ≡ 0 → (if nat_eq n 0 then a else b) ≡ a
    at_zero zero a b h = refl
    at_zero (suc n) a b h = cc

pub earliest_later : (at : ℕ) (e : Level) (ls : List Level) → 1 ≤ length ls
    → ((get_or ls 0 e).frame.beneath ≡ 0 → ⊥) → at ≡ earliest_of at (frames (reverse ls))
earliest_later at e ls h z =
    sym (earliest_reverse at e ls h
    ∙ above (get_or ls 0 e).frame.beneath (get_or ls 0 e).frame.at at z)
  where
    above : (n a b : ℕ) → (n ≡ 0 → ⊥) → (if nat_eq n 0 then a else b) ≡ b
    above n a b h = grind (arith, nat_tests)
