-- A word that begins with a hyphen says no number.
use Rattle.std.proofs.Common.{◌≡◌, ◌^◌, ◌-◌, ℕ, List, [], ◌∷◌, None, refl, ap}
use Rattle.of_format.specs.Digits.{digit_of}
use Rattle.of_format.specs.Reading.{at_most, cell_read, with_digits}
use Rattle.of_calls.specs.Lines.{decimal_of, number_of}

none_more : (base : ℕ) (text : List ℕ) → with_digits base None text ≡ None
none_more base [] = refl
none_more base (b ∷ text) = none_more base text

pub minus_unread : (text : List ℕ) → number_of (45 ∷ text) ≡ None
unfolding digit_of
minus_unread text = ap (λ n. cell_read (at_most (2 ^ 32 - 1) n)) (none_more 16 text)

pub minus_unread_decimal : (text : List ℕ) → decimal_of (45 ∷ text) ≡ None
unfolding digit_of
minus_unread_decimal text = ap (λ n. cell_read (at_most (2 ^ 32 - 1) n)) (none_more 10 text)
