-- Lines of a text, and bytes one behind the other.
use Rattle.std.proofs.Common.{◌≡◌, ◌≤◌, ℕ, zero, suc, ◌+◌, ◌-◌, Bool, true, false, List, [], ◌∷◌, ◌++◌, length, map}
use Rattle.std.proofs.Common.{take, drop, refl, sym, ap, ◌∙◌, arith, ◌&&◌}
use Rattle.std.specs.Prelude.{cond, nat_eq, not, take_while}
use Rattle.std.specs.List.{count_by, list_all, repeat, slice_range}
use Rattle.std.proofs.lemmas.List.{append_assoc, append-nil, length-take}
use Rattle.std.proofs.lemmas.List.Sums.{count_by-le-length, sum_by-append}
use Rattle.of_source.specs.Places.{line_at}
use Rattle.of_margin.specs.Margin.{LinesHaveMargins, beside, goes_on, line_beside, with_margin}

-- so many from the front as lie in a part of the front are that part
front : (k : ℕ) (xs : List ℕ) → take (length (take k xs)) xs ≡ take k xs
front zero xs = refl
front (suc k) [] = refl
front (suc k) (x ∷ xs) = ap (λ ys. x ∷ ys) (front k xs)

pub tail_taken : (xs : List ℕ) → take (length (take_while goes_on xs)) xs ≡ take_while goes_on xs
tail_taken xs = front _ xs

-- ---- lines

none_taken : (n : ℕ) → (let none : List ℕ = [] in take n none ≡ none)
none_taken zero = refl
none_taken (suc n) = refl

parted : (a m : ℕ) (xs : List ℕ) → take (a + m) xs ≡ take a xs ++ take m (drop a xs)
parted zero m xs = let e : 0 + m ≡ m = omega arith in ap (λ n. take n xs) e
parted (suc a) m [] = none_taken (suc a + m) ∙ sym (none_taken m)
parted (suc a) m (x ∷ xs) =
    let e : suc a + m ≡ suc (a + m) = omega arith in
    ap (λ n. take n (x ∷ xs)) e ∙ ap (λ ys. x ∷ ys) (parted a m xs)

pub later : (text : List ℕ) (a b : ℕ) → a ≤ b
    → line_at text b ≡ line_at text a + count_by (λ x. nat_eq x 10) (slice_range text a b)
later text a b le =
    let e : b ≡ a + (b - a) = omega (arith, le) in
    let f : ℕ → ℕ = λ x. cond (nat_eq x 10) 1 0 in
    let s = sum_by-append f (take a text) (take (b - a) (drop a text)) in
    let p = ap (count_by (λ x. nat_eq x 10)) (ap (λ n. take n text) e ∙ parted a (b - a) text) in
    omega (arith, s, p)

-- no more lines than bytes, and one
pub few_lines : (text : List ℕ) (at : ℕ) → line_at text at ≤ length text + 1
few_lines text at =
    let a = count_by-le-length (λ x. nat_eq x 10) (take at text) in
    let b = length-take at text in
    omega (arith, a, b)

pub ruleset lines = (later, few_lines)

-- ---- bytes

one_more : (n x : ℕ) → repeat n (x ∷ []) ++ x ∷ [] ≡ x ∷ repeat n (x ∷ [])
one_more zero x = refl
one_more (suc n) x = ap (λ xs. x ∷ xs) (one_more n x)

pub more_blanks : (xs : List ℕ) (n : ℕ)
    → (xs ++ repeat n (32 ∷ [])) ++ 32 ∷ [] ≡ xs ++ repeat (n + 1) (32 ∷ [])
more_blanks xs n =
    let next : n + 1 ≡ suc n = omega arith in
    append_assoc xs (repeat n (32 ∷ [])) (32 ∷ []) ∙ ap (λ ys. xs ++ ys) (one_more n 32)
    ∙ ap (λ k. xs ++ repeat k (32 ∷ [])) (sym next)

pub ruleset all_blank = (append-nil, more_blanks)

-- ---- line by line

-- of two conditions that hold both do
both : (a b : Bool) → (a && b) ≡ true → (a ≡ true) × (b ≡ true)
both true b h = (refl, h)
both false b h = absurd cc

no_newline : (b : ℕ) → goes_on b ≡ true → nat_eq b 10 ≡ false
no_newline b h = by_test (nat_eq b 10) h
  where
    by_test : (t : Bool) → not t ≡ true → t ≡ false
    by_test true h = absurd cc
    by_test false h = refl

line_on : (text : List ℕ) (above column : ℕ) (places line more : List ℕ) → list_all goes_on line ≡ true
    → with_margin text above column places (line ++ 10 ∷ more)
    ≡ line ++ (beside text above (column + length line) places
    ++ 10 ∷ with_margin text (line_beside text above places) 0 (drop 1 places) more)
line_on text above column places [] more h =
    let e : column ≡ column + 0 = omega arith in
    ap (λ n. beside text above n places
    ++ 10 ∷ with_margin text (line_beside text above places) 0 (drop 1 places) more) e
line_on text above column places (b ∷ line) more h =
    let w = both (goes_on b) (list_all goes_on line) h in
    let e : column + 1 + length line ≡ column + length (b ∷ line) = omega arith in
    rw (no_newline b w.0) (ap (λ xs. b ∷ xs) (line_on text above (column + 1) places line more w.1
    ∙ ap (λ n. line ++ (beside text above n places
    ++ 10 ∷ with_margin text (line_beside text above places) 0 (drop 1 places) more)) e))

pub lines_have_margins : LinesHaveMargins
lines_have_margins text above places line more h =
    let e : 0 + length line ≡ length line = omega arith in
    line_on text above 0 places line more h
    ∙ ap (λ n. line ++ (beside text above n places
    ++ 10 ∷ with_margin text (line_beside text above places) 0 (drop 1 places) more)) e
