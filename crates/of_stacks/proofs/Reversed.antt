-- The cells in the order of the array and in the order of the stack.
use Rattle.std.proofs.Common.{◌≡◌, ℕ, suc, ◌+◌, ◌-◌, ◌≤◌, ◌<◌, List, [], ◌∷◌, ◌++◌, length, take, drop, set, reverse}
use Rattle.std.proofs.Common.{get_or, arith, refl, ap, sym, ◌∙◌}
use Rattle.std.specs.List.{refill, remove}
use Rattle.std.proofs.Math.Seq.{drop-append_seam, take-append_seam, take-length}
use Rattle.std.proofs.lemmas.Grind.{take-set_at}
use Rattle.std.proofs.lemmas.List.{take-append-drop, length-drop, length-reverse, get_or-reverse, reverse-append}
use Rattle.std.proofs.lemmas.List.{length-set}

-- dropping from the stack is taking fewer from the array
pub reverse_take : {X : Type 0} (xs : List X) (n : ℕ) → n ≤ length xs
    → reverse (take (length xs - n) xs) ≡ drop n (reverse xs)
reverse_take xs n h =
    let upper : length (reverse (drop (length xs - n) xs)) ≡ n =
    length-reverse (drop (length xs - n) xs) ∙ length-drop (length xs - n) xs ∙ omega arith in
    let whole : reverse (drop (length xs - n) xs) ++ reverse (take (length xs - n) xs) ≡ reverse xs =
    sym (reverse-append (take (length xs - n) xs) (drop (length xs - n) xs))
    ∙ ap reverse (take-append-drop (length xs - n) xs) in
    sym (rw (upper, whole) at
    (drop-append_seam (reverse (drop (length xs - n) xs)) (reverse (take (length xs - n) xs))))

-- what is dropped from the array is what is taken from the stack
pub reverse_drop : {X : Type 0} (xs : List X) (n : ℕ) → n ≤ length xs
    → reverse (drop (length xs - n) xs) ≡ take n (reverse xs)
reverse_drop xs n h =
    let upper : length (reverse (drop (length xs - n) xs)) ≡ n =
    length-reverse (drop (length xs - n) xs) ∙ length-drop (length xs - n) xs ∙ omega arith in
    let whole : reverse (drop (length xs - n) xs) ++ reverse (take (length xs - n) xs) ≡ reverse xs =
    sym (reverse-append (take (length xs - n) xs) (drop (length xs - n) xs))
    ∙ ap reverse (take-append-drop (length xs - n) xs) in
    sym (rw (upper, whole) at
    (take-append_seam (reverse (drop (length xs - n) xs)) (reverse (take (length xs - n) xs))))

-- a cell taken out of the array is taken out of the stack
pub reverse_remove : {X : Type 0} (xs : List X) (n : ℕ) → n < length xs
    → reverse (remove xs (length xs - 1 - n)) ≡ remove (reverse xs) n
reverse_remove xs n h =
    let after : suc (length xs - 1 - n) ≡ length xs - n = omega arith in
    let before : length xs - 1 - n ≡ length xs - suc n = omega arith in
    reverse-append (take (length xs - 1 - n) xs) (drop (suc (length xs - 1 - n)) xs)
    ∙ ap (λ k. reverse (drop k xs) ++ reverse (take (length xs - 1 - n) xs)) after
    ∙ ap (λ k. reverse (drop (length xs - n) xs) ++ reverse (take k xs)) before
    ∙ ap (λ ys. ys ++ reverse (take (length xs - suc n) xs)) (reverse_drop xs n (omega arith))
    ∙ ap (λ ys. take n (reverse xs) ++ ys) (reverse_take xs (suc n) (omega arith))

four_of : {X : Type 0} (s : List X) (d : X) → 4 ≤ length s
    → s ≡ get_or s 0 d ∷ get_or s 1 d ∷ get_or s 2 d ∷ get_or s 3 d ∷ drop 4 s
four_of [] d h = absurd (omega arith)
four_of (a ∷ []) d h = absurd (omega arith)
four_of (a ∷ b ∷ []) d h = absurd (omega arith)
four_of (a ∷ b ∷ c ∷ []) d h = absurd (omega arith)
four_of (a ∷ b ∷ c ∷ e ∷ s) d h = refl

-- the four cells at the end of the array are the top ones
pub reverse_four : {X : Type 0} (xs : List X) (d : X) → 4 ≤ length xs
    → reverse xs ≡ get_or xs (length xs - 1) d ∷ get_or xs (length xs - 2) d ∷ get_or xs (length xs - 3) d
    ∷ get_or xs (length xs - 4) d ∷ drop 4 (reverse xs)
reverse_four xs d h =
    let long : 4 ≤ length (reverse xs) = omega (arith, length-reverse xs) in
    let first : get_or (reverse xs) 0 d ≡ get_or xs (length xs - 1) d =
    get_or-reverse xs 0 d (omega arith) ∙ ap (λ k. get_or xs k d) (omega arith) in
    let second : get_or (reverse xs) 1 d ≡ get_or xs (length xs - 2) d =
    get_or-reverse xs 1 d (omega arith) ∙ ap (λ k. get_or xs k d) (omega arith) in
    let third : get_or (reverse xs) 2 d ≡ get_or xs (length xs - 3) d =
    get_or-reverse xs 2 d (omega arith) ∙ ap (λ k. get_or xs k d) (omega arith) in
    let fourth : get_or (reverse xs) 3 d ≡ get_or xs (length xs - 4) d =
    get_or-reverse xs 3 d (omega arith) ∙ ap (λ k. get_or xs k d) (omega arith) in
    rw (first, second, third, fourth) at (four_of (reverse xs) d long)

first_of : {X : Type 0} (s : List X) (d : X) → 0 < length s → s ≡ get_or s 0 d ∷ drop 1 s
first_of [] d h = absurd (omega arith)
first_of (a ∷ s) d h = refl

-- the element at the end of the array is the top, as the array is given back
pub reverse_first : {X : Type 0} (xs ys : List X) (n : ℕ) (d : X) → ys ≡ xs → n ≡ length xs → 0 < length xs
    → reverse xs ≡ get_or ys (n - 1) d ∷ drop 1 (reverse xs)
reverse_first xs ys n d e f h =
    let long : 0 < length (reverse xs) = omega (arith, length-reverse xs) in
    let first : get_or (reverse xs) 0 d ≡ get_or xs (length xs - 1) d =
    get_or-reverse xs 0 d (omega arith) ∙ ap (λ k. get_or xs k d) (omega arith) in
    rw (e, f) (rw first at (first_of (reverse xs) d long))

-- a write at the end of the array is a write of the top
pub reverse_set : {X : Type 0} (xs : List X) (x : X) → 0 < length xs
    → reverse (set xs (length xs - 1) x) ≡ x ∷ drop 1 (reverse xs)
reverse_set xs x h =
    let last : length xs ≡ length xs - 1 + 1 = omega arith in
    let within : length xs - 1 < length xs = omega arith in
    let whole : set xs (length xs - 1) x ≡ take (length xs - 1) xs ++ x ∷ [] =
    sym (take-length (set xs (length xs - 1) x)) ∙ ap (λ n. take n (set xs (length xs - 1) x))
    (length-set xs (length xs - 1) x)
    ∙ take-set_at xs (length xs - 1) (length xs) x last within in
    ap reverse whole ∙ reverse-append (take (length xs - 1) xs) (x ∷ []) ∙ ap (λ ys. x ∷ ys) (reverse_take xs 1 h)

-- the element that was lent at the end of the array is the top
pub reverse_lent : {X : Type 0} (xs : List X) (n : ℕ) (x : X) → x ≡ get_or xs (n - 1) x → n ≡ length xs
    → 0 < length xs → reverse xs ≡ x ∷ drop 1 (reverse xs)
reverse_lent xs n x e f h = reverse_first xs xs n x refl f h ∙ ap (λ y. y ∷ drop 1 (reverse xs)) (sym e)

-- and a write of it is a write of the top
pub reverse_written : {X : Type 0} (xs : List X) (n : ℕ) (x : X) → n ≡ length xs → 0 < length xs
    → reverse (set xs (n - 1) x) ≡ x ∷ drop 1 (reverse xs)
reverse_written xs n x f h = rw f (reverse_set xs x h)

-- cells of the same number leave nothing to fill up
refill_same : {X : Type 0} (xs ws : List X) → length ws ≡ length xs → refill (length xs) xs ws ≡ ws
refill_same xs ws e = ap (λ n. take n (ws ++ drop (length ws) xs)) (sym e) ∙ take-append_seam ws (drop (length ws) xs)

-- the same, as the array is given back
pub reverse_refill : {X : Type 0} (xs ys : List X) (n : ℕ) (x : X) → ys ≡ xs → n ≡ length xs → 0 < length xs
    → reverse (refill (length xs) xs (set ys (n - 1) x)) ≡ x ∷ drop 1 (reverse xs)
reverse_refill xs ys n x e f h =
    rw (e, f) (ap reverse (refill_same xs (set xs (length xs - 1) x) (length-set xs (length xs - 1) x))
    ∙ reverse_set xs x h)

-- a write under the last element, which then goes
pub reverse_set_two : {X : Type 0} (xs ys : List X) (n : ℕ) (x : X) → ys ≡ xs → n ≡ length xs → 2 ≤ length xs
    → reverse (take (length (refill (length xs) xs (set ys (n - 1 - 1) x)) - 1)
    (refill (length xs) xs (set ys (n - 1 - 1) x)))
    ≡ x ∷ drop 2 (reverse xs)
reverse_set_two xs ys n x e f h =
    let place : length xs - 1 - 1 ≡ length xs - 2 = omega arith in
    let next : length xs - 1 ≡ length xs - 2 + 1 = omega arith in
    let within : length xs - 2 < length xs = omega arith in
    let whole : refill (length xs) xs (set xs (length xs - 2) x) ≡ set xs (length xs - 2) x =
    refill_same xs (set xs (length xs - 2) x) (length-set xs (length xs - 2) x) in
    rw (e, f, place, whole, length-set xs (length xs - 2) x)
    (ap reverse (take-set_at xs (length xs - 2) (length xs - 1) x next within)
    ∙ reverse-append (take (length xs - 2) xs) (x ∷ []) ∙ ap (λ zs. x ∷ zs) (reverse_take xs 2 h))

-- one more at the end of the array is one more on top
pub reverse_snoc : {X : Type 0} (xs : List X) (x : X) → reverse (xs ++ x ∷ []) ≡ x ∷ reverse xs
reverse_snoc xs x = reverse-append xs (x ∷ [])
