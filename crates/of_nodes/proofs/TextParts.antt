-- Parts of a text, by where a byte stands first.
use Rattle.std.proofs.Common.{◌≡◌, ℕ, suc, ◌+◌, ◌-◌, ◌<◌, ◌≤◌, ◌==◌, Bool, true, false, cond, nat_lt, List, [], ◌∷◌}
use Rattle.std.proofs.Common.{length, take, drop, Option, Some, None, refl, ap, sym, ◌∙◌, arith, take_all, length-drop}
use Rattle.std.specs.List.{position, position_or_len}
use Rattle.std.proofs.lemmas.Bool.Decides.{nat_tests}
use Rattle.of_nodes.specs.Texts.{before, behind}

-- the place of the first byte b, or the length
abbrev place : ℕ → List ℕ → ℕ
place b xs = position_or_len (λ c. c == b) xs

before_step :
    (t : Bool) (b x : ℕ) (xs : List ℕ) → (x == b) ≡ t → before b xs ≡ take (place b xs) xs
    → before b (x ∷ xs) ≡ take (place b (x ∷ xs)) (x ∷ xs)
before_step true b x xs h ih = rw h refl
before_step false b x xs h ih =
    let one : 1 + place b xs ≡ suc (place b xs) = omega arith in
    rw (h, one) (ap (λ ys. x ∷ ys) ih)

before_is : (b : ℕ) (xs : List ℕ) → before b xs ≡ take (place b xs) xs
before_is b [] = refl
before_is b (x ∷ xs) = before_step (x == b) b x xs refl (before_is b xs)

behind_step :
    (t : Bool) (b x : ℕ) (xs : List ℕ) → (x == b) ≡ t
    → (place b xs < length xs → behind b xs ≡ Some (drop (suc (place b xs)) xs))
    → place b (x ∷ xs) < length (x ∷ xs) → behind b (x ∷ xs) ≡ Some (drop (suc (place b (x ∷ xs))) (x ∷ xs))
behind_step true b x xs h ih = rw h (λ l. refl)
behind_step false b x xs h ih =
    let one : 1 + place b xs ≡ suc (place b xs) = omega arith in
    rw (h, one) (λ l. ih (omega (arith, l)))

behind_is : (b : ℕ) (xs : List ℕ) → place b xs < length xs → behind b xs ≡ Some (drop (suc (place b xs)) xs)
behind_is b [] = λ l. absurd (omega (arith, l))
behind_is b (x ∷ xs) = behind_step (x == b) b x xs refl (behind_is b xs)

nothing_step :
    (t : Bool) (b x : ℕ) (xs : List ℕ) → (x == b) ≡ t
    → (length xs ≤ place b xs → behind b xs ≡ None)
    → length (x ∷ xs) ≤ place b (x ∷ xs) → behind b (x ∷ xs) ≡ None
nothing_step true b x xs h ih = rw h (λ l. absurd (omega (arith, l)))
nothing_step false b x xs h ih = rw h (λ l. ih (omega (arith, l)))

nothing_is : (b : ℕ) (xs : List ℕ) → length xs ≤ place b xs → behind b xs ≡ None
nothing_is b [] = λ l. refl
nothing_is b (x ∷ xs) = nothing_step (x == b) b x xs refl (nothing_is b xs)

some_place : (t : Bool) (p i : ℕ) → ◌≡◌ {A = Option ℕ} (cond t (Some p) None) (Some i) → (p ≡ i) × (t ≡ true)
some_place true p i h = (cc, refl)
some_place false p i h = cc

none_place : (t : Bool) (p : ℕ) → ◌≡◌ {A = Option ℕ} (cond t (Some p) None) None → t ≡ false
none_place true p h = cc
none_place false p h = refl

lt_true : (a b : ℕ) → nat_lt a b ≡ true → a < b
lt_true a b h = grind (arith, nat_tests)

lt_false : (a b : ℕ) → nat_lt a b ≡ false → b ≤ a
lt_false a b h = grind (arith, nat_tests)

pub before_some : (b i : ℕ) (xs : List ℕ) → position (λ c. c == b) xs ≡ Some i → before b xs ≡ take i xs
before_some b i xs h =
    let p = some_place (nat_lt (place b xs) (length xs)) (place b xs) i h in
    before_is b xs ∙ ap (λ (k : ℕ). take k xs) p.0

pub before_none : (b : ℕ) (xs : List ℕ) → position (λ c. c == b) xs ≡ None → before b xs ≡ xs
before_none b xs h =
    let out = lt_false (place b xs) (length xs) (none_place (nat_lt (place b xs) (length xs)) (place b xs) h) in
    before_is b xs ∙ take_all (place b xs) xs out

pub behind_some :
    (b i : ℕ) (xs : List ℕ) → position (λ c. c == b) xs ≡ Some i
    → behind b xs ≡ Some (take (length xs - (i + 1)) (drop (i + 1) xs))
behind_some b i xs h =
    let p = some_place (nat_lt (place b xs) (length xs)) (place b xs) i h in
    let next : suc (place b xs) ≡ i + 1 = omega (arith, p.0) in
    let short : length (drop (i + 1) xs) ≤ length xs - (i + 1) = omega (arith, length-drop (i + 1) xs) in
    behind_is b xs (lt_true (place b xs) (length xs) p.1)
    ∙ (ap (λ (k : ℕ). Some (drop k xs)) next
    ∙ ap Some (sym (take_all (length xs - (i + 1)) (drop (i + 1) xs) short)))

pub behind_none : (b : ℕ) (xs : List ℕ) → position (λ c. c == b) xs ≡ None → behind b xs ≡ None
behind_none b xs h =
    nothing_is b xs (lt_false (place b xs) (length xs) (none_place (nat_lt (place b xs) (length xs)) (place b xs) h))

pub ruleset befores = (before_some, before_none)

pub ruleset behinds = (behind_some, behind_none)
