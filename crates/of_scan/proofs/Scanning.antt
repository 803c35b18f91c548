-- Strings, byte by byte.
use Rattle.std.proofs.Common.{◌≡◌, ℕ, suc, ◌+◌, ◌<◌, ◌≤◌, ◌-◌, true, false, List, [], ◌∷◌, ◌++◌, length}
use Rattle.std.proofs.Common.{take, drop, get_or, nat_eq, Some, None, refl, ap, sym, ◌∙◌, arith, add-one, drop-cons}
use Rattle.std.proofs.Common.{append_assoc, append-nil}
use Rattle.std.proofs.lemmas.Bool.Decides.{nat_tests}
use Rattle.of_format.specs.Digits.{digit_value}
use Rattle.std.proofs.Math.Seq.{take-suc}
use Rattle.of_scan.specs.Scan.{Found, up_to, byte_before, bytes_before, is_blank, byte_of, pairs, group, quoted}

-- a byte that ends nothing
pub passed : (end b : ℕ) (text : List ℕ) → (b ≡ end → ⊥) → (b ≡ 10 → ⊥)
    → up_to end (b ∷ text) ≡ byte_before b (up_to end text)
passed end b text n m = grind (arith, nat_tests)

pub bytes_before-snoc : (bytes : List ℕ) (b : ℕ) (f : Found)
    → bytes_before bytes (byte_before b f) ≡ bytes_before (bytes ++ b ∷ []) f
bytes_before-snoc bytes b None = refl
bytes_before-snoc bytes b (Some r) = ap (λ l. Some (l, r.1)) (sym (append_assoc bytes (b ∷ []) r.0))

pub bytes_before_nil : (f : Found) → bytes_before [] f ≡ f
bytes_before_nil None = refl
bytes_before_nil (Some r) = refl

-- the bytes that were passed, and what is left
pub one_more : (end : ℕ) (text : List ℕ) (i : ℕ) → i < length text → (get_or text i 0 ≡ end → ⊥)
    → (get_or text i 0 ≡ 10 → ⊥)
    → bytes_before (take i text) (up_to end (drop i text))
    ≡ bytes_before (take (i + 1) text) (up_to end (drop (i + 1) text))
one_more end text i h n m =
    rw (add-one, drop-cons text i 0, take-suc text i 0 h)
    (ap (bytes_before (take i text)) (passed end (get_or text i 0) (drop (suc i) text) n m)
    ∙ bytes_before-snoc (take i text) (get_or text i 0) (up_to end (drop (suc i) text)))

-- one more byte of two digits
pub pair_more : (out text : List ℕ) (d b : ℕ) → 2 ≤ length text → (get_or text 0 d ≡ 41 → ⊥)
    → (get_or text 0 d ≡ 10 → ⊥) → is_blank (get_or text 0 d) ≡ false
    → byte_of (digit_value 16 (get_or text 0 d)) (digit_value 16 (get_or text 1 d)) ≡ Some b
    → bytes_before out (pairs text) ≡ bytes_before (out ++ b ∷ []) (pairs (drop 2 text))
pair_more out [] d b l n m s h = absurd (omega (arith, l))
pair_more out (x ∷ []) d b l n m s h = absurd (omega (arith, l))
pair_more out (x ∷ y ∷ text) d b l n m s h = ap (bytes_before out) (digits x y text b n m s h)
    ∙ bytes_before-snoc out b (pairs text)
  where
    digits : (x y : ℕ) (text : List ℕ) (b : ℕ) → (x ≡ 41 → ⊥) → (x ≡ 10 → ⊥) → is_blank x ≡ false
        → byte_of (digit_value 16 x) (digit_value 16 y) ≡ Some b → pairs (x ∷ y ∷ text) ≡ byte_before b (pairs text)
    digits x y text b n m s h = let nn : nat_eq x 41 ≡ false =
        grind (arith, nat_tests) in let mm : nat_eq x 10 ≡ false = grind (arith, nat_tests) in rw (nn, mm, s, h) refl

bytes_before-append : (out bytes : List ℕ) (f : Found)
    → bytes_before out (bytes_before bytes f) ≡ bytes_before (out ++ bytes) f
bytes_before-append out bytes None = refl
bytes_before-append out bytes (Some r) = ap (λ l. Some (l, r.1)) (sym (append_assoc out bytes r.0))

-- one more piece of a string, with its group
pub quoted_more : (out rest : List ℕ) (i end : ℕ) (b t g u : List ℕ) → i < end → Some (b, t) ≡ up_to 34 rest
    → Some (g, u) ≡ group t
    → bytes_before ((out ++ b) ++ g) (quoted (end - (i + 1)) u) ≡ bytes_before out (quoted (end - i) rest)
quoted_more out rest i end b t g u lt e h =
    let n : end - i ≡ suc (end - (i + 1)) = omega arith in
    sym (rw (n, ← e, ← h) (bytes_before-append out (b ++ g) (quoted (end - (i + 1)) u)
    ∙ ap (λ l. bytes_before l (quoted (end - (i + 1)) u)) (sym (append_assoc out b g))))

-- the last piece
pub quoted_end : (out rest : List ℕ) (i end : ℕ) (b t : List ℕ) → i < end → Some (b, t) ≡ up_to 34 rest → None ≡ group t
    → Some (out ++ b, t) ≡ bytes_before out (quoted (end - i) rest)
quoted_end out rest i end b t lt e h =
    let n : end - i ≡ suc (end - (i + 1)) = omega arith in
    rw (n, ← e, ← h) refl

-- no quote
pub quoted_none : (out rest : List ℕ) (i end : ℕ) → i < end → None ≡ up_to 34 rest
    → None ≡ bytes_before out (quoted (end - i) rest)
quoted_none out rest i end lt e =
    let n : end - i ≡ suc (end - (i + 1)) = omega arith in
    rw (n, ← e) refl

pub quoted_cut : (out rest : List ℕ) (i end : ℕ) → end ≤ i → None ≡ bytes_before out (quoted (end - i) rest)
quoted_cut out rest i end le = let n : end - i ≡ 0 = omega arith in rw n refl

-- pairs end at `)`
pub pairs_end : (out text : List ℕ) (d : ℕ) → 1 ≤ length text → get_or text 0 d ≡ 41
    → Some (out, drop 1 text) ≡ bytes_before out (pairs text)
pairs_end out [] d l e = absurd (omega (arith, l))
pairs_end out (x ∷ []) d l e = rw (e, append-nil out) refl
pairs_end out (x ∷ y ∷ text) d l e = rw (e, append-nil out) refl

-- no pair goes on over the end of the line
pub pairs_line : (out text : List ℕ) (d : ℕ) → 2 ≤ length text → get_or text 0 d ≡ 10
    → None ≡ bytes_before out (pairs text)
pairs_line out [] d l e = absurd (omega (arith, l))
pairs_line out (x ∷ []) d l e = absurd (omega (arith, l))
pairs_line out (x ∷ y ∷ text) d l e = rw e refl

-- past a blank between pairs
pub pairs_blank : (out text : List ℕ) (d : ℕ) → 2 ≤ length text → (get_or text 0 d ≡ 41 → ⊥)
    → (get_or text 0 d ≡ 10 → ⊥) → is_blank (get_or text 0 d) ≡ true
    → bytes_before out (pairs (drop 1 text)) ≡ bytes_before out (pairs text)
pairs_blank out [] d l n m s = absurd (omega (arith, l))
pairs_blank out (x ∷ []) d l n m s = absurd (omega (arith, l))
pairs_blank out (x ∷ y ∷ text) d l n m s = let nn : nat_eq x 41 ≡ false =
    grind (arith, nat_tests) in let mm : nat_eq x 10 ≡ false = grind (arith, nat_tests) in rw (nn, mm, s) refl

-- what is no pair of digits
pub pairs_bad : (out text : List ℕ) (d : ℕ) → 2 ≤ length text → (get_or text 0 d ≡ 41 → ⊥)
    → (get_or text 0 d ≡ 10 → ⊥) → is_blank (get_or text 0 d) ≡ false
    → byte_of (digit_value 16 (get_or text 0 d)) (digit_value 16 (get_or text 1 d)) ≡ None
    → None ≡ bytes_before out (pairs text)
pairs_bad out [] d l n m s h = absurd (omega (arith, l))
pairs_bad out (x ∷ []) d l n m s h = absurd (omega (arith, l))
pairs_bad out (x ∷ y ∷ text) d l n m s h = let nn : nat_eq x 41 ≡ false =
    grind (arith, nat_tests) in let mm : nat_eq x 10 ≡ false = grind (arith, nat_tests) in rw (nn, mm, s, h) refl

-- the bytes of a group are those of its pairs
pub group_pairs : (text : List ℕ) (d : ℕ) (f : Found) → 1 ≤ length text → get_or text 0 d ≡ 40
    → f ≡ bytes_before [] (pairs (drop 1 text)) → f ≡ group text
group_pairs [] d f l n e = absurd (omega (arith, l))
group_pairs (b ∷ text) d f l n e = rw n (e ∙ bytes_before_nil (pairs text))

-- another byte begins no group
pub group_none : (text : List ℕ) (d : ℕ) → (get_or text 0 d ≡ 40 → ⊥) → None ≡ group text
group_none [] d n = refl
group_none (b ∷ text) d n = let e : nat_eq b 40 ≡ false = grind (arith, nat_tests) in rw e refl

-- the ways on in a string with its groups
pub ruleset pieces = (quoted_more, quoted_end, quoted_none, quoted_cut, bytes_before_nil)
