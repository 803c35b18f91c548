-- The tokens of a part that closes all don't see where others lead.
use Rattle.std.proofs.Common.{◌≡◌, ℕ, zero, suc, ◌+◌, ◌-◌, ◌<◌, ◌≤◌, true, false, List, [], ◌∷◌, refl, sym, ap, ◌∙◌}
use Rattle.std.proofs.Common.{arith}
use Rattle.of_source.specs.Nest.{Nest, Stop, Plain, Definition, Defining, If, Else, Then, Begin, Do, Leave, Case, Of}
use Rattle.of_source.specs.Nest.{Around, Fits, in_part, open_behind}
use Rattle.of_source.specs.Items.{call, maker_token}
use Rattle.of_tok.specs.declared.place.Place.{Place}
use Rattle.of_tok.specs.Places.{behind, past, past_offset}
use Rattle.of_tok.specs.Tokens.{Written, Straight, aimed, aims_of, branch_code, do_code, end_of, first, loop_code}
use Rattle.of_tok.specs.Tokens.{others}
use Rattle.of_tok.specs.Tokens.{straight, written}
use Rattle.of_means.proofs.Aims.{least}

-- the first n lead to the same
abbrev pub Same : ℕ → List ℕ → List ℕ → Type 0
Same zero xs ys = Unit {0}
Same (suc n) xs ys = (first xs ≡ first ys) × Same n (others xs) (others ys)

-- of d branches those above m lead to the same
abbrev pub Agree : ℕ → ℕ → List ℕ → List ℕ → Type 0
Agree d m xs ys = (n : ℕ) → n + m ≡ d → Same n xs ys

first_same : (d m : ℕ) (xs ys : List ℕ) → m < d → Agree d m xs ys → first xs ≡ first ys
first_same d m xs ys lt h =
    let r : Same (suc (d - suc m)) xs ys = h (suc (d - suc m)) (omega (arith, lt)) in r.0

others_same : (d m : ℕ) (xs ys : List ℕ) → Agree (d + 1) m xs ys → Agree d m (others xs) (others ys)
others_same d m xs ys h =
    λ n e. let r : Same (suc n) xs ys = h (suc n) (omega (arith, e)) in r.1

more_same : (d m x : ℕ) (xs ys : List ℕ) → m < d → Agree (d - 1) m xs ys → Agree d m (x ∷ xs) (x ∷ ys)
more_same d m x xs ys lt h = λ n e. each n e
  where
    each : (n : ℕ) → n + m ≡ d → Same n (x ∷ xs) (x ∷ ys)
    each zero e = tt
    each (suc n) e = (refl, h n (omega (arith, e)))

at_count : (d d' m : ℕ) (xs ys : List ℕ) → d ≡ d' → Agree d m xs ys → Agree d' m xs ys
at_count d d' m xs ys e h = λ n f. h n (f ∙ sym e)

-- the branches that are open above m before a part lead to the same if those behind it do
pub aims_agree : (x : Nest) (a : Around) (floor d m : ℕ) (p : Place) (to to' : List ℕ) → m ≤ floor → floor ≤ d
    → Fits x a floor d → Agree (open_behind x d) m to to' → Agree d m (aims_of x p to) (aims_of x p to')
aims_agree Stop a floor d m p to to' l le f h = h
aims_agree (Plain t r) a floor d m p to to' l le f h = aims_agree r a floor d m (behind t p) to to' l le f h
aims_agree (Defining x t r) a floor d m p to to' l le f h =
    aims_agree r a floor d m (behind (call t) (behind (maker_token x) p)) to to' l le f.1 h
aims_agree (Definition x i r) a floor d m p to to' l le f h =
    let b = past 1 (behind (maker_token x) p) in
    let q = past 1 (end_of i b) in
    aims_agree i _ d d m b _ _ (omega (arith, l, le)) (omega arith) f.1
    (at_count d (open_behind i d) m (aims_of r q to) (aims_of r q to') (sym f.2)
    (aims_agree r a floor d m q to to' l le f.3 h))
aims_agree (If y r) a floor d m p to to' l le f h =
    let q = past_offset p in
    others_same d m (aims_of r q to) (aims_of r q to')
    (aims_agree r a floor (d + 1) m q to to' l (omega (arith, le)) f h)
aims_agree (Else y r) a floor d m p to to' l le f h =
    let q = past 1 (past_offset p) in
    let up : d ≡ d - 1 + 1 = omega (arith, f.0) in
    more_same d m q.position (others (aims_of r q to)) (others (aims_of r q to')) (omega (arith, l, f.0))
    (others_same (d - 1) m (aims_of r q to) (aims_of r q to')
    (at_count d (d - 1 + 1) m (aims_of r q to) (aims_of r q to') up (aims_agree r a floor d m q to to' l le f.1 h)))
aims_agree (Then r) a floor d m p to to' l le f h =
    let q = past 1 p in
    more_same d m q.position (aims_of r q to) (aims_of r q to') (omega (arith, l, f.0))
    (aims_agree r a floor (d - 1) m q to to' l (omega (arith, f.0)) f.1 h)
aims_agree (Begin i z y r) a floor d m p to to' l le f h =
    let b = past 1 p in
    let q = past_offset (end_of i b) in
    let up = least i (in_part a) d d (omega arith) f.0 in
    aims_agree i (in_part a) d d m b _ _ (omega (arith, l, le)) (omega arith) f.0
    (aims_agree r a floor (open_behind i d) m q to to' l (omega (arith, up, le)) f.1 h)
aims_agree (Do v k i z y r) a floor d m p to to' l le f h =
    let b = past_offset p in
    let q = past_offset (end_of i b) in
    aims_agree i _ d d m b _ _ (omega (arith, l, le)) (omega arith) f.0
    (at_count d (open_behind i d) m (aims_of r q to) (aims_of r q to') (sym f.1)
    (aims_agree r a floor d m q to to' l le f.2 h))
aims_agree (Leave r) a floor d m p to to' l le f h = aims_agree r a floor d m (past 1 p) to to' l le f.1 h
aims_agree (Case i r) a floor d m p to to' l le f h =
    let b = past 1 p in
    let q = past 1 (end_of i b) in
    aims_agree i _ d d m b _ _ (omega (arith, l, le)) (omega arith) f.0
    (at_count d (open_behind i d) m (aims_of r q to) (aims_of r q to') (sym f.1)
    (aims_agree r a floor d m q to to' l le f.2 h))
aims_agree (Of k i y r) a floor d m p to to' l le f h =
    let b = past_offset p in
    let q = past_offset (end_of i b) in
    aims_agree i (in_part a) d d m b _ _ (omega (arith, l, le)) (omega arith) f.2
    (at_count d (open_behind i d) m (aims_of r q to) (aims_of r q to') (sym f.3)
    (aims_agree r a floor d m q to to' l le f.4 h))

-- the tokens of a part, where those that are open above m behind it lead to the same, and it closes none beneath m;
-- where no arm of a case may stand, it matters not where those end
pub written_agree : (x : Nest) (a : Around) (floor d m : ℕ) (p : Place) (to to' : List ℕ) (out out' : ℕ)
    (ws : List Written) → (a.cases ≡ true → out ≡ out') → m ≤ floor → floor ≤ d → Fits x a floor d
    → Agree (open_behind x d) m to to' → written x p to out ws ≡ written x p to' out' ws
written_agree Stop a floor d m p to to' out out' ws o l le f h = refl
written_agree (Plain t r) a floor d m p to to' out out' ws o l le f h =
    ap (λ y. Straight p.size t ∷ y) (written_agree r a floor d m (behind t p) to to' out out' ws o l le f h)
written_agree (Defining x t r) a floor d m p to to' out out' ws o l le f h =
    let c = behind (maker_token x) p in
    ap (λ y. Straight p.size (maker_token x) ∷ Straight c.size (call t) ∷ y)
    (written_agree r a floor d m (behind (call t) c) to to' out out' ws o l le f.1 h)
written_agree (Definition x i r) a floor d m p to to' out out' ws o l le f h =
    let c = behind (maker_token x) p in
    let b = past 1 c in
    let e = end_of i b in
    let q = past 1 e in
    let g = aims_agree r a floor d m q to to' l le f.3 h in
    ap (λ y. Straight p.size (maker_token x) ∷ straight 0x0b7 c ∷ written i b (aims_of r q to) out
    (straight 0x0c2 e ∷ y))
    (written_agree r a floor d m q to to' out out' ws o l le f.3 h)
    ∙ ap (λ y. Straight p.size (maker_token x) ∷ straight 0x0b7 c ∷ y)
    (written_agree i _ d d m b _ _ out out' _ (λ c. absurd cc) (omega (arith, l, le)) (omega arith) f.1
    (at_count d (open_behind i d) m (aims_of r q to) (aims_of r q to') (sym f.2) g))
written_agree (If y r) a floor d m p to to' out out' ws o l le f h =
    let q = past_offset p in
    let g = aims_agree r a floor (d + 1) m q to to' l (omega (arith, le)) f h in
    ap (λ t. aimed y 0x014 p t ∷ written r q to out ws)
    (first_same (d + 1) m (aims_of r q to) (aims_of r q to') (omega (arith, l, le)) g)
    ∙ ap (λ v. aimed y 0x014 p (first (aims_of r q to')) ∷ v)
    (written_agree r a floor (d + 1) m q to to' out out' ws o l (omega (arith, le)) f h)
written_agree (Else y r) a floor d m p to to' out out' ws o l le f h =
    let q = past 1 (past_offset p) in
    let g = aims_agree r a floor d m q to to' l le f.1 h in
    ap (λ t. aimed y 0x013 p t ∷ straight 0x0b2 (past_offset p) ∷ written r q to out ws)
    (first_same d m (aims_of r q to) (aims_of r q to') (omega (arith, l, f.0)) g)
    ∙ ap (λ v. aimed y 0x013 p (first (aims_of r q to')) ∷ straight 0x0b2 (past_offset p) ∷ v)
    (written_agree r a floor d m q to to' out out' ws o l le f.1 h)
written_agree (Then r) a floor d m p to to' out out' ws o l le f h =
    ap (λ y. straight 0x0b2 p ∷ y)
    (written_agree r a floor (d - 1) m (past 1 p) to to' out out' ws o l (omega (arith, f.0)) f.1 h)
written_agree (Begin i z y r) a floor d m p to to' out out' ws o l le f h =
    let b = past 1 p in
    let e = end_of i b in
    let q = past_offset e in
    let up = least i (in_part a) d d (omega arith) f.0 in
    let g = aims_agree r a floor (open_behind i d) m q to to' l (omega (arith, up, le)) f.1 h in
    ap (λ v. straight 0x0b1 p ∷ written i b (aims_of r q to) out (aimed y (branch_code z) e b.position ∷ v))
    (written_agree r a floor (open_behind i d) m q to to' out out' ws o l (omega (arith, up, le)) f.1 h)
    ∙ ap (λ v. straight 0x0b1 p ∷ v)
    (written_agree i (in_part a) d d m b _ _ out out' _ (λ c. absurd cc) (omega (arith, l, le)) (omega arith) f.0 g)
written_agree (Do v k i z y r) a floor d m p to to' out out' ws o l le f h =
    let b = past_offset p in
    let e = end_of i b in
    let q = past_offset e in
    let g = aims_agree r a floor d m q to to' l le f.2 h in
    ap (λ u. aimed k (do_code v) p q.position ∷ written i b (aims_of r q to) q.position
    (aimed y (loop_code z) e b.position ∷ u))
    (written_agree r a floor d m q to to' out out' ws o l le f.2 h)
    ∙ ap (λ u. aimed k (do_code v) p q.position ∷ u)
    (written_agree i _ d d m b _ _ q.position q.position _ (λ c. refl) (omega (arith, l, le)) (omega arith) f.0
    (at_count d (open_behind i d) m (aims_of r q to) (aims_of r q to') (sym f.1) g))
written_agree (Leave r) a floor d m p to to' out out' ws o l le f h =
    ap (λ y. straight 0x01b p ∷ y) (written_agree r a floor d m (past 1 p) to to' out out' ws o l le f.1 h)
written_agree (Case i r) a floor d m p to to' out out' ws o l le f h =
    let b = past 1 p in
    let e = end_of i b in
    let q = past 1 e in
    let g = aims_agree r a floor d m q to to' l le f.2 h in
    ap (λ u. straight 0x0c4 p ∷ written i b (aims_of r q to) q.position (straight 0x0c5 e ∷ u))
    (written_agree r a floor d m q to to' out out' ws o l le f.2 h)
    ∙ ap (λ u. straight 0x0c4 p ∷ u)
    (written_agree i _ d d m b _ _ q.position q.position _ (λ c. refl) (omega (arith, l, le)) (omega arith) f.0
    (at_count d (open_behind i d) m (aims_of r q to) (aims_of r q to') (sym f.1) g))
written_agree (Of k i y r) a floor d m p to to' out out' ws o l le f h =
    let b = past_offset p in
    let e = end_of i b in
    let q = past_offset e in
    let g = aims_agree r a floor d m q to to' l le f.4 h in
    ap (λ u. aimed k 0x01c p q.position ∷ written i b (aims_of r q to) q.position (aimed y 0x0c6 e out ∷ u))
    (written_agree r a floor d m q to to' out out' ws o l le f.4 h)
    ∙ ap (λ u. aimed k 0x01c p q.position ∷ written i b (aims_of r q to) q.position
    (aimed y 0x0c6 e u ∷ written r q to' out' ws))
    (o f.0)
    ∙ ap (λ u. aimed k 0x01c p q.position ∷ u)
    (written_agree i (in_part a) d d m b _ _ q.position q.position _ (λ c. refl) (omega (arith, l, le))
    (omega arith) f.2
    (at_count d (open_behind i d) m (aims_of r q to) (aims_of r q to') (sym f.3) g))

-- a definition's
pub alone : (i : Nest) (d : ℕ) (p : Place) (to : List ℕ) (out : ℕ) (ws : List Written)
    → Fits i (record { defines = true; loops = false; cases = false }) d d → open_behind i d ≡ d
    → written i p to out ws ≡ written i p [] 0 ws
alone i d p to out ws f e =
    written_agree i _ d d d p to [] out 0 ws (λ c. absurd cc) (omega arith) (omega arith) f
    (λ n h. nothing n (omega (arith, h, e)))
  where
    nothing : (n : ℕ) → n ≡ 0 → Same n to []
    nothing zero h = tt
    nothing (suc n) h = absurd cc
