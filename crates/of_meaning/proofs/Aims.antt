-- Where branches lead that are open before a part of a definition.
use Rattle.std.proofs.Common.{◌≡◌, ◌<◌, ◌≤◌, ℕ, zero, suc, ◌+◌, ◌-◌, true, false, List, refl, ap, sym}
use Rattle.std.proofs.Common.{◌∙◌, subst, arith}
use Rattle.of_source.specs.Nest.{Around, Fits, Nest, Stop, Plain, Definition, Defining, If, Else, Then, Begin, Do}
use Rattle.of_source.specs.Nest.{Leave, Case, Of, in_part, open_behind}
use Rattle.of_source.specs.Items.{call, maker_token}
use Rattle.of_tok.specs.declared.place.Place.{Place}
use Rattle.of_tok.specs.Places.{behind, past, past_offset}
use Rattle.of_tok.specs.Tokens.{aims_of, end_of, first, others}

-- ---- how many are open

module _ {A : Type 0} where
  pub never : true ≡ false → A
  never e = absurd cc

-- a part closes nothing that opened outside
pub at_least : (i : Nest) (a : Around) (floor d : ℕ) → a.defines ≡ true → Fits i a floor d → floor ≤ d
    → floor ≤ open_behind i d
at_least Stop a floor d on h l = l
at_least (Plain t r) a floor d on h l = at_least r a floor d on h l
at_least (Definition m i r) a floor d on h l = never (sym on ∙ h.0)
at_least (Defining m t r) a floor d on h l = never (sym on ∙ h.0)
at_least (If c r) a floor d on h l = at_least r a floor (d + 1) on h (omega (arith, l))
at_least (Else c r) a floor d on h l = at_least r a floor d on h.1 l
at_least (Then r) a floor d on h l = at_least r a floor (d - 1) on h.1 (omega (arith, h.0))
at_least (Begin i z c r) a floor d on h l =
    at_least r a floor (open_behind i d) on h.1
    (omega (arith, l, at_least i (in_part a) d d on h.0 (omega arith)))
at_least (Do q k i c m r) a floor d on h l = at_least r a floor d on h.2 l
at_least (Leave r) a floor d on h l = at_least r a floor d on h.1 l
at_least (Case i r) a floor d on h l = at_least r a floor d on h.2 l
at_least (Of k i m r) a floor d on h l = at_least r a floor d on h.4 l

-- how many it leaves open doesn't depend on how many there are outside
pub record Moves (i : Nest) (a : Around) (floor d floor2 d2 : ℕ) : Type 0 where
  pub fits : Fits i a floor2 d2
  pub left : ℕ
  pub here : open_behind i d ≡ floor + left
  pub there : open_behind i d2 ≡ floor2 + left

moved : (i : Nest) (a : Around) (floor d floor2 d2 k : ℕ) → a.defines ≡ true → Fits i a floor d → d ≡ floor + k
    → d2 ≡ floor2 + k → Moves i a floor d floor2 d2
moved Stop a floor d floor2 d2 k on h e f = record { fits = tt; left = k; here = e; there = f }
moved (Plain t r) a floor d floor2 d2 k on h e f =
    let m = moved r a floor d floor2 d2 k on h e f in
    record { fits = m.fits; left = m.left; here = m.here; there = m.there }
moved (Definition m i r) a floor d floor2 d2 k on h e f = never (sym on ∙ h.0)
moved (Defining m t r) a floor d floor2 d2 k on h e f = never (sym on ∙ h.0)
moved (If c r) a floor d floor2 d2 k on h e f =
    let m = moved r a floor (d + 1) floor2 (d2 + 1) (k + 1) on h (omega (arith, e)) (omega (arith, f)) in
    record { fits = m.fits; left = m.left; here = m.here; there = m.there }
moved (Else c r) a floor d floor2 d2 k on h e f =
    let m = moved r a floor d floor2 d2 k on h.1 e f in
    record { fits = (omega (arith, h.0, e, f), m.fits); left = m.left; here = m.here; there = m.there }
moved (Then r) a floor d floor2 d2 k on h e f =
    let m =
    moved r a floor (d - 1) floor2 (d2 - 1) (k - 1) on h.1 (omega (arith, h.0, e)) (omega (arith, h.0, e, f)) in
    record { fits = (omega (arith, h.0, e, f), m.fits); left = m.left; here = m.here; there = m.there }
moved (Begin i z c r) a floor d floor2 d2 k on h e f =
    let n = moved i (in_part a) d d d2 d2 0 on h.0 (omega arith) (omega arith) in
    let m =
    moved r a floor (open_behind i d) floor2 (open_behind i d2) (k + n.left) on h.1 (omega (arith, n.here, e))
    (omega (arith, n.there, f)) in
    record { fits = (n.fits, m.fits); left = m.left; here = m.here; there = m.there }
moved (Do q j i c w r) a floor d floor2 d2 k on h e f =
    let n =
    moved i (record { defines = a.defines; loops = true; cases = false }) d d d2 d2 0 on h.0 (omega arith)
    (omega arith) in
    let m = moved r a floor d floor2 d2 k on h.2 e f in
    record {
      fits = (n.fits, omega (arith, n.there, n.here, h.1), m.fits);
      left = m.left;
      here = m.here;
      there = m.there;
    }
moved (Leave r) a floor d floor2 d2 k on h e f =
    let m = moved r a floor d floor2 d2 k on h.1 e f in
    record { fits = (h.0, m.fits); left = m.left; here = m.here; there = m.there }
moved (Case i r) a floor d floor2 d2 k on h e f =
    let n =
    moved i (record { defines = a.defines; loops = a.loops; cases = true }) d d d2 d2 0 on h.0 (omega arith)
    (omega arith) in
    let m = moved r a floor d floor2 d2 k on h.2 e f in
    record {
      fits = (n.fits, omega (arith, n.there, n.here, h.1), m.fits);
      left = m.left;
      here = m.here;
      there = m.there;
    }
moved (Of j i w r) a floor d floor2 d2 k on h e f =
    let n = moved i (in_part a) d d d2 d2 0 on h.2 (omega arith) (omega arith) in
    let m = moved r a floor d floor2 d2 k on h.4 e f in
    record {
      fits = (h.0, omega (arith, h.1, e, f), n.fits, omega (arith, n.there, n.here, h.3), m.fits);
      left = m.left;
      here = m.here;
      there = m.there;
    }

pub left_alone : (i : Nest) (a : Around) (d : ℕ) → a.defines ≡ true → Fits i a d d
    → open_behind i d ≡ d + open_behind i 0
left_alone i a d on h =
    let m = moved i a d d 0 0 0 on h (omega arith) (omega arith) in omega (arith, m.here, m.there)

-- ---- where a part ends

pub past_start : (i : Nest) (p : Place) → p.position ≤ (end_of i p).position
past_start Stop p = omega arith
past_start (Plain t r) p = omega (arith, past_start r (behind t p))
past_start (Definition m i r) p =
    let c = behind (maker_token m) p in
    let e = end_of i (past 1 c) in
    omega (arith, past_start i (past 1 c), past_start r (past 1 e))
past_start (Defining m t r) p =
    let c = behind (maker_token m) p in omega (arith, past_start r (behind (call t) c))
past_start (If c r) p = omega (arith, past_start r (past_offset p))
past_start (Else c r) p = omega (arith, past_start r (past 1 (past_offset p)))
past_start (Then r) p = omega (arith, past_start r (past 1 p))
past_start (Begin i z c r) p =
    let e = end_of i (past 1 p) in omega (arith, past_start i (past 1 p), past_start r (past_offset e))
past_start (Do q k i c m r) p =
    let e = end_of i (past_offset p) in omega (arith, past_start i (past_offset p), past_start r (past_offset e))
past_start (Leave r) p = omega (arith, past_start r (past 1 p))
past_start (Case i r) p =
    let e = end_of i (past 1 p) in omega (arith, past_start i (past 1 p), past_start r (past 1 e))
past_start (Of k i m r) p =
    let e = end_of i (past_offset p) in omega (arith, past_start i (past_offset p), past_start r (past_offset e))

-- ---- branches that are open before and behind

-- a list without its first k
abbrev pub past_ones : ℕ → List ℕ → List ℕ
past_ones zero ts = ts
past_ones (suc k) ts = past_ones k (others ts)

same_past : (m n : ℕ) (ts : List ℕ) → m ≡ n → past_ones m ts ≡ past_ones n ts
same_past m n ts e = ap (λ x. past_ones x ts) e

past_both : (j k : ℕ) (ts : List ℕ) → past_ones k (past_ones j ts) ≡ past_ones (j + k) ts
past_both zero k ts = same_past k (0 + k) ts (omega arith)
past_both (suc j) k ts = past_both j k (others ts) ∙ same_past (suc (j + k)) (suc j + k) ts (omega arith)

-- those open before a part lead where they led behind it
pub aims_pass : (i : Nest) (a : Around) (floor d k l : ℕ) (p : Place) (to : List ℕ) → a.defines ≡ true
    → Fits i a floor d → d ≡ floor + k → open_behind i d ≡ floor + l
    → past_ones k (aims_of i p to) ≡ past_ones l to
aims_pass Stop a floor d k l p to on h e f = same_past k l to (omega (arith, e, f))
aims_pass (Plain t r) a floor d k l p to on h e f = aims_pass r a floor d k l (behind t p) to on h e f
aims_pass (Definition m i r) a floor d k l p to on h e f = never (sym on ∙ h.0)
aims_pass (Defining m t r) a floor d k l p to on h e f = never (sym on ∙ h.0)
aims_pass (If c r) a floor d k l p to on h e f =
    aims_pass r a floor (d + 1) (suc k) l (past_offset p) to on h (omega (arith, e)) f
aims_pass (Else c r) a floor d zero l p to on h e f = absurd (omega (arith, e, h.0))
aims_pass (Else c r) a floor d (suc k) l p to on h e f =
    aims_pass r a floor d (suc k) l (past 1 (past_offset p)) to on h.1 e f
aims_pass (Then r) a floor d zero l p to on h e f = absurd (omega (arith, e, h.0))
aims_pass (Then r) a floor d (suc k) l p to on h e f =
    aims_pass r a floor (d - 1) k l (past 1 p) to on h.1 (omega (arith, e)) f
aims_pass (Begin i z c r) a floor d k l p to on h e f =
    let q = past_offset (end_of i (past 1 p)) in
    let behind_it = aims_of r q to in
    let own = open_behind i 0 in
    let left = left_alone i (in_part a) d on h.0 in
    ap (past_ones k) (aims_pass i (in_part a) d d 0 own (past 1 p) behind_it on h.0 (omega arith) left)
    ∙ past_both own k behind_it
    ∙ aims_pass r a floor (open_behind i d) (own + k) l q to on h.1 (omega (arith, left, e)) f
aims_pass (Do v j i c m r) a floor d k l p to on h e f =
    let q = past_offset (end_of i (past_offset p)) in
    ap (past_ones k)
    (aims_pass i (record { defines = a.defines; loops = true; cases = false }) d d 0 0 (past_offset p) (aims_of r q to)
    on h.0 (omega arith) (omega (arith, h.1)))
    ∙ aims_pass r a floor d k l q to on h.2 e f
aims_pass (Leave r) a floor d k l p to on h e f = aims_pass r a floor d k l (past 1 p) to on h.1 e f
aims_pass (Case i r) a floor d k l p to on h e f =
    let q = past 1 (end_of i (past 1 p)) in
    ap (past_ones k)
    (aims_pass i (record { defines = a.defines; loops = a.loops; cases = true }) d d 0 0 (past 1 p) (aims_of r q to)
    on h.0 (omega arith) (omega (arith, h.1)))
    ∙ aims_pass r a floor d k l q to on h.2 e f
aims_pass (Of j i m r) a floor d k l p to on h e f =
    let q = past_offset (end_of i (past_offset p)) in
    ap (past_ones k)
    (aims_pass i (in_part a) d d 0 0 (past_offset p) (aims_of r q to) on h.2 (omega arith) (omega (arith, h.3)))
    ∙ aims_pass r a floor d k l q to on h.4 e f

-- ---- they lead behind the part in which they are closed

-- the first k are above a position
abbrev pub AreAbove : ℕ → ℕ → List ℕ → Type 0
AreAbove t zero ts = Unit {0}
AreAbove t (suc k) ts = (t < first ts) × AreAbove t k (others ts)

pub weaken : (s t k : ℕ) (ts : List ℕ) → s ≤ t → AreAbove t k ts → AreAbove s k ts
weaken s t zero ts l h = tt
weaken s t (suc k) ts l h = (omega (arith, l, h.0), weaken s t k (others ts) l h.1)

-- those behind the first j of them
above_past : (t j k n : ℕ) (ts : List ℕ) → n ≡ j + k → AreAbove t n ts → AreAbove t k (past_ones j ts)
above_past t zero k n ts e h = subst (λ x. AreAbove t x ts) (omega (arith, e)) h
above_past t (suc j) k zero ts e h = absurd (omega (arith, e))
above_past t (suc j) k (suc n) ts e h = above_past t j k n (others ts) (omega (arith, e)) h.1

-- the first j of them
pub above_first : (t j k n : ℕ) (ts : List ℕ) → n ≡ j + k → AreAbove t n ts → AreAbove t j ts
above_first t zero k n ts e h = tt
above_first t (suc j) k zero ts e h = absurd (omega (arith, e))
above_first t (suc j) k (suc n) ts e h = (h.0, above_first t j k n (others ts) (omega (arith, e)) h.1)

pub aims_above : (i : Nest) (a : Around) (floor d k l : ℕ) (p : Place) (to : List ℕ) → a.defines ≡ true
    → Fits i a floor d → d ≡ floor + k → open_behind i d ≡ floor + l → AreAbove (end_of i p).position l to
    → AreAbove p.position k (aims_of i p to)
aims_above Stop a floor d k l p to on h e f above =
    subst (λ n. AreAbove p.position n to) (omega (arith, e, f)) above
aims_above (Plain t r) a floor d k l p to on h e f above =
    weaken p.position (behind t p).position k (aims_of r (behind t p) to) (omega arith)
    (aims_above r a floor d k l (behind t p) to on h e f above)
aims_above (Definition m i r) a floor d k l p to on h e f above = never (sym on ∙ h.0)
aims_above (Defining m t r) a floor d k l p to on h e f above = never (sym on ∙ h.0)
aims_above (If c r) a floor d k l p to on h e f above =
    let q = past_offset p in
    let more = aims_above r a floor (d + 1) (suc k) l q to on h (omega (arith, e)) f above in
    weaken p.position q.position k (others (aims_of r q to)) (omega arith) more.1
aims_above (Else c r) a floor d zero l p to on h e f above = tt
aims_above (Else c r) a floor d (suc k) l p to on h e f above =
    let q = past 1 (past_offset p) in
    let more = aims_above r a floor d (suc k) l q to on h.1 e f above in
    (omega arith, weaken p.position q.position k (others (aims_of r q to)) (omega arith) more.1)
aims_above (Then r) a floor d zero l p to on h e f above = tt
aims_above (Then r) a floor d (suc k) l p to on h e f above =
    let q = past 1 p in
    let more = aims_above r a floor (d - 1) k l q to on h.1 (omega (arith, e)) f above in
    (omega arith, weaken p.position q.position k (aims_of r q to) (omega arith) more)
aims_above (Begin i z c r) a floor d k l p to on h e f above =
    let q = past_offset (end_of i (past 1 p)) in
    let behind_it = aims_of r q to in
    let own = open_behind i 0 in
    let left = left_alone i (in_part a) d on h.0 in
    let more = aims_above r a floor (open_behind i d) (own + k) l q to on h.1 (omega (arith, left, e)) f above in
    let same = aims_pass i (in_part a) d d 0 own (past 1 p) behind_it on h.0 (omega arith) left in
    subst (λ ts. AreAbove p.position k ts) (sym same)
    (weaken p.position q.position k (past_ones own behind_it) (omega (arith, past_start i (past 1 p)))
    (above_past q.position own k (own + k) behind_it refl more))
aims_above (Do v j i c m r) a floor d k l p to on h e f above =
    let q = past_offset (end_of i (past_offset p)) in
    let more = aims_above r a floor d k l q to on h.2 e f above in
    let same =
    aims_pass i (record { defines = a.defines; loops = true; cases = false }) d d 0 0 (past_offset p) (aims_of r q to)
    on h.0 (omega arith) (omega (arith, h.1)) in
    subst (λ ts. AreAbove p.position k ts) (sym same)
    (weaken p.position q.position k (aims_of r q to) (omega (arith, past_start i (past_offset p))) more)
aims_above (Leave r) a floor d k l p to on h e f above =
    weaken p.position (past 1 p).position k (aims_of r (past 1 p) to) (omega arith)
    (aims_above r a floor d k l (past 1 p) to on h.1 e f above)
aims_above (Case i r) a floor d k l p to on h e f above =
    let q = past 1 (end_of i (past 1 p)) in
    let more = aims_above r a floor d k l q to on h.2 e f above in
    let same =
    aims_pass i (record { defines = a.defines; loops = a.loops; cases = true }) d d 0 0 (past 1 p) (aims_of r q to)
    on h.0 (omega arith) (omega (arith, h.1)) in
    subst (λ ts. AreAbove p.position k ts) (sym same)
    (weaken p.position q.position k (aims_of r q to) (omega (arith, past_start i (past 1 p))) more)
aims_above (Of j i m r) a floor d k l p to on h e f above =
    let q = past_offset (end_of i (past_offset p)) in
    let more = aims_above r a floor d k l q to on h.4 e f above in
    let same =
    aims_pass i (in_part a) d d 0 0 (past_offset p) (aims_of r q to) on h.2 (omega arith) (omega (arith, h.3)) in
    subst (λ ts. AreAbove p.position k ts) (sym same)
    (weaken p.position q.position k (aims_of r q to) (omega (arith, past_start i (past_offset p))) more)
