-- What a nest leaves of the branches that were open before it.
use Rattle.std.proofs.Common.{◌≡◌, ℕ, ◌+◌, ◌-◌, ◌<◌, ◌≤◌, false, List, ◌∷◌, refl, ap, ◌∙◌}
use Rattle.std.proofs.Common.{arith, if◌then◌else◌}
use Rattle.std.specs.Prelude.{◌==◌}
use Rattle.std.proofs.lemmas.Bool.{ne_eqb}
use Rattle.of_source.specs.Nest.{Nest, Stop, Plain, Definition, Defining, If, Else, Then, Begin, Do, Leave, Case, Of}
use Rattle.of_source.specs.Nest.{Around, Fits, in_part, open_behind}
use Rattle.of_source.specs.Items.{call, maker_token}
use Rattle.of_tok.specs.declared.place.Place.{Place}
use Rattle.of_tok.specs.Places.{behind, past, past_offset}
use Rattle.of_tok.specs.Tokens.{aims_of, end_of, others}
use Rattle.of_means.proofs.Runs.{aim, aim_under}

-- no branch that was open before is closed
pub least : (x : Nest) (a : Around) (floor d : ℕ) → floor ≤ d → Fits x a floor d → floor ≤ open_behind x d
least Stop a floor d le h = le
least (Plain t r) a floor d le h = least r a floor d le h
least (Definition m i r) a floor d le h = least r a floor d le h.3
least (Defining m t r) a floor d le h = least r a floor d le h.1
least (If l r) a floor d le h = least r a floor (d + 1) (omega (arith, le)) h
least (Else l r) a floor d le h = least r a floor d le h.1
least (Then r) a floor d le h = least r a floor (d - 1) (omega (arith, h.0)) h.1
least (Begin i z l r) a floor d le h =
    let e = least i (in_part a) d d (omega arith) h.0 in
    least r a floor (open_behind i d) (omega (arith, e, le)) h.1
least (Do q k i l m r) a floor d le h = least r a floor d le h.2
least (Leave r) a floor d le h = least r a floor d le h.1
least (Case i r) a floor d le h = least r a floor d le h.2
least (Of k i m r) a floor d le h = least r a floor d le h.4

-- the first of a list is not that of branch b
not_first : (x : ℕ) (xs : List ℕ) (d b : ℕ) → b < d - 1 → aim (x ∷ xs) d b ≡ aim xs (d - 1) b
not_first x xs d b lt =
    let n : (b == d - 1) ≡ false = ne_eqb b (d - 1) (λ h. omega (arith, h, lt)) in
    ap (λ v. if v then x else aim xs (d - 1) b) n

-- they lead where they led
pub aims_pass : (x : Nest) (a : Around) (floor d : ℕ) (p : Place) (to : List ℕ) (b : ℕ) → floor ≤ d → b < floor
    → Fits x a floor d → aim (aims_of x p to) d b ≡ aim to (open_behind x d) b
aims_pass Stop a floor d p to b le lt h = refl
aims_pass (Plain t r) a floor d p to b le lt h = aims_pass r a floor d (behind t p) to b le lt h
aims_pass (Definition m i r) a floor d p to b le lt h =
    let c = past 1 (behind (maker_token m) p) in
    let q = past 1 (end_of i c) in
    aims_pass i _ d d c (aims_of r q to) b (omega arith) (omega (arith, le, lt)) h.1
    ∙ ap (λ n. aim (aims_of r q to) n b) h.2
    ∙ aims_pass r a floor d q to b le lt h.3
aims_pass (Defining m t r) a floor d p to b le lt h =
    aims_pass r a floor d (behind (call t) (behind (maker_token m) p)) to b le lt h.1
aims_pass (If l r) a floor d p to b le lt h =
    aim_under (aims_of r (past_offset p) to) d b (omega (arith, le, lt))
    ∙ aims_pass r a floor (d + 1) (past_offset p) to b (omega (arith, le)) lt h
aims_pass (Else l r) a floor d p to b le lt h =
    let q = past 1 (past_offset p) in
    let to' = aims_of r q to in
    let back : d - 1 + 1 ≡ d = omega (arith, h.0) in
    not_first q.position (others to') d b (omega (arith, lt, h.0))
    ∙ aim_under to' (d - 1) b (omega (arith, lt, h.0))
    ∙ ap (λ m. aim to' m b) back
    ∙ aims_pass r a floor d q to b le lt h.1
aims_pass (Then r) a floor d p to b le lt h =
    not_first (past 1 p).position (aims_of r (past 1 p) to) d b (omega (arith, lt, h.0))
    ∙ aims_pass r a floor (d - 1) (past 1 p) to b (omega (arith, h.0)) lt h.1
aims_pass (Begin i z l r) a floor d p to b le lt h =
    let q = past_offset (end_of i (past 1 p)) in
    let e = least i (in_part a) d d (omega arith) h.0 in
    aims_pass i (in_part a) d d (past 1 p) (aims_of r q to) b (omega arith) (omega (arith, le, lt)) h.0
    ∙ aims_pass r a floor (open_behind i d) q to b (omega (arith, e, le)) lt h.1
aims_pass (Do v k i l m r) a floor d p to b le lt h =
    let q = past_offset (end_of i (past_offset p)) in
    aims_pass i _ d d (past_offset p) (aims_of r q to) b (omega arith) (omega (arith, le, lt)) h.0
    ∙ ap (λ m. aim (aims_of r q to) m b) h.1
    ∙ aims_pass r a floor d q to b le lt h.2
aims_pass (Leave r) a floor d p to b le lt h = aims_pass r a floor d (past 1 p) to b le lt h.1
aims_pass (Case i r) a floor d p to b le lt h =
    let q = past 1 (end_of i (past 1 p)) in
    aims_pass i _ d d (past 1 p) (aims_of r q to) b (omega arith) (omega (arith, le, lt)) h.0
    ∙ ap (λ m. aim (aims_of r q to) m b) h.1
    ∙ aims_pass r a floor d q to b le lt h.2
aims_pass (Of k i m r) a floor d p to b le lt h =
    let q = past_offset (end_of i (past_offset p)) in
    aims_pass i _ d d (past_offset p) (aims_of r q to) b (omega arith) (omega (arith, le, lt)) h.2
    ∙ ap (λ m. aim (aims_of r q to) m b) h.3
    ∙ aims_pass r a floor d q to b le lt h.4
