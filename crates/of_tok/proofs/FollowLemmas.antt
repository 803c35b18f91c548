-- What follows the tokens of a nest.
use Rattle.std.proofs.Common.{◌≡◌, ℕ, Bool, true, false, List, ◌∷◌, nat_eq, nat_lt, refl, subst}
use Rattle.of_source.specs.Items.{call, maker_token}
use Rattle.of_source.specs.Nest.{Nest, Stop, Plain, Definition, Defining, If, Else, Then, Begin, Do, Leave, Case, Of}
use Rattle.of_tok.specs.declared.place.Place.{Place}
use Rattle.of_tok.specs.Laws.{HasTokens, NestsEndAtTheirPlaces}
use Rattle.of_tok.specs.Places.{behind, past, past_offset}
use Rattle.of_tok.specs.Tokens.{Written, Straight, aimed, aims_of, branch_code, do_code, end_of, first, loop_code}
use Rattle.of_tok.specs.Tokens.{straight, token_of, written}
use Rattle.of_tok.proofs.Placed.{aimed_behind, straight_behind}

-- what holds of tokens from a place on holds of those behind the first of them, from the place behind it
abbrev pub Goes : (Place → List Written → Type 0) → Type 0
Goes P = (p : Place) (w : Written) (ws : List Written) → P p (w ∷ ws) → P (behind (token_of w) p) ws

one : (P : Place → List Written → Type 0) → Goes P → (code : ℕ) (p : Place) (ws : List Written)
    → nat_lt code 256 ≡ true → nat_eq code 0x0cc ≡ false → P p (straight code p ∷ ws) → P (past 1 p) ws
one P goes code p ws l k h = subst (λ (q : Place). P q ws) (straight_behind code p l k) (goes p (straight code p) ws h)

offset : (P : Place → List Written → Type 0) → Goes P → (l code : ℕ) (p : Place) (t : ℕ) (ws : List Written)
    → nat_lt code 256 ≡ true → nat_eq code 0x0cc ≡ false → P p (aimed l code p t ∷ ws) → P (past_offset p) ws
offset P goes l code p t ws a k h =
    subst (λ (q : Place). P q ws) (aimed_behind l code p t a k) (goes p (aimed l code p t) ws h)

branch : (P : Place → List Written → Type 0) → Goes P → (z : Bool) (l : ℕ) (p : Place) (t : ℕ) (ws : List Written)
    → P p (aimed l (branch_code z) p t ∷ ws) → P (past_offset p) ws
branch P goes true l p t ws h = offset P goes l 0x014 p t ws refl refl h
branch P goes false l p t ws h = offset P goes l 0x013 p t ws refl refl h

do_token : (P : Place → List Written → Type 0) → Goes P → (v : Bool) (l : ℕ) (p : Place) (t : ℕ) (ws : List Written)
    → P p (aimed l (do_code v) p t ∷ ws) → P (past_offset p) ws
do_token P goes true l p t ws h = offset P goes l 0x018 p t ws refl refl h
do_token P goes false l p t ws h = offset P goes l 0x017 p t ws refl refl h

loop_token : (P : Place → List Written → Type 0) → Goes P → (v : Bool) (l : ℕ) (p : Place) (t : ℕ) (ws : List Written)
    → P p (aimed l (loop_code v) p t ∷ ws) → P (past_offset p) ws
loop_token P goes true l p t ws h = offset P goes l 0x016 p t ws refl refl h
loop_token P goes false l p t ws h = offset P goes l 0x015 p t ws refl refl h

-- behind all tokens of a nest
pub passed : (P : Place → List Written → Type 0) → Goes P → (x : Nest) (p : Place) (to : List ℕ) (out : ℕ)
    (ws : List Written) → P p (written x p to out ws) → P (end_of x p) ws
passed P goes Stop p to out ws h = h
passed P goes (Plain t r) p to out ws h =
    passed P goes r (behind t p) to out ws
    (goes p (Straight p.size t) (written r (behind t p) to out ws) h)
passed P goes (Definition m i r) p to out ws h =
    let c = behind (maker_token m) p in
    let b = past 1 c in
    let e = end_of i b in
    let q = past 1 e in
    let rest = written r q to out ws in
    let inner = written i b (aims_of r q to) out (straight 0x0c2 e ∷ rest) in
    let colon = goes p (Straight p.size (maker_token m)) (straight 0x0b7 c ∷ inner) h in
    let inside = one P goes 0x0b7 c inner refl refl colon in
    let closer = passed P goes i b (aims_of r q to) out (straight 0x0c2 e ∷ rest) inside in
    passed P goes r q to out ws (one P goes 0x0c2 e rest refl refl closer)
passed P goes (Defining m t r) p to out ws h =
    let c = behind (maker_token m) p in
    let q = behind (call t) c in
    let rest = written r q to out ws in
    let kind = goes p (Straight p.size (maker_token m)) (Straight c.size (call t) ∷ rest) h in
    passed P goes r q to out ws (goes c (Straight c.size (call t)) rest kind)
passed P goes (If l r) p to out ws h =
    let q = past_offset p in
    passed P goes r q to out ws (offset P goes l 0x014 p (first (aims_of r q to)) (written r q to out ws) refl refl h)
passed P goes (Else l r) p to out ws h =
    let q = past 1 (past_offset p) in
    let rest = written r q to out ws in
    let closed = straight 0x0b2 (past_offset p) ∷ rest in
    let resolve = offset P goes l 0x013 p (first (aims_of r q to)) closed refl refl h in
    passed P goes r q to out ws (one P goes 0x0b2 (past_offset p) rest refl refl resolve)
passed P goes (Then r) p to out ws h =
    passed P goes r (past 1 p) to out ws (one P goes 0x0b2 p (written r (past 1 p) to out ws) refl refl h)
passed P goes (Begin i z l r) p to out ws h =
    let e = end_of i (past 1 p) in
    let q = past_offset e in
    let rest = written r q to out ws in
    let closed = aimed l (branch_code z) e (past 1 p).position ∷ rest in
    let inside = one P goes 0x0b1 p (written i (past 1 p) (aims_of r q to) out closed) refl refl h in
    let closer = passed P goes i (past 1 p) (aims_of r q to) out closed inside in
    passed P goes r q to out ws (branch P goes z l e (past 1 p).position rest closer)
passed P goes (Do v k i l m r) p to out ws h =
    let e = end_of i (past_offset p) in
    let q = past_offset e in
    let rest = written r q to out ws in
    let closed = aimed m (loop_code l) e (past_offset p).position ∷ rest in
    let inside = do_token P goes v k p q.position (written i (past_offset p) (aims_of r q to) q.position closed) h in
    let closer = passed P goes i (past_offset p) (aims_of r q to) q.position closed inside in
    passed P goes r q to out ws (loop_token P goes l m e (past_offset p).position rest closer)
passed P goes (Leave r) p to out ws h =
    passed P goes r (past 1 p) to out ws (one P goes 0x01b p (written r (past 1 p) to out ws) refl refl h)
passed P goes (Case i r) p to out ws h =
    let e = end_of i (past 1 p) in
    let q = past 1 e in
    let rest = written r q to out ws in
    let closed = straight 0x0c5 e ∷ rest in
    let inside = one P goes 0x0c4 p (written i (past 1 p) (aims_of r q to) q.position closed) refl refl h in
    let closer = passed P goes i (past 1 p) (aims_of r q to) q.position closed inside in
    passed P goes r q to out ws (one P goes 0x0c5 e rest refl refl closer)
passed P goes (Of k i m r) p to out ws h =
    let e = end_of i (past_offset p) in
    let q = past_offset e in
    let rest = written r q to out ws in
    let closed = aimed m 0x0c6 e out ∷ rest in
    let inner = written i (past_offset p) (aims_of r q to) q.position closed in
    let inside = offset P goes k 0x01c p q.position inner refl refl h in
    let closer = passed P goes i (past_offset p) (aims_of r q to) q.position closed inside in
    passed P goes r q to out ws (offset P goes m 0x0c6 e out rest refl refl closer)

pub nests_end : NestsEndAtTheirPlaces
nests_end image = passed (HasTokens image) (λ p w ws h. h.3)
