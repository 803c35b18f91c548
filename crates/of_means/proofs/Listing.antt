-- The tokens of a nest as a list: what stands before others, and where they end.
use Rattle.std.proofs.Common.{◌≡◌, ℕ, true, false, nat_eq, nat_lt, List, [], ◌∷◌, ◌++◌, refl, ap, ◌∙◌}
use Rattle.of_stream.specs.Bytes.{token_bytes}
use Rattle.of_source.specs.Items.{call, maker_token}
use Rattle.of_source.specs.Nest.{Nest, Stop, Plain, Definition, Defining, If, Else, Then, Begin, Do, Leave, Case, Of}
use Rattle.of_source.specs.Keywords.{fcode}
use Rattle.of_tok.specs.declared.place.Place.{Place}
use Rattle.of_tok.specs.Places.{behind, past, past_offset}
use Rattle.of_tok.specs.Tokens.{Written, Straight, aimed, aims_of, branch_code, do_code, end_of, first, loop_code}
use Rattle.of_tok.specs.Tokens.{offset_of, straight, token_of, written}
use Rattle.of_means.proofs.Turning.{offset_behind}
use Rattle.of_means.proofs.Nests.{branch_short, do_short, loop_short}

-- what stands before others
pub before : (x : Nest) (p : Place) (to : List ℕ) (out : ℕ) (vs ws : List Written)
    → written x p to out (vs ++ ws) ≡ written x p to out vs ++ ws
before Stop p to out vs ws = refl
before (Plain t r) p to out vs ws = ap (λ y. Straight p.size t ∷ y) (before r (behind t p) to out vs ws)
before (Definition x i r) p to out vs ws =
    let c = behind (maker_token x) p in
    let b = past 1 c in
    let e = end_of i b in
    let q = past 1 e in
    let A = aims_of r q to in
    ap (λ y. Straight p.size (maker_token x) ∷ straight 0x0b7 c ∷ written i b A out (straight 0x0c2 e ∷ y))
    (before r q to out vs ws)
    ∙ ap (λ y. Straight p.size (maker_token x) ∷ straight 0x0b7 c ∷ y)
    (before i b A out (straight 0x0c2 e ∷ written r q to out vs) ws)
before (Defining x t r) p to out vs ws =
    let c = behind (maker_token x) p in
    ap (λ y. Straight p.size (maker_token x) ∷ Straight c.size (call t) ∷ y)
    (before r (behind (call t) c) to out vs ws)
before (If l r) p to out vs ws =
    let q = past_offset p in
    ap (λ y. aimed l 0x014 p (first (aims_of r q to)) ∷ y) (before r q to out vs ws)
before (Else l r) p to out vs ws =
    let q = past 1 (past_offset p) in
    ap (λ y. aimed l 0x013 p (first (aims_of r q to)) ∷ straight 0x0b2 (past_offset p) ∷ y) (before r q to out vs ws)
before (Then r) p to out vs ws = ap (λ y. straight 0x0b2 p ∷ y) (before r (past 1 p) to out vs ws)
before (Begin i v l r) p to out vs ws =
    let b = past 1 p in
    let e = end_of i b in
    let q = past_offset e in
    let A = aims_of r q to in
    ap (λ y. straight 0x0b1 p ∷ written i b A out (aimed l (branch_code v) e b.position ∷ y)) (before r q to out vs ws)
    ∙ ap (λ y. straight 0x0b1 p ∷ y)
    (before i b A out (aimed l (branch_code v) e b.position ∷ written r q to out vs) ws)
before (Do v k i l m r) p to out vs ws =
    let b = past_offset p in
    let e = end_of i b in
    let q = past_offset e in
    let A = aims_of r q to in
    ap (λ y. aimed k (do_code v) p q.position ∷ written i b A q.position (aimed m (loop_code l) e b.position ∷ y))
    (before r q to out vs ws)
    ∙ ap (λ y. aimed k (do_code v) p q.position ∷ y)
    (before i b A q.position (aimed m (loop_code l) e b.position ∷ written r q to out vs) ws)
before (Leave r) p to out vs ws = ap (λ y. straight 0x01b p ∷ y) (before r (past 1 p) to out vs ws)
before (Case i r) p to out vs ws =
    let b = past 1 p in
    let e = end_of i b in
    let q = past 1 e in
    let A = aims_of r q to in
    ap (λ y. straight 0x0c4 p ∷ written i b A q.position (straight 0x0c5 e ∷ y)) (before r q to out vs ws)
    ∙ ap (λ y. straight 0x0c4 p ∷ y) (before i b A q.position (straight 0x0c5 e ∷ written r q to out vs) ws)
before (Of k i m r) p to out vs ws =
    let b = past_offset p in
    let e = end_of i b in
    let q = past_offset e in
    let A = aims_of r q to in
    ap (λ y. aimed k 0x01c p q.position ∷ written i b A q.position (aimed m 0x0c6 e out ∷ y)) (before r q to out vs ws)
    ∙ ap (λ y. aimed k 0x01c p q.position ∷ y)
    (before i b A q.position (aimed m 0x0c6 e out ∷ written r q to out vs) ws)

-- the place behind tokens
abbrev pub all_behind : List Written → Place → Place
all_behind [] p = p
all_behind (w ∷ ws) p = all_behind ws (behind (token_of w) p)

behind_aimed : (l k : ℕ) (p : Place) (to : ℕ) (ws : List Written) → nat_lt k 256 ≡ true → nat_eq k 0x0cc ≡ false
    → all_behind (aimed l k p to ∷ ws) p ≡ all_behind ws (past_offset p)
behind_aimed l k p to ws short wide =
    ap (λ (q : Place). all_behind ws q)
    (offset_behind k (offset_of (record { word = l; place = p; code = fcode k; target = to })) p short wide)

pub ends_at : (x : Nest) (p : Place) (to : List ℕ) (out : ℕ) (ws : List Written)
    → all_behind (written x p to out ws) p ≡ all_behind ws (end_of x p)
unfolding token_bytes
ends_at Stop p to out ws = refl
ends_at (Plain t r) p to out ws = ends_at r (behind t p) to out ws
ends_at (Definition x i r) p to out ws =
    let b = past 1 (behind (maker_token x) p) in
    let e = end_of i b in
    let q = past 1 e in
    ends_at i b (aims_of r q to) out (straight 0x0c2 e ∷ written r q to out ws) ∙ ends_at r q to out ws
ends_at (Defining x t r) p to out ws = ends_at r (behind (call t) (behind (maker_token x) p)) to out ws
ends_at (If l r) p to out ws =
    let q = past_offset p in
    behind_aimed l 0x014 p (first (aims_of r q to)) (written r q to out ws) refl refl ∙ ends_at r q to out ws
ends_at (Else l r) p to out ws =
    let q = past 1 (past_offset p) in
    behind_aimed l 0x013 p (first (aims_of r q to)) (straight 0x0b2 (past_offset p) ∷ written r q to out ws) refl refl
    ∙ ends_at r q to out ws
ends_at (Then r) p to out ws = ends_at r (past 1 p) to out ws
ends_at (Begin i v l r) p to out ws =
    let b = past 1 p in
    let e = end_of i b in
    let q = past_offset e in
    let s = branch_short v in
    ends_at i b (aims_of r q to) out (aimed l (branch_code v) e b.position ∷ written r q to out ws)
    ∙ behind_aimed l (branch_code v) e b.position (written r q to out ws) s.0 s.1 ∙ ends_at r q to out ws
ends_at (Do v k i l m r) p to out ws =
    let b = past_offset p in
    let e = end_of i b in
    let q = past_offset e in
    let s = do_short v in
    let t = loop_short l in
    behind_aimed k (do_code v) p q.position
    (written i b (aims_of r q to) q.position (aimed m (loop_code l) e b.position ∷ written r q to out ws)) s.0 s.1
    ∙ ends_at i b (aims_of r q to) q.position (aimed m (loop_code l) e b.position ∷ written r q to out ws)
    ∙ behind_aimed m (loop_code l) e b.position (written r q to out ws) t.0 t.1 ∙ ends_at r q to out ws
ends_at (Leave r) p to out ws = ends_at r (past 1 p) to out ws
ends_at (Case i r) p to out ws =
    let b = past 1 p in
    let e = end_of i b in
    let q = past 1 e in
    ends_at i b (aims_of r q to) q.position (straight 0x0c5 e ∷ written r q to out ws) ∙ ends_at r q to out ws
ends_at (Of k i m r) p to out ws =
    let b = past_offset p in
    let e = end_of i b in
    let q = past_offset e in
    behind_aimed k 0x01c p q.position
    (written i b (aims_of r q to) q.position (aimed m 0x0c6 e out ∷ written r q to out ws))
    refl refl
    ∙ ends_at i b (aims_of r q to) q.position (aimed m 0x0c6 e out ∷ written r q to out ws)
    ∙ behind_aimed m 0x0c6 e out (written r q to out ws) refl refl ∙ ends_at r q to out ws
