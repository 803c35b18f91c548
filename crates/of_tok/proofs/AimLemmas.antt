-- Each offset of a whole nest leads behind the header, and no further than the end of the nest.
use Rattle.std.proofs.Common.{◌≡◌, ℕ, ◌+◌, ◌-◌, ◌<◌, ◌≤◌, true, List, [], ◌∷◌, length}
use Rattle.std.proofs.Common.{sym, ◌∙◌, arith}
use Rattle.std.proofs.lemmas.Bool.{false≢true}
use Rattle.of_stream.specs.declared.stream.OffsetSize.{OffsetSize}
use Rattle.of_stream.specs.Image.{header_length}
use Rattle.of_source.specs.Items.{call, maker_token}
use Rattle.of_source.specs.Nest.{Around, Fits, IsWhole, open_behind, outside}
use Rattle.of_source.specs.Nest.{Nest, Stop, Plain, Definition, Defining, If, Else, Then, Begin, Do, Leave, Case, Of}
use Rattle.of_tok.specs.declared.place.Place.{Place}
use Rattle.of_tok.specs.Places.{behind, first_place, past, past_offset}
use Rattle.of_tok.specs.Tokens.{Written, Straight, Aimed, aims_of, end_of, first, others, straight, tokens_of, written}

-- a position behind the header and before another
abbrev pub InRange : ℕ → ℕ → Type 0
InRange end t = (header_length ≤ t) × (t < end)

-- the target of a token is such
abbrev pub IsInRange : ℕ → Written → Type 0
IsInRange end (Straight size t) = Unit {0}
IsInRange end (Aimed a) = InRange end a.target

abbrev pub AreInRange : ℕ → List Written → Type 0
AreInRange end [] = Unit {0}
AreInRange end (w ∷ ws) = IsInRange end w × AreInRange end ws

-- each of some positions is such
abbrev AllInRange : ℕ → List ℕ → Type 0
AllInRange end [] = Unit {0}
AllInRange end (t ∷ ts) = InRange end t × AllInRange end ts

-- ---- a nest ends no earlier than it begins

grows : (x : Nest) (p : Place) → p.position ≤ (end_of x p).position
grows Stop p = omega arith
grows (Plain t r) p = omega (arith, grows r (behind t p))
grows (Definition m i r) p =
    let b = past 1 (behind (maker_token m) p) in omega (arith, grows i b, grows r (past 1 (end_of i b)))
grows (Defining m t r) p = omega (arith, grows r (behind (call t) (behind (maker_token m) p)))
grows (If l r) p = omega (arith, grows r (past_offset p))
grows (Else l r) p = omega (arith, grows r (past 1 (past_offset p)))
grows (Then r) p = omega (arith, grows r (past 1 p))
grows (Begin i z l r) p =
    let e = end_of i (past 1 p) in omega (arith, grows i (past 1 p), grows r (past_offset e))
grows (Do q k i l m r) p =
    let e = end_of i (past_offset p) in omega (arith, grows i (past_offset p), grows r (past_offset e))
grows (Leave r) p = omega (arith, grows r (past 1 p))
grows (Case i r) p =
    let e = end_of i (past 1 p) in omega (arith, grows i (past 1 p), grows r (past 1 e))
grows (Of k i m r) p =
    let e = end_of i (past_offset p) in omega (arith, grows i (past_offset p), grows r (past_offset e))

-- ---- as many branches lead somewhere as are open

fewer : (n : ℕ) (ts : List ℕ) → length ts ≡ n + 1 → length (others ts) ≡ n
fewer n [] e = absurd (omega (arith, e))
fewer n (t ∷ ts) e = omega (arith, e)

exchanged : (n t : ℕ) (ts : List ℕ) → 0 < n → length ts ≡ n → length (t ∷ others ts) ≡ n
exchanged n t [] l e = absurd (omega (arith, e))
exchanged n t (u ∷ ts) l e = e

many : (x : Nest) (a : Around) (floor d : ℕ) (p : Place) (to : List ℕ) → Fits x a floor d
    → length to ≡ open_behind x d → length (aims_of x p to) ≡ d
many Stop a floor d p to f e = e
many (Plain t r) a floor d p to f e = many r a floor d (behind t p) to f e
many (Definition m i r) a floor d p to f e =
    let b = past 1 (behind (maker_token m) p) in
    let q = past 1 (end_of i b) in
    let rest = many r a floor d q to f.3 e in
    many i _ d d b (aims_of r q to) f.1 (rest ∙ sym f.2)
many (Defining m t r) a floor d p to f e = many r a floor d (behind (call t) (behind (maker_token m) p)) to f.1 e
many (If l r) a floor d p to f e =
    fewer d (aims_of r (past_offset p) to) (many r a floor (d + 1) (past_offset p) to f e)
many (Else l r) a floor d p to f e =
    let q = past 1 (past_offset p) in
    exchanged d q.position (aims_of r q to) (omega (arith, f.0)) (many r a floor d q to f.1 e)
many (Then r) a floor d p to f e = omega (arith, f.0, many r a floor (d - 1) (past 1 p) to f.1 e)
many (Begin i z l r) a floor d p to f e =
    let q = past_offset (end_of i (past 1 p)) in
    many i _ d d (past 1 p) (aims_of r q to) f.0 (many r a floor (open_behind i d) q to f.1 e)
many (Do v k i l m r) a floor d p to f e =
    let q = past_offset (end_of i (past_offset p)) in
    let rest = many r a floor d q to f.2 e in
    many i _ d d (past_offset p) (aims_of r q to) f.0 (rest ∙ sym f.1)
many (Leave r) a floor d p to f e = many r a floor d (past 1 p) to f.1 e
many (Case i r) a floor d p to f e =
    let q = past 1 (end_of i (past 1 p)) in
    let rest = many r a floor d q to f.2 e in
    many i _ d d (past 1 p) (aims_of r q to) f.0 (rest ∙ sym f.1)
many (Of k i m r) a floor d p to f e =
    let q = past_offset (end_of i (past_offset p)) in
    let rest = many r a floor d q to f.4 e in
    many i _ d d (past_offset p) (aims_of r q to) f.2 (rest ∙ sym f.3)

-- ---- where they lead

others_in : (end : ℕ) (ts : List ℕ) → AllInRange end ts → AllInRange end (others ts)
others_in end [] h = tt
others_in end (t ∷ ts) h = h.1

first_in : (end : ℕ) (ts : List ℕ) → 0 < length ts → AllInRange end ts → InRange end (first ts)
first_in end [] l h = absurd (omega arith)
first_in end (t ∷ ts) l h = h.0

-- a place behind the header, before which a nest ends
abbrev Within : ℕ → Nest → Place → Type 0
Within end x p = (header_length ≤ p.position) × ((end_of x p).position < end)

aims_in : (end : ℕ) (x : Nest) (p : Place) (to : List ℕ) → Within end x p → AllInRange end to
    → AllInRange end (aims_of x p to)
aims_in end Stop p to w h = h
aims_in end (Plain t r) p to w h = aims_in end r (behind t p) to (omega (arith, w.0), w.1) h
aims_in end (Definition m i r) p to w h =
    let b = past 1 (behind (maker_token m) p) in
    let e = end_of i b in
    let q = past 1 e in
    let up = grows i b in
    let on = grows r q in
    aims_in end i b (aims_of r q to) (omega (arith, w.0), omega (arith, w.1, on))
    (aims_in end r q to (omega (arith, w.0, up), w.1) h)
aims_in end (Defining m t r) p to w h =
    aims_in end r (behind (call t) (behind (maker_token m) p)) to (omega (arith, w.0), w.1) h
aims_in end (If l r) p to w h =
    others_in end (aims_of r (past_offset p) to) (aims_in end r (past_offset p) to (omega (arith, w.0), w.1) h)
aims_in end (Else l r) p to w h =
    let q = past 1 (past_offset p) in
    let on = grows r q in (
      (omega (arith, w.0), omega (arith, w.1, on)),
      others_in end (aims_of r q to) (aims_in end r q to (omega (arith, w.0), w.1) h),
    )
aims_in end (Then r) p to w h =
    let on = grows r (past 1 p) in
    ((omega (arith, w.0), omega (arith, w.1, on)), aims_in end r (past 1 p) to (omega (arith, w.0), w.1) h)
aims_in end (Begin i z l r) p to w h =
    let q = past_offset (end_of i (past 1 p)) in
    let up = grows i (past 1 p) in
    let on = grows r q in
    aims_in end i (past 1 p) (aims_of r q to) (omega (arith, w.0), omega (arith, w.1, on))
    (aims_in end r q to (omega (arith, w.0, up), w.1) h)
aims_in end (Do v k i l m r) p to w h =
    let q = past_offset (end_of i (past_offset p)) in
    let up = grows i (past_offset p) in
    let on = grows r q in
    aims_in end i (past_offset p) (aims_of r q to) (omega (arith, w.0), omega (arith, w.1, on))
    (aims_in end r q to (omega (arith, w.0, up), w.1) h)
aims_in end (Leave r) p to w h = aims_in end r (past 1 p) to (omega (arith, w.0), w.1) h
aims_in end (Case i r) p to w h =
    let q = past 1 (end_of i (past 1 p)) in
    let up = grows i (past 1 p) in
    let on = grows r q in
    aims_in end i (past 1 p) (aims_of r q to) (omega (arith, w.0), omega (arith, w.1, on))
    (aims_in end r q to (omega (arith, w.0, up), w.1) h)
aims_in end (Of k i m r) p to w h =
    let q = past_offset (end_of i (past_offset p)) in
    let up = grows i (past_offset p) in
    let on = grows r q in
    aims_in end i (past_offset p) (aims_of r q to) (omega (arith, w.0), omega (arith, w.1, on))
    (aims_in end r q to (omega (arith, w.0, up), w.1) h)

-- ---- where all tokens lead

written_in : (end : ℕ) (x : Nest) (a : Around) (floor d : ℕ) (p : Place) (to : List ℕ) (out : ℕ) (ws : List Written)
    → Fits x a floor d → length to ≡ open_behind x d → Within end x p → AllInRange end to
    → (a.cases ≡ true → InRange end out) → AreInRange end ws → AreInRange end (written x p to out ws)
written_in end Stop a floor d p to out ws f e w h o g = g
written_in end (Plain t r) a floor d p to out ws f e w h o g =
    (tt, written_in end r a floor d (behind t p) to out ws f e (omega (arith, w.0), w.1) h o g)
written_in end (Definition m i r) a floor d p to out ws f e w h o g =
    let b = past 1 (behind (maker_token m) p) in
    let q = past 1 (end_of i b) in
    let up = grows i b in
    let on = grows r q in
    let there : Within end r q = (omega (arith, w.0, up), w.1) in
    let rest = written_in end r a floor d q to out ws f.3 e there h o g in
    let n = many r a floor d q to f.3 e ∙ sym f.2 in (
      tt,
      (
        tt,
        written_in end i _ d d b (aims_of r q to) out _ f.1 n (omega (arith, w.0), omega (arith, w.1, on))
            (aims_in end r q to there h) (λ c. absurd (false≢true c)) (tt, rest),
      ),
    )
written_in end (Defining m t r) a floor d p to out ws f e w h o g =
    let q = behind (call t) (behind (maker_token m) p) in
    (tt, (tt, written_in end r a floor d q to out ws f.1 e (omega (arith, w.0), w.1) h o g))
written_in end (If l r) a floor d p to out ws f e w h o g =
    let q = past_offset p in
    let there : Within end r q = (omega (arith, w.0), w.1) in
    let n = many r a floor (d + 1) q to f e in (
      first_in end (aims_of r q to) (omega (arith, n)) (aims_in end r q to there h),
      written_in end r a floor (d + 1) q to out ws f e there h o g,
    )
written_in end (Else l r) a floor d p to out ws f e w h o g =
    let q = past 1 (past_offset p) in
    let there : Within end r q = (omega (arith, w.0), w.1) in
    let n = many r a floor d q to f.1 e in (
      first_in end (aims_of r q to) (omega (arith, n, f.0)) (aims_in end r q to there h),
      (tt, written_in end r a floor d q to out ws f.1 e there h o g),
    )
written_in end (Then r) a floor d p to out ws f e w h o g =
    (tt, written_in end r a floor (d - 1) (past 1 p) to out ws f.1 e (omega (arith, w.0), w.1) h o g)
written_in end (Begin i z l r) a floor d p to out ws f e w h o g =
    let q = past_offset (end_of i (past 1 p)) in
    let up = grows i (past 1 p) in
    let on = grows r q in
    let there : Within end r q = (omega (arith, w.0, up), w.1) in
    let rest = written_in end r a floor (open_behind i d) q to out ws f.1 e there h o g in
    let n = many r a floor (open_behind i d) q to f.1 e in (
      tt,
      written_in end i _ d d (past 1 p) (aims_of r q to) out _ f.0 n (omega (arith, w.0), omega (arith, w.1, on))
          (aims_in end r q to there h) (λ c. absurd (false≢true c))
          ((omega (arith, w.0), omega (arith, w.1, up, on)), rest),
    )
written_in end (Do v k i l m r) a floor d p to out ws f e w h o g =
    let q = past_offset (end_of i (past_offset p)) in
    let up = grows i (past_offset p) in
    let on = grows r q in
    let there : Within end r q = (omega (arith, w.0, up), w.1) in
    let rest = written_in end r a floor d q to out ws f.2 e there h o g in
    let n = many r a floor d q to f.2 e ∙ sym f.1 in (
      (omega (arith, w.0, up), omega (arith, w.1, on)),
      written_in end i _ d d (past_offset p) (aims_of r q to) q.position _ f.0 n
          (omega (arith, w.0), omega (arith, w.1, on)) (aims_in end r q to there h) (λ c. absurd (false≢true c))
          ((omega (arith, w.0), omega (arith, w.1, up, on)), rest),
    )
written_in end (Leave r) a floor d p to out ws f e w h o g =
    (tt, written_in end r a floor d (past 1 p) to out ws f.1 e (omega (arith, w.0), w.1) h o g)
written_in end (Case i r) a floor d p to out ws f e w h o g =
    let q = past 1 (end_of i (past 1 p)) in
    let up = grows i (past 1 p) in
    let on = grows r q in
    let there : Within end r q = (omega (arith, w.0, up), w.1) in
    let rest = written_in end r a floor d q to out ws f.2 e there h o g in
    let n = many r a floor d q to f.2 e ∙ sym f.1 in (
      tt,
      written_in end i _ d d (past 1 p) (aims_of r q to) q.position _ f.0 n (omega (arith, w.0), omega (arith, w.1, on))
          (aims_in end r q to there h) (λ c. (omega (arith, w.0, up), omega (arith, w.1, on))) (tt, rest),
    )
written_in end (Of k i m r) a floor d p to out ws f e w h o g =
    let q = past_offset (end_of i (past_offset p)) in
    let up = grows i (past_offset p) in
    let on = grows r q in
    let there : Within end r q = (omega (arith, w.0, up), w.1) in
    let rest = written_in end r a floor d q to out ws f.4 e there h o g in
    let n = many r a floor d q to f.4 e ∙ sym f.3 in (
      (omega (arith, w.0, up), omega (arith, w.1, on)),
      written_in end i _ d d (past_offset p) (aims_of r q to) q.position _ f.2 n
          (omega (arith, w.0), omega (arith, w.1, on)) (aims_in end r q to there h) (λ c. absurd (false≢true c))
          (o f.0, rest),
    )

pub tokens_in_range : (size : OffsetSize) (x : Nest) → IsWhole x
    → AreInRange ((end_of x (first_place size)).position + 1) (tokens_of size x)
unfolding tokens_of
tokens_in_range size x w =
    let p = first_place size in
    written_in ((end_of x p).position + 1) x outside 0 0 p [] 0 (straight 0x000 (end_of x p) ∷ []) w.0 (sym w.1)
    (omega arith, omega arith) tt (λ c. absurd (false≢true c)) (tt, tt)
