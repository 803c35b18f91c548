-- The tokens of a nest of words, with their places (IEEE 1275-1994, 5.3.3). A branch leads behind its resolve, or
-- behind a mark; a loop, an `of` and a `do` lead behind the operand of their partner, an `endof` behind `endcase`.
use Rattle.std.specs.Prelude.{ℕ, ◌+◌, ℤ, pos, ◌-ℤ◌, Bool, true, false, List, [], ◌∷◌}
use Rattle.of_stream.specs.declared.stream.OffsetSize.{OffsetSize}
use Rattle.of_stream.specs.Decoding.{Offset, Token}
use Rattle.of_source.specs.Keywords.{fcode}
use Rattle.of_source.specs.Items.{bare, call, maker_token}
use Rattle.of_source.specs.Nest.{Nest, Stop, Plain, Definition, Defining, If, Else, Then, Begin, Do, Leave, Case, Of}
use Rattle.of_tok.specs.declared.place.Place.{Place}
use Rattle.of_tok.specs.declared.written.Aim.{Aim}
use Rattle.of_tok.specs.Places.{behind, first_place, past, past_offset}

-- a token as it is written: without an offset, under the size that offsets have there, or with one
pub data Written : Type 0 where
  Straight : OffsetSize → Token → Written
  Aimed : Aim → Written

-- an offset counts from its own first byte, which stands behind an FCode of one byte
abbrev pub offset_of : Aim → ℤ
offset_of a = pos a.target -ℤ pos (a.place.position + 1)

-- the token that is written
abbrev pub token_of : Written → Token
token_of (Straight size t) = t
token_of (Aimed a) = record { code = a.code; argument = Offset (offset_of a) }

-- the size that offsets have at it
abbrev pub size_at : Written → OffsetSize
size_at (Straight size t) = size
size_at (Aimed a) = a.place.size

-- the token of an FCode alone at a place
abbrev pub straight : ℕ → Place → Written
straight code p = Straight p.size (bare code)

-- the token of an FCode at a place whose offset leads to a position, for the word at a position of the text
abbrev pub aimed : ℕ → ℕ → Place → ℕ → Written
aimed word code p target = Aimed (record { word = word; place = p; code = fcode code; target = target })

-- `b?branch` or `bbranch`
abbrev pub branch_code : Bool → ℕ
branch_code true = 0x014
branch_code false = 0x013

-- `b(?do)` or `b(do)`
abbrev pub do_code : Bool → ℕ
do_code true = 0x018
do_code false = 0x017

-- `b(+loop)` or `b(loop)`
abbrev pub loop_code : Bool → ℕ
loop_code true = 0x016
loop_code false = 0x015

-- the first of a list of positions, the latest first
abbrev pub first : List ℕ → ℕ
first [] = 0
first (x ∷ xs) = x

-- the others
abbrev pub others : List ℕ → List ℕ
others [] = []
others (x ∷ xs) = xs

-- behind a nest
abbrev pub end_of : Nest → Place → Place
end_of Stop p = p
end_of (Plain t r) p = end_of r (behind t p)
end_of (Definition m i r) p = end_of r (past 1 (end_of i (past 1 (behind (maker_token m) p))))
end_of (Defining m t r) p = end_of r (behind (call t) (behind (maker_token m) p))
end_of (If l r) p = end_of r (past_offset p)
end_of (Else l r) p = end_of r (past 1 (past_offset p))
end_of (Then r) p = end_of r (past 1 p)
end_of (Begin i z l r) p = end_of r (past_offset (end_of i (past 1 p)))
end_of (Do q k i l m r) p = end_of r (past_offset (end_of i (past_offset p)))
end_of (Leave r) p = end_of r (past 1 p)
end_of (Case i r) p = end_of r (past 1 (end_of i (past 1 p)))
end_of (Of k i m r) p = end_of r (past_offset (end_of i (past_offset p)))

-- Where the branches lead that are open before a nest, latest first, given where those lead that are open behind it:
-- one that is closed there leads behind the word that closes it.
abbrev pub aims_of : Nest → Place → List ℕ → List ℕ
aims_of Stop p to = to
aims_of (Plain t r) p to = aims_of r (behind t p) to
aims_of (Definition m i r) p to =
    let b = past 1 (behind (maker_token m) p) in
    aims_of i b (aims_of r (past 1 (end_of i b)) to)
aims_of (Defining m t r) p to = aims_of r (behind (call t) (behind (maker_token m) p)) to
aims_of (If l r) p to = others (aims_of r (past_offset p) to)
aims_of (Else l r) p to =
    (past 1 (past_offset p)).position ∷ others (aims_of r (past 1 (past_offset p)) to)
aims_of (Then r) p to = (past 1 p).position ∷ aims_of r (past 1 p) to
aims_of (Begin i z l r) p to = aims_of i (past 1 p) (aims_of r (past_offset (end_of i (past 1 p))) to)
aims_of (Do v k i l m r) p to =
    aims_of i (past_offset p) (aims_of r (past_offset (end_of i (past_offset p))) to)
aims_of (Leave r) p to = aims_of r (past 1 p) to
aims_of (Case i r) p to = aims_of i (past 1 p) (aims_of r (past 1 (end_of i (past 1 p))) to)
aims_of (Of k i m r) p to = aims_of i (past_offset p) (aims_of r (past_offset (end_of i (past_offset p))) to)

-- The tokens of a nest at a place, and then these, given where the branches lead that are open behind it, and where
-- the innermost loop, case or part of a case around it ends.
abbrev pub written : Nest → Place → List ℕ → ℕ → List Written → List Written
written Stop p to out ws = ws
written (Plain t r) p to out ws = Straight p.size t ∷ written r (behind t p) to out ws
written (Definition m i r) p to out ws =
    let c = behind (maker_token m) p in
    let b = past 1 c in
    let e = end_of i b in
    let q = past 1 e in
    Straight p.size (maker_token m) ∷ straight 0x0b7 c
    ∷ written i b (aims_of r q to) out (straight 0x0c2 e ∷ written r q to out ws)
written (Defining m t r) p to out ws =
    let c = behind (maker_token m) p in
    Straight p.size (maker_token m) ∷ Straight c.size (call t) ∷ written r (behind (call t) c) to out ws
written (If l r) p to out ws =
    aimed l 0x014 p (first (aims_of r (past_offset p) to)) ∷ written r (past_offset p) to out ws
written (Else l r) p to out ws =
    let q = past 1 (past_offset p) in
    aimed l 0x013 p (first (aims_of r q to)) ∷ straight 0x0b2 (past_offset p) ∷ written r q to out ws
written (Then r) p to out ws = straight 0x0b2 p ∷ written r (past 1 p) to out ws
written (Begin i z l r) p to out ws =
    let e = end_of i (past 1 p) in
    let q = past_offset e in
    straight 0x0b1 p ∷ written i (past 1 p) (aims_of r q to) out
    (aimed l (branch_code z) e (past 1 p).position ∷ written r q to out ws)
written (Do v k i l m r) p to out ws =
    let e = end_of i (past_offset p) in
    let q = past_offset e in
    aimed k (do_code v) p q.position ∷ written i (past_offset p) (aims_of r q to) q.position
    (aimed m (loop_code l) e (past_offset p).position ∷ written r q to out ws)
written (Leave r) p to out ws = straight 0x01b p ∷ written r (past 1 p) to out ws
written (Case i r) p to out ws =
    let e = end_of i (past 1 p) in
    let q = past 1 e in
    straight 0x0c4 p ∷ written i (past 1 p) (aims_of r q to) q.position
    (straight 0x0c5 e ∷ written r q to out ws)
written (Of k i m r) p to out ws =
    let e = end_of i (past_offset p) in
    let q = past_offset e in
    aimed k 0x01c p q.position ∷ written i (past_offset p) (aims_of r q to) q.position
    (aimed m 0x0c6 e out ∷ written r q to out ws)

-- the tokens of a whole source, `end0` the last
unfoldable pub tokens_of : OffsetSize → Nest → List Written
tokens_of size x =
    written x (first_place size) [] 0 (straight 0x000 (end_of x (first_place size)) ∷ [])
