-- The tokens of the items of a nest, with other items behind it.
use Rattle.std.proofs.Common.{◌≡◌, ℕ, List, [], ◌∷◌, refl, ap, sym, ◌∙◌}
use Rattle.of_fcodes.specs.declared.codes.FCode.{FCode}
use Rattle.of_stream.specs.declared.stream.OffsetSize.{OffsetSize}
use Rattle.of_source.specs.Items.{Item, Made, call, maker_token}
use Rattle.of_source.specs.Items as item
use Rattle.of_source.specs.Nest.{Nest, Stop, Plain, Definition, Defining, If, Else, Then, Begin, Do, Leave, Case, Of}
use Rattle.of_source.specs.Nest.{IsNested, ItemsGiveNest, items_of, nest_of}
use Rattle.of_tok.specs.declared.place.Place.{Place}
use Rattle.of_tok.specs.Places.{behind, first_place, past, past_offset}
use Rattle.of_tok.specs.Tokens.{Straight, straight, aimed, first, branch_code, do_code, loop_code, end_of, aims_of}
use Rattle.of_tok.specs.Tokens.{written, tokens_of}
use Rattle.of_tok.specs.Layout.{Laid, putting, closing, ending, without_aim, without_end, laid}

-- a nest before what is laid out behind it
abbrev pub before : Nest → Place → Laid → Laid
before x p q = record { aims = aims_of x p q.aims; ends = q.ends; tokens = written x p q.aims (first q.ends) q.tokens }

abbrev pub if_laid : ℕ → Place → Laid → Laid
if_laid l p q = putting (aimed l 0x014 p (first q.aims)) (without_aim q)

abbrev pub else_laid : ℕ → Place → Laid → Laid
else_laid l p q =
    putting (aimed l 0x013 p (first q.aims))
    (putting (straight 0x0b2 p) (closing (past 1 (past_offset p)).position (without_aim q)))

abbrev pub colon_laid : Made → Place → Laid → Laid
colon_laid m p q = putting (Straight p.size (maker_token m)) (putting (straight 0x0b7 (behind (maker_token m) p)) q)

abbrev pub defining_laid : Made → FCode → Place → Laid → Laid
defining_laid m t p q =
    putting (Straight p.size (maker_token m)) (putting (Straight (behind (maker_token m) p).size (call t)) q)

abbrev pub do_laid : ℕ → ℕ → Place → Laid → Laid
do_laid l code p q = putting (aimed l code p (first q.ends)) (without_end q)

pub laid-items_of : (x : Nest) (more : List Item) (p : Place) (starts : List ℕ)
    → laid (items_of x more) p starts ≡ before x p (laid more (end_of x p) starts)
laid-items_of Stop more p starts = refl
laid-items_of (Plain t r) more p starts = ap (putting (Straight p.size t)) (laid-items_of r more (behind t p) starts)
laid-items_of (If l r) more p starts = ap (if_laid l p) (laid-items_of r more (past_offset p) starts)
laid-items_of (Else l r) more p starts = ap (else_laid l p) (laid-items_of r more (past 1 (past_offset p)) starts)
laid-items_of (Then r) more p starts =
    ap (λ q. putting (straight 0x0b2 p) (closing (past 1 p).position q)) (laid-items_of r more (past 1 p) starts)
laid-items_of (Leave r) more p starts = ap (putting (straight 0x01b p)) (laid-items_of r more (past 1 p) starts)
laid-items_of (Definition m i r) more p starts =
    let b = past 1 (behind (maker_token m) p) in
    let e = end_of i b in
    ap (colon_laid m p) (laid-items_of i (item.Semicolon ∷ items_of r more) b starts)
    ∙ ap (λ q. colon_laid m p (before i b (putting (straight 0x0c2 e) q))) (laid-items_of r more (past 1 e) starts)
laid-items_of (Defining m t r) more p starts =
    ap (defining_laid m t p) (laid-items_of r more (behind (call t) (behind (maker_token m) p)) starts)
laid-items_of (Begin i z l r) more p starts =
    let e = end_of i (past 1 p) in
    let here = (past 1 p).position in
    ap (putting (straight 0x0b1 p)) (laid-items_of i (item.Back z l ∷ items_of r more) (past 1 p) (here ∷ starts))
    ∙ ap (λ q. putting (straight 0x0b1 p) (before i (past 1 p) (putting (aimed l (branch_code z) e here) q)))
    (laid-items_of r more (past_offset e) starts)
laid-items_of (Do v k i l m r) more p starts =
    let e = end_of i (past_offset p) in
    let here = (past_offset p).position in
    ap (do_laid k (do_code v) p) (laid-items_of i (item.Loop l m ∷ items_of r more) (past_offset p) (here ∷ starts))
    ∙ ap (λ q. do_laid k (do_code v) p (before i (past_offset p)
    (putting (aimed m (loop_code l) e here) (ending (past_offset e).position q))))
    (laid-items_of r more (past_offset e) starts)
laid-items_of (Case i r) more p starts =
    let e = end_of i (past 1 p) in
    ap (λ q. putting (straight 0x0c4 p) (without_end q))
    (laid-items_of i (item.EndCase ∷ items_of r more) (past 1 p) starts)
    ∙ ap (λ q. putting (straight 0x0c4 p) (without_end (before i (past 1 p)
    (putting (straight 0x0c5 e) (ending (past 1 e).position q)))))
    (laid-items_of r more (past 1 e) starts)
laid-items_of (Of k i m r) more p starts =
    let e = end_of i (past_offset p) in
    ap (do_laid k 0x01c p) (laid-items_of i (item.EndOf m ∷ items_of r more) (past_offset p) starts)
    ∙ ap (λ q. do_laid k 0x01c p (before i (past_offset p)
    (putting (aimed m 0x0c6 e (first q.ends)) (ending (past_offset e).position q))))
    (laid-items_of r more (past_offset e) starts)

pub tokens_laid : (size : OffsetSize) (x : Nest)
    → (laid (items_of x []) (first_place size) []).tokens ≡ tokens_of size x
unfolding tokens_of
tokens_laid size x = ap (λ (q : Laid). q.tokens) (laid-items_of x [] (first_place size) [])

-- the tokens of items that are those of a nest
pub tokens_nested : ItemsGiveNest → (size : OffsetSize) (items : List Item) → IsNested items
    → (laid items (first_place size) []).tokens ≡ tokens_of size (nest_of items)
tokens_nested give size items h =
    ap (λ is. (laid is (first_place size) []).tokens) h.1
    ∙ tokens_laid size h.0
    ∙ ap (tokens_of size) (sym (give h.0))
    ∙ ap (λ is. tokens_of size (nest_of is)) (sym h.1)
