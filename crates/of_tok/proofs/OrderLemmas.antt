-- The tokens of a source, one behind another, and read from their bytes.
use Rattle.std.proofs.Common.{◌≡◌, ℕ, pos, ◌+◌, ◌-◌, ◌≤◌, Bool, true, false, List, [], ◌∷◌, ◌++◌, length}
use Rattle.std.proofs.Common.{Option, Some, None, Ok, Err, nat_eq, nat_le, nat_lt, if◌then◌else◌, ◌<◌, refl, sym, ap}
use Rattle.std.proofs.Common.{subst, ◌∙◌, arith, append_assoc}
use Rattle.std.specs.Option.{option_map, option_or}
use Rattle.std.proofs.lemmas.Bool.Decides.{nat_tests}
use Rattle.std.proofs.lemmas.List.{length-append, append-nil}
use Rattle.std.proofs.Math.IntN.{+ℤ_comm, -ℤ-+ℤ_cancel}
use Rattle.std.proofs.Math.Seq.{drop-append_seam}
use Rattle.of_stream.specs.declared.stream.OffsetSize.{OffsetSize}
use Rattle.of_stream.specs.Bytes.{IsEncodable, TokensReadBack, is_offset, token_bytes}
use Rattle.of_stream.specs.Decoding.{Token, decoded, token_from}
use Rattle.of_stream.specs.Image.{header_length}
use Rattle.of_stream.specs.Targets.{landing, position_at, target, within_tokens}
use Rattle.of_source.specs.Encodable.{definitions, most_definitions}
use Rattle.of_source.specs.Items.{Item, Source, bare, maker_token}
use Rattle.of_source.specs.Items as item
use Rattle.of_source.specs.Nest.{IsWhole, ItemsGiveNest, Nest, nest_of}
use Rattle.of_tok.specs.declared.fault.TokFault.TheVariants.{TooManyWords, ImageTooLong}
use Rattle.of_tok.specs.declared.place.Place.{Place}
use Rattle.of_tok.specs.declared.written.Aim.{Aim}
use Rattle.of_tok.specs.Image.{AreWritable, IsWritable, bytes_of, first_unfit, header, image_of, most_bytes, tokenized}
use Rattle.of_tok.specs.Image.{unfit, unless_unfit, written_bytes}
use Rattle.of_tok.specs.Laws.{HasTokens, ImageHasTokens, IsAt, Leads}
use Rattle.of_tok.specs.Layout.{Laid, after, item_laid, laid, starts_after}
use Rattle.of_tok.specs.Places.{behind, first_place, past, past_offset}
use Rattle.of_tok.specs.Tokens.{Written, Straight, Aimed, aimed, branch_code, do_code, first, loop_code, offset_of}
use Rattle.of_tok.specs.Tokens.{end_of, size_at, straight, token_of, tokens_of}
use Rattle.of_tok.proofs.AimLemmas.{AreInRange, IsInRange, tokens_in_range}
use Rattle.of_tok.proofs.FollowLemmas.{Goes, passed}
use Rattle.of_tok.proofs.ImageLemmas.{tokens, tokens_writable}
use Rattle.of_tok.proofs.PassLemmas.{tokens_nested}
use Rattle.of_tok.proofs.Placed.{aimed_behind, straight_behind}

-- ---- each token stands behind the one before it

abbrev pub AreInOrder : Place → List Written → Type 0
AreInOrder p [] = Unit {0}
AreInOrder p (w ∷ ws) = IsAt p w × AreInOrder (behind (token_of w) p) ws

one : (code : ℕ) (p : Place) (ws : List Written) → nat_lt code 256 ≡ true → nat_eq code 0x0cc ≡ false
    → AreInOrder (past 1 p) ws → AreInOrder p (straight code p ∷ ws)
one code p ws h k o = (refl, subst (λ (r : Place). AreInOrder r ws) (sym (straight_behind code p h k)) o)

with_offset : (l code : ℕ) (p : Place) (t : ℕ) (ws : List Written) → nat_lt code 256 ≡ true
    → nat_eq code 0x0cc ≡ false → AreInOrder (past_offset p) ws → AreInOrder p (aimed l code p t ∷ ws)
with_offset l code p t ws h k o =
    (refl, subst (λ (r : Place). AreInOrder r ws) (sym (aimed_behind l code p t h k)) o)

branch : (z : Bool) (l : ℕ) (p : Place) (t : ℕ) (ws : List Written) → AreInOrder (past_offset p) ws
    → AreInOrder p (aimed l (branch_code z) p t ∷ ws)
branch true l p t ws o = with_offset l 0x014 p t ws refl refl o
branch false l p t ws o = with_offset l 0x013 p t ws refl refl o

do_token : (v : Bool) (l : ℕ) (p : Place) (t : ℕ) (ws : List Written) → AreInOrder (past_offset p) ws
    → AreInOrder p (aimed l (do_code v) p t ∷ ws)
do_token true l p t ws o = with_offset l 0x018 p t ws refl refl o
do_token false l p t ws o = with_offset l 0x017 p t ws refl refl o

loop_token : (v : Bool) (l : ℕ) (p : Place) (t : ℕ) (ws : List Written) → AreInOrder (past_offset p) ws
    → AreInOrder p (aimed l (loop_code v) p t ∷ ws)
loop_token true l p t ws o = with_offset l 0x016 p t ws refl refl o
loop_token false l p t ws o = with_offset l 0x015 p t ws refl refl o

item_in_order : (i : Item) (p : Place) (start next : ℕ) (q : Laid) → AreInOrder (after i p) q.tokens
    → AreInOrder p (item_laid i p start next q).tokens
item_in_order (item.Plain t) p start next q o = (refl, o)
item_in_order (item.Colon m) p start next q o = (refl, one 0x0b7 (behind (maker_token m) p) q.tokens refl refl o)
item_in_order (item.Defining m t) p start next q o = (refl, (refl, o))
item_in_order item.Semicolon p start next q o = one 0x0c2 p q.tokens refl refl o
item_in_order (item.If l) p start next q o = with_offset l 0x014 p (first q.aims) q.tokens refl refl o
item_in_order (item.Else l) p start next q o =
    with_offset l 0x013 p (first q.aims) (straight 0x0b2 p ∷ q.tokens) refl refl
    (refl, subst (λ (r : Place). AreInOrder r q.tokens) (sym (straight_behind 0x0b2 (past_offset p) refl refl)) o)
item_in_order item.Then p start next q o = one 0x0b2 p q.tokens refl refl o
item_in_order item.Begin p start next q o = one 0x0b1 p q.tokens refl refl o
item_in_order (item.Back z l) p start next q o = branch z l p start q.tokens o
item_in_order (item.Do v l) p start next q o = do_token v l p (first q.ends) q.tokens o
item_in_order (item.Loop v l) p start next q o = loop_token v l p start q.tokens o
item_in_order item.Leave p start next q o = one 0x01b p q.tokens refl refl o
item_in_order item.Case p start next q o = one 0x0c4 p q.tokens refl refl o
item_in_order (item.Of l) p start next q o = with_offset l 0x01c p (first q.ends) q.tokens refl refl o
item_in_order (item.EndOf l) p start next q o = with_offset l 0x0c6 p (first q.ends) q.tokens refl refl o
item_in_order item.EndCase p start next q o = one 0x0c5 p q.tokens refl refl o

all_in_order : (is : List Item) (p : Place) (starts : List ℕ) → AreInOrder p (laid is p starts).tokens
all_in_order [] p starts = (refl, tt)
all_in_order (i ∷ is) p starts =
    item_in_order i p (first starts) (after i p).position (laid is (after i p) (starts_after i p starts))
    (all_in_order is (after i p) (starts_after i p starts))

-- ---- each token is read where its bytes stand

found : TokensReadBack → (before rest : List ℕ) (size : OffsetSize) (t : Token) → IsEncodable size t
    → token_from (before ++ (token_bytes size t ++ rest)) (length before) size
    ≡ Some (t, length (before ++ token_bytes size t))
unfolding token_from
found back before rest size t h =
    let own = token_bytes size t in
    let image = before ++ (own ++ rest) in
    let n : length image - length rest ≡ length (before ++ own) =
    omega (arith, length-append before (own ++ rest), length-append own rest, length-append before own) in
    ap (λ bytes. option_map (λ (r : Token × List ℕ). (r.0, length image - length r.1)) (decoded size bytes))
    (drop-append_seam before (own ++ rest))
    ∙ ap (option_map (λ (r : Token × List ℕ). (r.0, length image - length r.1))) (back.written size t rest h)
    ∙ ap (λ k. Some (t, k)) n

fitting_offset : (b : Bool) (l : ℕ) → (if b then None else Some l) ≡ None → b ≡ true
fitting_offset true l h = refl
fitting_offset false l h = absurd cc

encodable : (w : Written) → IsWritable w → unfit w ≡ None → IsEncodable (size_at w) (token_of w)
encodable (Straight size t) h u = h
encodable (Aimed a) h u = (h.0, sym h.1, fitting_offset (is_offset a.place.size (offset_of a)) a.word u)

at_size : (p : Place) (w : Written) → IsAt p w → size_at w ≡ p.size
at_size p (Straight size t) o = o
at_size p (Aimed a) o = ap (λ (q : Place). q.size) o

-- an offset that counts to its target leads there, where that is behind the header and before the end
lands : (end : ℕ) (a : Aim) → header_length ≤ a.target → a.target < end
    → landing end a.place.position (offset_of a) ≡ Some a.target
lands end a from to =
    let there : target a.place.position (offset_of a) ≡ pos a.target =
    +ℤ_comm (pos (a.place.position + 1)) (offset_of a) ∙ -ℤ-+ℤ_cancel (pos a.target) (pos (a.place.position + 1)) in
    let low : nat_le header_length a.target ≡ true = grind (arith, nat_tests, from) in
    let high : nat_lt a.target end ≡ true = grind (arith, nat_tests, to) in
    ap (λ t. within_tokens end (position_at t)) there ∙ rw (low, high) refl

leads : (end : ℕ) (w : Written) → IsInRange end w → Leads end w
leads end (Straight size t) h = tt
leads end (Aimed a) h = lands end a h.0 h.1

both_fit : (o r : Option ℕ) → option_or o r ≡ None → (o ≡ None) × (r ≡ None)
both_fit None r h = (refl, h)
both_fit (Some l) r h = absurd cc

pub has_tokens : TokensReadBack → (image before : List ℕ) (p : Place) (ws : List Written)
    → image ≡ before ++ bytes_of ws → length before ≡ p.position → AreInOrder p ws → AreWritable ws
    → first_unfit ws ≡ None → AreInRange (length image) ws → HasTokens image p ws
has_tokens back image before p [] i l o h u r = sym l ∙ ap length (sym (append-nil before) ∙ sym i)
has_tokens back image before p (w ∷ ws) i l o h u r =
    let f = both_fit (unfit w) (first_unfit ws) u in
    let s = at_size p w o.0 in
    let own = token_bytes p.size (token_of w) in
    let e : IsEncodable p.size (token_of w) =
    subst (λ z. IsEncodable z (token_of w)) s (encodable w h.0 f.0) in
    let b : written_bytes w ≡ own = ap (λ z. token_bytes z (token_of w)) s in
    let q = behind (token_of w) p in
    let n : length (before ++ own) ≡ q.position = length-append before own ∙ ap (λ k. k + length own) l in
    let parts : image ≡ before ++ (own ++ bytes_of ws) = i ∙ ap (λ bytes. before ++ (bytes ++ bytes_of ws)) b in
    let on : image ≡ (before ++ own) ++ bytes_of ws = parts ∙ sym (append_assoc before own (bytes_of ws)) in
    let t : token_from image p.position p.size ≡ Some (token_of w, q.position) =
    ap (λ bytes. token_from bytes p.position p.size) parts
    ∙ ap (λ k. token_from (before ++ (own ++ bytes_of ws)) k p.size) (sym l)
    ∙ found back before (bytes_of ws) p.size (token_of w) e
    ∙ ap (λ k. Some (token_of w, k)) n in
    (o.0, t, leads (length image) w r.0, has_tokens back image (before ++ own) q ws on n o.1 h.1 f.1 r.1)

-- ---- how long the tokens of a nest are

-- tokens in order from a place on, the last of which ends at a position
abbrev EndAt : ℕ → Place → List Written → Type 0
EndAt end p ws = AreInOrder p ws × (p.position + length (bytes_of ws) ≡ end)

ends_on : (end : ℕ) → Goes (EndAt end)
ends_on end p w ws h =
    let own = token_bytes p.size (token_of w) in
    let b : written_bytes w ≡ own = ap (λ z. token_bytes z (token_of w)) (at_size p w h.0.0) in
    let n : length (written_bytes w ++ bytes_of ws) ≡ length own + length (bytes_of ws) =
    length-append (written_bytes w) (bytes_of ws) ∙ ap (λ bytes. length bytes + length (bytes_of ws)) b in
    (h.0.1, omega (arith, h.1, n))

-- ---- the image of a source

pub accepted_is : (size : OffsetSize) (count : ℕ) (ws : List Written) (image : List ℕ)
    → image_of size count ws ≡ Ok image
    → (count ≤ most_definitions) × (first_unfit ws ≡ None) × (image ≡ header size (bytes_of ws) ++ bytes_of ws)
accepted_is size count ws image h =
    pick (nat_lt most_definitions count) (nat_lt most_bytes (8 + length (bytes_of ws))) (first_unfit ws) refl refl h
  where
    pick : (a b : Bool) (o : Option ℕ) → nat_lt most_definitions count ≡ a → first_unfit ws ≡ o
        → (if a then Err TooManyWords else if b then Err ImageTooLong else
        unless_unfit o (header size (bytes_of ws) ++ bytes_of ws)) ≡ Ok image
        → (count ≤ most_definitions) × (first_unfit ws ≡ None) × (image ≡ header size (bytes_of ws) ++ bytes_of ws)
    pick true b o s t h = absurd cc
    pick false true o s t h = absurd cc
    pick false false (Some l) s t h = absurd cc
    pick false false None s t h =
        let q : header size (bytes_of ws) ++ bytes_of ws ≡ image = cc in
        (grind (arith, nat_tests, s), t, sym q)

-- the tokens of a source end one byte, that of `end0`, behind its nest
whole_length : (size : OffsetSize) (x : Nest) → AreInOrder (first_place size) (tokens_of size x)
    → (end_of x (first_place size)).position + 1 ≡ header_length + length (bytes_of (tokens_of size x))
unfolding tokens_of token_bytes
whole_length size x o =
    let p = first_place size in
    let last = straight 0x000 (end_of x p) in
    let end = header_length + length (bytes_of (tokens_of size x)) in
    let h = passed (EndAt end) (ends_on end) x p [] 0 (last ∷ []) (o, refl) in
    h.1

pub image_has_tokens : ItemsGiveNest → TokensReadBack → ImageHasTokens
unfolding tokenized
image_has_tokens give back s image n b e =
    let a = accepted_is s.size (definitions s.items) (tokens s) image e in
    let p = first_place s.size in
    let o = subst (AreInOrder p) (tokens_nested give s.size s.items n) (all_in_order s.items p []) in
    let w = tokens_writable s (tokens s) give n b a.0 refl in
    let before = header s.size (bytes_of (tokens s)) in
    let long : length image ≡ header_length + length (bytes_of (tokens s)) =
    ap length a.2 ∙ length-append before (bytes_of (tokens s)) in
    let end : (end_of (nest_of s.items) p).position + 1 ≡ length image =
    whole_length s.size (nest_of s.items) o ∙ sym long in
    let whole : IsWhole (nest_of s.items) = subst IsWhole (sym (ap nest_of n.1 ∙ give n.0)) n.2 in
    let r = subst (λ k. AreInRange k (tokens s)) end (tokens_in_range s.size (nest_of s.items) whole) in
    has_tokens back image before p (tokens s) a.2 refl o w a.1 r
