-- The tokens of a source are those of its items.
use Rattle.std.proofs.Common.{◌≡◌, ℕ, zero, suc, ◌+◌, List, [], ◌∷◌, ◌++◌, length, map, refl, sym, ap, ◌∙◌, arith}
use Rattle.std.proofs.lemmas.List.{append_assoc, length-append}
use Rattle.std.specs.List.{flat_map}
use Rattle.of_fcodes.specs.declared.codes.FCode.{FCode}
use Rattle.of_stream.specs.declared.stream.OffsetSize.{OffsetSize}
use Rattle.of_source.specs.Items.{Item}
use Rattle.of_source.specs.Items as item
use Rattle.of_source.specs.Keywords.{fcode}
use Rattle.of_source.specs.Nest.{IsNested, ItemsGiveNest, nest_of}
use Rattle.of_source.specs.Positions.{given_at}
use Rattle.of_tok.specs.declared.place.Place.{Place}
use Rattle.of_tok.specs.Layout.{Laid, after, end_place, item_laid, laid_end, laid_over, placed, starts_after}
use Rattle.of_tok.specs.Origins.{TokensHaveOrigins, image_origins, item_codes, origins}
use Rattle.of_tok.specs.Places.{first_place}
use Rattle.of_tok.specs.Tokens.{Written, token_of, tokens_of}
use Rattle.of_tok.proofs.PassLemmas.{tokens_nested}

abbrev codes : List Written → List FCode
codes ws = map (λ w. (token_of w).code) ws

-- an item puts its own tokens in front
item_first : (i : Item) (p : Place) (start next : ℕ) (q : Laid)
    → codes (item_laid i p start next q).tokens ≡ item_codes i ++ codes q.tokens
item_first (item.Plain t) p start next q = refl
item_first (item.Colon m) p start next q = refl
item_first (item.Defining m t) p start next q = refl
item_first item.Semicolon p start next q = refl
item_first (item.If l) p start next q = refl
item_first (item.Else l) p start next q = refl
item_first item.Then p start next q = refl
item_first item.Begin p start next q = refl
item_first (item.Back z l) p start next q = refl
item_first (item.Do v l) p start next q = refl
item_first (item.Loop v l) p start next q = refl
item_first item.Leave p start next q = refl
item_first item.Case p start next q = refl
item_first (item.Of l) p start next q = refl
item_first (item.EndOf l) p start next q = refl
item_first item.EndCase p start next q = refl

all_first : (is : List Item) (p : Place) (starts : List ℕ) (q : Laid)
    → codes (laid_over (placed is p starts) q).tokens ≡ flat_map item_codes is ++ codes q.tokens
all_first [] p starts q = refl
all_first (i ∷ is) p starts q =
    item_first i p _ _ (laid_over (placed is (after i p) (starts_after i p starts)) q)
    ∙ ap (λ cs. item_codes i ++ cs) (all_first is (after i p) (starts_after i p starts) q)
    ∙ sym (append_assoc (item_codes i) (flat_map item_codes is) (codes q.tokens))

items_first : ItemsGiveNest → (size : OffsetSize) (items : List Item) → IsNested items
    → codes (tokens_of size (nest_of items)) ≡ flat_map item_codes items ++ fcode 0x000 ∷ []
items_first give size items nested =
    ap codes (sym (tokens_nested give size items nested))
    ∙ all_first items (first_place size) [] (laid_end (end_place items (first_place size)))

-- ---- as many places as tokens

given_length : (n at : ℕ) → length (given_at n at) ≡ n
given_length zero at = refl
given_length (suc n) at = ap suc (given_length n at)

origins_counted : (items : List Item) (places : List ℕ) → length places ≡ length items + 1
    → length (origins items places) ≡ length (flat_map item_codes items) + 1
origins_counted [] [] h = absurd (omega (arith, h))
origins_counted [] (p ∷ ps) h = refl
origins_counted (i ∷ is) [] h = absurd (omega (arith, h))
origins_counted (i ∷ is) (p ∷ ps) h =
    let a = length-append (given_at (length (item_codes i)) p) (origins is ps) in
    let b = length-append (item_codes i) (flat_map item_codes is) in
    let g = given_length (length (item_codes i)) p in
    let rest = origins_counted is ps (omega (arith, h)) in
    omega (arith, a, b, g, rest)

image_counted : (items : List Item) (places : List ℕ) → length places ≡ length items + 2
    → length (image_origins items places) ≡ length (flat_map item_codes items) + 2
image_counted items [] h = absurd (omega (arith, h))
image_counted items (p ∷ ps) h =
    let rest = origins_counted items ps (omega (arith, h)) in omega (arith, rest)

pub tokens_have_origins : ItemsGiveNest → TokensHaveOrigins
tokens_have_origins give = record { codes = items_first give; counted = image_counted }
