-- From which word of a source its image's header and each token come (IEEE 1275-1994, 5.2.2.2, 5.2.2.5, 5.3.3).
use Rattle.std.specs.Prelude.{◌≡◌, ℕ, ◌+◌, List, [], ◌∷◌, ◌++◌, length, map, take}
use Rattle.std.specs.List.{flat_map}
use Rattle.of_fcodes.specs.declared.codes.FCode.{FCode}
use Rattle.of_stream.specs.declared.stream.OffsetSize.{OffsetSize}
use Rattle.of_source.specs.Items.{Item, maker_token}
use Rattle.of_source.specs.Items as item
use Rattle.of_source.specs.Keywords.{fcode}
use Rattle.of_source.specs.Nest.{IsNested, nest_of}
use Rattle.of_source.specs.Positions.{given_at}
use Rattle.of_tok.specs.Tokens.{branch_code, do_code, loop_code, token_of, tokens_of}

-- the FCodes of the tokens that an item becomes
abbrev pub item_codes : Item → List FCode
item_codes (item.Plain t) = t.code ∷ []
item_codes (item.Colon m) = (maker_token m).code ∷ fcode 0x0b7 ∷ []
item_codes (item.Defining m t) = (maker_token m).code ∷ t ∷ []
item_codes item.Semicolon = fcode 0x0c2 ∷ []
item_codes (item.If l) = fcode 0x014 ∷ []
item_codes (item.Else l) = fcode 0x013 ∷ fcode 0x0b2 ∷ []
item_codes item.Then = fcode 0x0b2 ∷ []
item_codes item.Begin = fcode 0x0b1 ∷ []
item_codes (item.Back z l) = fcode (branch_code z) ∷ []
item_codes (item.Do v l) = fcode (do_code v) ∷ []
item_codes (item.Loop v l) = fcode (loop_code v) ∷ []
item_codes item.Leave = fcode 0x01b ∷ []
item_codes item.Case = fcode 0x0c4 ∷ []
item_codes (item.Of l) = fcode 0x01c ∷ []
item_codes (item.EndOf l) = fcode 0x0c6 ∷ []
item_codes item.EndCase = fcode 0x0c5 ∷ []

-- where the tokens of items come from that stand at these places, one each: those of an item from its place, and the
-- last token, `end0`, from the place behind all items
abbrev pub origins : List Item → List ℕ → List ℕ
origins [] places = take 1 places
origins (i ∷ is) [] = []
origins (i ∷ is) (p ∷ ps) = given_at (length (item_codes i)) p ++ origins is ps

-- the same of an image, whose header comes from the word that begins the source
abbrev pub image_origins : List Item → List ℕ → List ℕ
image_origins items [] = []
image_origins items (p ∷ ps) = p ∷ origins items ps

-- The tokens of a source are those of its items, one item behind the other, and `end0`; so the header and each token
-- have one place.
pub record TokensHaveOrigins : Type 0 where
  pub codes : (size : OffsetSize) (items : List Item) → IsNested items
      → map (λ w. (token_of w).code) (tokens_of size (nest_of items)) ≡ flat_map item_codes items ++ fcode 0x000 ∷ []
  pub counted : (items : List Item) (places : List ℕ) → length places ≡ length items + 2
      → length (image_origins items places) ≡ length (flat_map item_codes items) + 2
