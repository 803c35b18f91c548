-- The image of a source has the tokens of its nest, as they are decoded, and their offsets lead where they are to lead.
use Rattle.std.specs.Prelude.{◌≡◌, ℕ, ◌%◌, List, [], ◌∷◌, length, drop, slice_index, None, Some, Ok}
use Rattle.std.specs.List.{sum}
use Rattle.byteorder.specs.Endian.{big_number}
use Rattle.of_stream.specs.declared.stream.OffsetSize.{OffsetSize}
use Rattle.of_stream.specs.Decoding.{token_from}
use Rattle.of_stream.specs.Image.{first_size, header_fault}
use Rattle.of_stream.specs.Targets.{landing}
use Rattle.of_source.specs.Encodable.{AreEncodable}
use Rattle.of_source.specs.Items.{Source}
use Rattle.of_source.specs.Nest.{IsNested, Nest, nest_of}
use Rattle.of_tok.specs.Image.{tokenized}
use Rattle.of_tok.specs.Places.{behind, first_place}
use Rattle.of_tok.specs.declared.place.Place.{Place}
use Rattle.of_tok.specs.Tokens.{Written, Straight, Aimed, end_of, offset_of, token_of, tokens_of, written}

-- a token was made for this place
abbrev pub IsAt : Place → Written → Type 0
IsAt p (Straight size t) = size ≡ p.size
IsAt p (Aimed a) = a.place ≡ p

-- the offset of a token leads to its target, behind the header of an image of so many bytes and before its end
abbrev pub Leads : ℕ → Written → Type 0
Leads end (Straight size t) = Unit {0}
Leads end (Aimed a) = landing end a.place.position (offset_of a) ≡ Some a.target

-- these tokens stand in an image from a place to its end, each at the place that it was made for, and read as they were
-- written; each offset leads to its target
abbrev pub HasTokens : List ℕ → Place → List Written → Type 0
HasTokens image p [] = p.position ≡ length image
HasTokens image p (w ∷ ws) =
    IsAt p w × (token_from image p.position p.size ≡ Some (token_of w, (behind (token_of w) p).position))
    × Leads (length image) w × HasTokens image (behind (token_of w) p) ws

-- the image of a source has the tokens of its nest behind the header, and no others
abbrev pub ImageHasTokens : Type 0
ImageHasTokens =
    (s : Source) (image : List ℕ) → IsNested s.items → AreEncodable s.items → tokenized s ≡ Ok image
    → HasTokens image (first_place s.size) (tokens_of s.size (nest_of s.items))

-- Where the tokens of a nest stand in an image, with others behind them, those stand at the end of the nest: so the
-- part of a source that a nest is has its own tokens at its own place.
abbrev pub NestsEndAtTheirPlaces : Type 0
NestsEndAtTheirPlaces =
    (image : List ℕ) (x : Nest) (p : Place) (to : List ℕ) (out : ℕ) (ws : List Written)
    → HasTokens image p (written x p to out ws) → HasTokens image (end_of x p) ws

-- The header of an image says the size of its first offsets, format 8, the sum of the bytes behind it modulo 0x10000,
-- and the length of the whole (IEEE 1275-1994, 5.2.2.5).
pub record IsHeaded (size : OffsetSize) (image : List ℕ) : Type 0 where
  pub starts : header_fault image ≡ None
  pub first : first_size image ≡ size
  pub format : slice_index image 1 ≡ 8
  pub summed : big_number 2 (drop 2 image) ≡ sum (drop 8 image) % 0x10000
  pub long : big_number 4 (drop 4 image) ≡ length image

-- so of each source that has an image
abbrev pub HeaderIsTheSum : Type 0
HeaderIsTheSum = (s : Source) (image : List ℕ) → tokenized s ≡ Ok image → IsHeaded s.size image
