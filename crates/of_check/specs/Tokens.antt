-- The tokens of an image in their order (IEEE 1275-1994, 5.2.2).
use Rattle.std.specs.Prelude.{◌≡◌, ℕ, zero, suc, ◌≤◌, List, [], ◌∷◌, length, Option, Some, None, if◌then◌else◌}
use Rattle.of_stream.specs.declared.stream.OffsetSize.{OffsetSize}
use Rattle.of_stream.specs.Decoding.{Token, token_from}
use Rattle.of_stream.specs.Image.{first_size, header_length}
use Rattle.of_stream.specs.Sizes.{is_end, size_behind}

-- a token, and where it stands
pub record Standing : Type 0 where
  pub position : ℕ
  pub token : Token

-- the tokens up to the end token, or up to a position at which none can be read
pub record Tokens : Type 0 where
  pub tokens : List Standing
  pub unread : Option ℕ

-- no more tokens: behind the end token, or where none can be read
abbrev pub no_more : Option ℕ → Tokens
no_more unread = record { tokens = []; unread = unread }

-- a token, and then others
abbrev pub token_before : Standing → Tokens → Tokens
token_before s r = record { tokens = s ∷ r.tokens; unread = r.unread }

-- The tokens from a position on, by the one that is read there.
abbrev pub tokens_by : ℕ → OffsetSize → Option (Token × ℕ) → (ℕ → OffsetSize → Tokens) → Tokens
tokens_by position size None next = no_more (Some position)
tokens_by position size (Some r) next =
    token_before (record { position = position; token = r.0 })
    (if is_end r.0.code.0 then no_more None else next r.1 (size_behind r.0.code.0 size))

-- the tokens from a position on, of which there are n at most
abbrev pub tokens_from : List ℕ → ℕ → ℕ → OffsetSize → Tokens
tokens_from image zero position size = no_more (Some position)
tokens_from image (suc more) position size =
    tokens_by position size (token_from image position size) (tokens_from image more)

-- the tokens of an image; each has a byte at least, so there are no more tokens than bytes
abbrev pub tokens_of : List ℕ → Tokens
tokens_of image = tokens_from image (length image) header_length (first_size image)

-- the bound on the number of tokens cuts nothing: a larger one gives the same tokens
abbrev pub BoundCutsNothing : Type 0
BoundCutsNothing =
    (image : List ℕ) (n : ℕ) → length image ≤ n
    → tokens_from image n header_length (first_size image) ≡ tokens_of image
