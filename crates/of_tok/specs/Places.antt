-- Where the tokens of an image stand (IEEE 1275-1994, 5.2.2).
use Rattle.std.specs.Prelude.{ℕ, ◌+◌, length}
use Rattle.of_stream.specs.declared.stream.OffsetSize.{OffsetSize}
use Rattle.of_stream.specs.Bytes.{token_bytes}
use Rattle.of_stream.specs.Decoding.{Token}
use Rattle.of_stream.specs.Image.{header_length}
use Rattle.of_stream.specs.Sizes.{size_behind, width}
use Rattle.of_tok.specs.declared.place.Place.{Place}

-- the place behind the header
abbrev pub first_place : OffsetSize → Place
first_place size = record { position = header_length; size = size }

-- so many bytes on
abbrev pub past : ℕ → Place → Place
past n p = record { position = p.position + n; size = p.size }

-- behind a token that carries an offset
abbrev pub past_offset : Place → Place
past_offset p = past (1 + width p.size) p

-- behind another token
abbrev pub behind : Token → Place → Place
behind t p = record { position = p.position + length (token_bytes p.size t); size = size_behind t.code.0 p.size }
