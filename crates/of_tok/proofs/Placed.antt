-- Where the token of an FCode of one byte ends.
use Rattle.std.proofs.Common.{◌≡◌, ℕ, ℤ, ◌+◌, suc, length, true, false, nat_eq, nat_lt, refl}
use Rattle.of_stream.specs.declared.stream.OffsetSize.{OffsetSize}
use Rattle.of_stream.specs.declared.stream.OffsetSize.TheVariants.{One, Two}
use Rattle.of_stream.specs.Bytes.{offset_bytes, token_bytes}
use Rattle.of_stream.specs.Sizes.{width}
use Rattle.of_source.specs.Items.{bare}
use Rattle.of_tok.specs.declared.place.Place.{Place}
use Rattle.of_tok.specs.declared.written.Aim.{Aim}
use Rattle.of_tok.specs.Places.{behind, past, past_offset}
use Rattle.of_tok.specs.Tokens.{aimed, offset_of, token_of}

pub straight_behind : (code : ℕ) (p : Place) → nat_lt code 256 ≡ true → nat_eq code 0x0cc ≡ false
    → behind (bare code) p ≡ past 1 p
unfolding token_bytes
straight_behind code p h k = rw (h, k) refl

pub aimed_behind : (l code : ℕ) (p : Place) (t : ℕ) → nat_lt code 256 ≡ true → nat_eq code 0x0cc ≡ false
    → behind (token_of (aimed l code p t)) p ≡ past_offset p
unfolding token_bytes
aimed_behind l code p t h k =
    let a : Aim = record { word = l; place = p; code = record { 0 = code }; target = t } in
    rw (h, k) (sized p.size p.position (offset_of a))
  where
    sized : (z : OffsetSize) (n : ℕ) (by : ℤ)
        → (let q : Place = record { position = n + suc (length (offset_bytes z by)); size = z } in q)
        ≡ record { position = n + (1 + width z); size = z }
    sized One n by = refl
    sized Two n by = refl
