-- What of an image makes its words (IEEE 1275-1994, 5.2.2 and 5.3.3.1).
use Rattle.std.specs.Prelude.{ℕ, zero, suc, List, [], ◌∷◌, ◌++◌, drop, length, take, slice_range, Option, Some, None}
use Rattle.std.specs.Prelude.{Bool, true, false, ◌||◌, nat_eq, if◌then◌else◌}
use Rattle.of_stream.specs.declared.fault.StreamFault.{StreamFault}
use Rattle.of_stream.specs.declared.fault.StreamFault.TheVariants.{Ended}
use Rattle.of_stream.specs.declared.stream.OffsetSize.{OffsetSize}
use Rattle.of_stream.specs.Decoding.{Token, token_from}
use Rattle.of_stream.specs.Image.{header_fault, header_length, first_size}
use Rattle.of_stream.specs.Sizes.{is_end, size_behind}

-- ---- one token

-- a definition is open behind `b(:)`, and none behind `b(;)`
abbrev pub is_open_behind : Bool → ℕ → Bool
is_open_behind is_open code = if nat_eq code 0x0b7 then true else if nat_eq code 0x0c2 then false else is_open

-- `new-token` and `external-token` say the next word's number and name, `b(:)` opens a definition, and `offset16` says
-- how its offsets are read
abbrev pub stands : ℕ → Bool
stands code = nat_eq code 0x0b5 || nat_eq code 0x0ca || nat_eq code 0x0b7 || nat_eq code 0x0cc

-- `b(value)`, `b(variable)`, `b(constant)`, `b(create)`, `b(defer)`, `b(buffer:)` and `b(field)`
abbrev pub makes_word : ℕ → Bool
makes_word code =
    nat_eq code 0x0b8 || nat_eq code 0x0b9 || nat_eq code 0x0ba || nat_eq code 0x0bb || nat_eq code 0x0bc
    || nat_eq code 0x0bd || nat_eq code 0x0be

-- What is taken of a token of these bytes: all of it in a definition. Outside one `named-token` is `external-token`, by
-- which its word has the name in every machine, and another defining token is `b(create)`, which takes nothing from the
-- stack.
abbrev pub taken : Bool → ℕ → List ℕ → List ℕ
taken true code own = own
taken false code own =
    if nat_eq code 0x0b6 then 0xca ∷ drop 1 own
    else if stands code then own else if makes_word code then 0xbb ∷ [] else []

-- ---- an image

-- what is taken, and what is wrong with the image behind it, if anything
abbrev pub Taken : Type 0
Taken = List ℕ × Option StreamFault

-- these bytes, and what is taken behind them
abbrev pub bytes_before : List ℕ → Taken → Taken
bytes_before bytes r = (bytes ++ r.0, r.1)

-- nothing more but `end0`
abbrev pub ended : Option StreamFault → Taken
ended f = (0x00 ∷ [], f)

-- What is taken from a position on, by the token that is read there, up to an end token; without one the image ends
-- too early.
abbrev pub taken_by :
    List ℕ → Bool → ℕ → OffsetSize → Option (Token × ℕ) → (Bool → ℕ → OffsetSize → Taken) → Taken
taken_by image is_open position size None next = ended (Some (Ended position))
taken_by image is_open position size (Some r) next =
    if is_end r.0.code.0 then ended None
    else bytes_before (taken is_open r.0.code.0 (slice_range image position r.1))
    (next (is_open_behind is_open r.0.code.0) r.1 (size_behind r.0.code.0 size))

-- what is taken from a position to the end of the image, with at most n tokens
abbrev pub taken_from : List ℕ → ℕ → Bool → ℕ → OffsetSize → Taken
taken_from image zero is_open position size = ended (Some (Ended position))
taken_from image (suc more) is_open position size =
    taken_by image is_open position size (token_from image position size) (taken_from image more)

-- what is taken behind the header; a token has a byte at least, so there are no more tokens than bytes
abbrev pub taken_behind : List ℕ → Taken
taken_behind image = taken_from image (length image) false header_length (first_size image)

-- the definitions of an image whose header has this fault, or none
abbrev pub definitions_if : List ℕ → Option StreamFault → Taken
definitions_if image (Some f) = ([], Some f)
definitions_if image None = bytes_before (take header_length image) (taken_behind image)

-- the definitions of an image, and what is wrong with it, if anything
unfoldable pub definitions_of : List ℕ → Taken
definitions_of image = definitions_if image (header_fault image)
