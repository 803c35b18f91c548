-- The bytes of a token, and which tokens have bytes (IEEE 1275-1994, 5.2.2).
use Rattle.std.specs.Prelude.{◌≡◌, ℕ, ◌/◌, ◌%◌, ◌<◌, ◌^◌, ℤ, pos, negsuc, List, [], ◌∷◌, ◌++◌, length}
use Rattle.std.specs.Prelude.{Some, Bool, true, ◌||◌, ◌&&◌, nat_eq, nat_lt, if◌then◌else◌}
use Rattle.std.specs.List.{All}
use Rattle.std.specs.Int.{w8, w16, cast_unsigned}
use Rattle.of_cells.specs.declared.cells.Cell.{Cell}
use Rattle.of_fcodes.specs.declared.codes.FCode.{FCode}
use Rattle.of_fcodes.specs.declared.operand.Operand.{Operand}
use Rattle.of_fcodes.specs.declared.operand.Operand.TheVariants as operand
use Rattle.of_fcodes.specs.Lookup.{operand_numbered}
use Rattle.of_stream.specs.declared.stream.OffsetSize.{OffsetSize}
use Rattle.of_stream.specs.declared.stream.OffsetSize.TheVariants.{One, Two}
use Rattle.of_stream.specs.Decoding.{Argument, Nothing, Literal, String, Code, Named, Offset, Token, decoded}

-- ---- bytes

-- an FCode of one byte, or of two
abbrev pub code_bytes : FCode → List ℕ
code_bytes c = if nat_lt c.0 256 then c.0 ∷ [] else c.0 / 256 ∷ c.0 % 256 ∷ []

-- a cell, the most significant byte first
abbrev pub cell_bytes : Cell → List ℕ
cell_bytes x = x.0 / 2 ^ 24 ∷ x.0 / 2 ^ 16 % 256 ∷ x.0 / 2 ^ 8 % 256 ∷ x.0 % 256 ∷ []

-- a string behind its length
abbrev pub counted_bytes : List ℕ → List ℕ
counted_bytes s = length s ∷ s

-- an offset in two's complement, the most significant byte first
abbrev pub offset_bytes : OffsetSize → ℤ → List ℕ
offset_bytes One by = cast_unsigned w8 by ∷ []
offset_bytes Two by = cast_unsigned w16 by / 256 ∷ cast_unsigned w16 by % 256 ∷ []

-- what stands behind an FCode
abbrev pub argument_bytes : OffsetSize → Argument → List ℕ
argument_bytes size Nothing = []
argument_bytes size (Literal x) = cell_bytes x
argument_bytes size (String s) = counted_bytes s
argument_bytes size (Code c) = code_bytes c
argument_bytes size (Named s c) = counted_bytes s ++ code_bytes c
argument_bytes size (Offset by) = offset_bytes size by

-- an FCode and what stands behind it
unfoldable pub token_bytes : OffsetSize → Token → List ℕ
token_bytes size t = code_bytes t.code ++ argument_bytes size t.argument

-- ---- which tokens have bytes

-- a number that is an FCode: 0x001 to 0x00F are none, since such a first byte begins two
abbrev pub is_code : ℕ → Bool
is_code n = nat_eq n 0 || (nat_lt 0x00f n && nat_lt n 0x1000)

-- how far an integer is from 0, or from -1 if it is negative
abbrev pub distance : ℤ → ℕ
distance (pos n) = n
distance (negsuc n) = n

-- an offset from -128 to 127, or from -32,768 to 32,767
abbrev pub is_offset : OffsetSize → ℤ → Bool
is_offset One by = nat_lt (distance by) 0x80
is_offset Two by = nat_lt (distance by) 0x8000

-- an argument that has bytes: strings have up to 255
abbrev pub fits : OffsetSize → Argument → Bool
fits size Nothing = true
fits size (Literal x) = true
fits size (String s) = nat_lt (length s) 256
fits size (Code c) = is_code c.0
fits size (Named s c) = nat_lt (length s) 256 && is_code c.0
fits size (Offset by) = is_offset size by

-- the operand that an argument is
abbrev pub operand_for : Argument → Operand
operand_for Nothing = operand.Nothing
operand_for (Literal x) = operand.Literal
operand_for (String s) = operand.String
operand_for (Code c) = operand.FCode
operand_for (Named s c) = operand.Named
operand_for (Offset by) = operand.Offset

-- a token that has bytes: the argument is of the kind that stands behind the FCode
abbrev pub IsEncodable : OffsetSize → Token → Type 0
IsEncodable size t =
    (is_code t.code.0 ≡ true) × (operand_for t.argument ≡ operand_numbered t.code.0) × (fits size t.argument ≡ true)

-- ---- bytes and tokens lead to each other

-- each number is a byte
abbrev pub AreBytes : List ℕ → Type 0
AreBytes bytes = All (λ b. b < 256) bytes

pub record TokensReadBack : Type 0 where
  -- a token is read from its bytes, whatever stands behind them
  pub written :
      (size : OffsetSize) (t : Token) (more : List ℕ) →
      IsEncodable size t → decoded size (token_bytes size t ++ more) ≡ Some (t, more)
  -- what is read is a token that has bytes, and these are what it was read from
  pub read :
      (size : OffsetSize) (bytes rest : List ℕ) (t : Token) →
      AreBytes bytes → decoded size bytes ≡ Some (t, rest)
      → IsEncodable size t × (bytes ≡ token_bytes size t ++ rest)
