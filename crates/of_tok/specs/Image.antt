-- The image of a source (IEEE 1275-1994, 5.2.2 and 5.3.3).
use Rattle.std.specs.Prelude.{◌≡◌, ℕ, ℤ, ◌+◌, ◌%◌, ◌/◌, List, [], ◌∷◌, ◌++◌, length}
use Rattle.std.specs.Prelude.{Option, Some, None, Result, Ok, Err, true, nat_lt, if◌then◌else◌}
use Rattle.std.specs.List.{sum, flat_map}
use Rattle.std.specs.Option.{option_or}
use Rattle.of_stream.specs.declared.stream.OffsetSize.{OffsetSize}
use Rattle.of_stream.specs.declared.stream.OffsetSize.TheVariants.{One, Two}
use Rattle.of_fcodes.specs.declared.operand.Operand.TheVariants as operand
use Rattle.of_fcodes.specs.Lookup.{operand_numbered}
use Rattle.of_stream.specs.Bytes.{IsEncodable, cell_bytes, is_code, is_offset, token_bytes}
use Rattle.of_stream.specs.Image.{header_length}
use Rattle.of_source.specs.Items.{Source}
use Rattle.of_source.specs.Encodable.{definitions, most_definitions}
use Rattle.of_source.specs.Nest.{nest_of}
use Rattle.of_tok.specs.declared.written.Aim.{Aim}
use Rattle.of_tok.specs.declared.fault.TokFault.{TokFault}
use Rattle.of_tok.specs.declared.fault.TokFault.TheVariants.{OffsetTooLong, TooManyWords, ImageTooLong, NoMemory}
use Rattle.of_tok.specs.Tokens.{Written, Straight, Aimed, offset_of, size_at, token_of, tokens_of}

-- the bytes of a token
abbrev pub written_bytes : Written → List ℕ
written_bytes w = token_bytes (size_at w) (token_of w)

-- the bytes of tokens
abbrev pub bytes_of : List Written → List ℕ
bytes_of ws = flat_map written_bytes ws

-- the offset of a token, if it fits its size
abbrev pub fitting : Aim → Option ℤ
fitting a = if is_offset a.place.size (offset_of a) then Some (offset_of a) else None

-- the position of a token's word, where its offset doesn't fit its size
abbrev pub unfit : Written → Option ℕ
unfit (Straight size t) = None
unfit (Aimed a) = if is_offset a.place.size (offset_of a) then None else Some a.word

-- the position of the first word whose offset doesn't fit
abbrev pub first_unfit : List Written → Option ℕ
first_unfit [] = None
first_unfit (w ∷ ws) = option_or (unfit w) (first_unfit ws)

-- `version1` or `start1`
abbrev pub start_byte : OffsetSize → ℕ
start_byte One = 0xfd
start_byte Two = 0xf1

-- two bytes, the most significant first
abbrev pub two_bytes : ℕ → List ℕ
two_bytes n = n / 256 ∷ n % 256 ∷ []

-- the header before the bytes of tokens: start byte, format, sum of these bytes, length with the header
abbrev pub header : OffsetSize → List ℕ → List ℕ
header size bytes =
    start_byte size ∷ 8 ∷ (two_bytes (sum bytes % 0x10000) ++ cell_bytes (record { 0 = header_length + length bytes }))

-- the most bytes of an image
abbrev pub most_bytes : ℕ
most_bytes = 0x40000

-- bytes, unless there is a word whose offset doesn't fit
abbrev pub unless_unfit : Option ℕ → List ℕ → Result (List ℕ) TokFault
unless_unfit None bytes = Ok bytes
unless_unfit (Some word) bytes = Err (OffsetTooLong word)

-- tokens behind bytes
abbrev pub written_behind : List ℕ → List Written → Result (List ℕ) TokFault
written_behind before ws = unless_unfit (first_unfit ws) (before ++ bytes_of ws)

-- the image of these tokens, or the first of what stands against it
abbrev pub image_of : OffsetSize → ℕ → List Written → Result (List ℕ) TokFault
image_of size count ws =
    if nat_lt most_definitions count then Err TooManyWords else
    if nat_lt most_bytes (header_length + length (bytes_of ws)) then Err ImageTooLong else
    unless_unfit (first_unfit ws) (header size (bytes_of ws) ++ bytes_of ws)

-- the image of a source: the tokens of its nest behind their header
unfoldable pub tokenized : Source → Result (List ℕ) TokFault
tokenized s = image_of s.size (definitions s.items) (tokens_of s.size (nest_of s.items))

-- ---- which tokens can be written

-- a token without an offset has bytes; an FCode with an offset is one of one byte
abbrev pub IsWritable : Written → Type 0
IsWritable (Straight size t) = IsEncodable size t
IsWritable (Aimed a) = (is_code a.code.0 ≡ true) × (operand_numbered a.code.0 ≡ operand.Offset)

abbrev pub AreWritable : List Written → Type 0
AreWritable [] = Unit {0}
AreWritable (w ∷ ws) = IsWritable w × AreWritable ws

-- a source was refused for this fault, or for want of memory
abbrev pub IsRefused : {A : Type 0} → Result A TokFault → TokFault → Type 0
IsRefused r NoMemory = Unit {0}
IsRefused r (OffsetTooLong l) = r ≡ Err (OffsetTooLong l)
IsRefused r TooManyWords = r ≡ Err TooManyWords
IsRefused r ImageTooLong = r ≡ Err ImageTooLong

-- a token wasn't written, since its offset doesn't fit, or for want of memory
abbrev pub IsUnfit : Option ℕ → TokFault → Type 0
IsUnfit word NoMemory = Unit {0}
IsUnfit word (OffsetTooLong l) = word ≡ Some l
IsUnfit word _ = ⊥
