-- The listing of an image, a line for each token (IEEE 1275-1994, 5.2.2).
use Rattle.std.specs.Prelude.{◌≡◌, ℕ, zero, suc, ◌+◌, ◌-◌, ◌/◌, ◌≤◌, List, [], ◌∷◌, ◌++◌, length, take, drop}
use Rattle.std.specs.Prelude.{slice_range, codes, Option, Some, None, Result, Ok, Err, if◌then◌else◌}
use Rattle.std.specs.List.{flat_map}
use Rattle.of_stream.specs.declared.fault.StreamFault.{StreamFault}
use Rattle.of_stream.specs.declared.fault.StreamFault.TheVariants.{Ended}
use Rattle.of_stream.specs.declared.stream.OffsetSize.{OffsetSize}
use Rattle.of_stream.specs.Decoding.{Token, token_from}
use Rattle.of_stream.specs.Image.{header_fault, header_length, first_size}
use Rattle.of_stream.specs.Sizes.{is_end, size_behind}
use Rattle.of_detok.specs.declared.fault.DetokFault.{DetokFault}
use Rattle.of_detok.specs.declared.fault.DetokFault.TheVariants as fault
use Rattle.of_detok.specs.declared.notes.Extras.{Extras}
use Rattle.of_detok.specs.Digits.{pairs, place}
use Rattle.of_detok.specs.Labels.{header_label}
use Rattle.of_detok.specs.Notes.{Notes, first_notes, behind_token, noted_label}

-- ---- one line

-- a line: how many bytes stand before it, its bytes, and what is said of them
pub record Line : Type 0 where
  pub before : ℕ
  pub bytes : List ℕ
  pub label : List ℕ

-- place and bytes, two spaces, the label
unfoldable pub line_text : Line → List ℕ
line_text l = place l.before ++ pairs l.bytes ++ codes "  " ++ l.label ++ codes "\n"

-- ---- all lines

-- what stands behind the end token, in so many lines of up to sixteen bytes
abbrev pub trailing : ℕ → ℕ → List ℕ → List Line
trailing zero before bytes = []
trailing (suc more) before bytes =
    record { before = before; bytes = take 16 bytes; label = codes "trailing" } ∷ trailing more (before + 16)
    (drop 16 bytes)

-- what stands from a position on, behind the end token
abbrev pub trailing_from : List ℕ → ℕ → List Line
trailing_from image position = trailing ((length image - position + 15) / 16) position (drop position image)

-- the lines of an image up to its end, or up to what is wrong with it
pub record Lines : Type 0 where
  pub lines : List Line
  pub fault : Option StreamFault

-- these lines, to the end
abbrev pub to_end : List Line → Lines
to_end lines = record { lines = lines; fault = None }

-- no more lines, for this fault
abbrev pub stopped : StreamFault → Lines
stopped f = record { lines = []; fault = Some f }

-- a line, and then others
abbrev pub line_before : Line → Lines → Lines
line_before l r = record { lines = l ∷ r.lines; fault = r.fault }

-- the line of a token at a position, which is given with the position behind it
abbrev pub token_line : List ℕ → Notes → ℕ → Token × ℕ → Line
token_line image n position r =
    record { before = position; bytes = slice_range image position r.1; label = noted_label n position r.0 }

-- The lines from a position on, by the token that is read there; without one the image ends too early.
-- Behind an end token all is trailing, and behind another one the next lines follow.
abbrev pub token_lines : List ℕ → Notes → ℕ → OffsetSize → Option (Token × ℕ) → (Notes → ℕ → OffsetSize → Lines) → Lines
token_lines image n position size None next_lines = stopped (Ended position)
token_lines image n position size (Some r) next_lines = line_before (token_line image n position r) (
    if is_end r.0.code.0 then to_end (trailing_from image r.1)
    else next_lines (behind_token r.0 n) r.1 (size_behind r.0.code.0 size)
    )

-- the lines from a position to the end of the image, with at most n tokens
abbrev pub lines_from : List ℕ → ℕ → Notes → ℕ → OffsetSize → Lines
lines_from image zero n position size = stopped (Ended position)
lines_from image (suc more) n position size =
    token_lines image n position size (token_from image position size) (lines_from image more)

-- the lines behind the header's; a token has a byte at least, so there are no more tokens than bytes
abbrev pub lines_behind : Extras → List ℕ → Lines
lines_behind e image = lines_from image (length image) (first_notes e) header_length (first_size image)

-- the bound on the number of tokens cuts nothing: a larger one gives the same lines
abbrev pub BoundCutsNothing : Type 0
BoundCutsNothing =
    (e : Extras) (image : List ℕ) (n : ℕ) → length image ≤ n
    → lines_from image n (first_notes e) header_length (first_size image) ≡ lines_behind e image

-- the line of the header
abbrev pub header_line : List ℕ → Line
header_line image = record { before = 0; bytes = take header_length image; label = header_label image }

-- the lines of an image whose header has this fault, or none
abbrev pub lines_if : Extras → List ℕ → Option StreamFault → Lines
lines_if e image (Some f) = stopped f
lines_if e image None = line_before (header_line image) (lines_behind e image)

-- the lines of an image: the header, the tokens up to the end token, and what trails
unfoldable pub lines_of : Extras → List ℕ → Lines
lines_of e image = lines_if e image (header_fault image)

-- a text, and what is wrong with the image behind it, if anything
abbrev pub Listed : Type 0
Listed = List ℕ × Option StreamFault

-- the text of these lines behind another
abbrev pub text_behind : List ℕ → Lines → Listed
text_behind text r = (text ++ flat_map line_text r.lines, r.fault)

-- the listing of an image up to its end, or up to what is wrong with it
abbrev pub listed_so_far : Extras → List ℕ → Listed
listed_so_far e image = text_behind [] (lines_of e image)

-- a whole listing, or what is wrong with the image
abbrev pub whole : Listed → Result (List ℕ) StreamFault
whole (text, None) = Ok text
whole (text, Some f) = Err f

-- the listing of an image, or what is wrong with the image
abbrev pub listed : Extras → List ℕ → Result (List ℕ) StreamFault
listed e image = whole (listed_so_far e image)

-- a call was refused for this fault, or for want of memory
abbrev pub IsRefused : {A : Type 0} → Result A StreamFault → DetokFault → Type 0
IsRefused r fault.NoMemory = Unit {0}
IsRefused r (fault.Stream f) = r ≡ Err f
IsRefused r (fault.BadLine n) = ⊥
