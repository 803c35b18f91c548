-- What the header of an image says (IEEE 1275-1994, 5.2.2.5).
use Rattle.std.specs.Prelude.{ℕ, List, [], ◌∷◌, length, Option, Some, None, nat_eq, nat_lt, if◌then◌else◌, slice_index}
use Rattle.of_stream.specs.declared.fault.StreamFault.{StreamFault}
use Rattle.of_stream.specs.declared.fault.StreamFault.TheVariants.{Short, Start0, BadStart}
use Rattle.of_stream.specs.declared.stream.OffsetSize.{OffsetSize}
use Rattle.of_stream.specs.declared.stream.OffsetSize.TheVariants.{One, Two}

-- what is wrong with a start byte: 0xF1 to 0xF3 and 0xFD begin images
abbrev pub start_fault : ℕ → Option StreamFault
start_fault start =
    if nat_eq start 0xf0 then Some Start0 else
    if nat_eq start 0xf1 then None else
    if nat_eq start 0xf2 then None else
    if nat_eq start 0xf3 then None else
    if nat_eq start 0xfd then None else
    Some (BadStart start)

-- how many bytes stand before the first token: start byte, format, checksum and length
abbrev pub header_length : ℕ
header_length = 8

-- what is wrong with the header of an image
unfoldable pub header_fault : List ℕ → Option StreamFault
header_fault image = if nat_lt (length image) header_length then Some Short else start_fault (slice_index image 0)

-- the offset size with which an image begins
abbrev pub first_size : List ℕ → OffsetSize
first_size [] = Two
first_size (start ∷ bytes) = if nat_eq start 0xfd then One else Two
