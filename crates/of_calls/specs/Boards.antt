-- The devices that a text says: a line is `memory` with an address, a length and bytes, `fault` with an address and a
-- length, `keys` with bytes, or `clock`.
use Rattle.std.specs.Prelude.{ℕ, List, length, codes, Result, Ok, Err, nat_eq, nat_le, if◌then◌else◌}
use Rattle.std.specs.Str.{bytes_eq}
use Rattle.hex.specs.Hex.{decode_of}
use Rattle.hex.specs.declared.error.FromHexError.{FromHexError}
use Rattle.of_cells.specs.declared.cells.Cell.{Cell}
use Rattle.of_source.specs.declared.place.Place.{Place}
use Rattle.of_devices.specs.Memories.{memory_with}
use Rattle.of_devices.specs.declared.part.Part.{Part}
use Rattle.of_devices.specs.declared.part.Part.TheVariants as part
use Rattle.of_calls.specs.Lines.{lines, place_at, word_at}
use Rattle.of_calls.specs.Said.{all_said, ended, go_on, number_at}
use Rattle.of_calls.specs.declared.fault.TextFault.{TextFault}
use Rattle.of_calls.specs.declared.fault.TextFault.TheVariants as fault

-- ---- words

-- how many bytes a device has at most
abbrev pub longest : ℕ
longest = 0x100_0000

-- a length at a place, or its fault
abbrev pub length_or : Place → Cell → Result ℕ TextFault
length_or p x = if nat_le x.0 longest then Ok x.0 else Err (fault.BadNumber p)

-- the length that the word behind so many says
abbrev pub length_at : ℕ → ℕ → List ℕ → Result ℕ TextFault
length_at number n line = go_on (length_or (place_at number n line)) (number_at number n line)

-- bytes at a place, or their fault
abbrev pub bytes_or : Place → Result (List ℕ) FromHexError → Result (List ℕ) TextFault
bytes_or p (Ok bytes) = Ok bytes
bytes_or p (Err e) = Err (fault.BadNumber p)

-- the bytes that the word behind so many says in pairs of hexadecimal digits: none where there is none
abbrev pub bytes_at : ℕ → ℕ → List ℕ → Result (List ℕ) TextFault
bytes_at number n line = bytes_or (place_at number n line) (decode_of (word_at n line))

-- bytes at a place, if they are so many at most
abbrev pub few_or : Place → ℕ → List ℕ → Result (List ℕ) TextFault
few_or p most bytes = if nat_le (length bytes) most then Ok bytes else Err (fault.BadNumber p)

-- the bytes that the word behind so many says, so many at most
abbrev pub few_at : ℕ → ℕ → ℕ → List ℕ → Result (List ℕ) TextFault
few_at most number n line = go_on (few_or (place_at number n line) most) (bytes_at number n line)

-- the bytes that the word behind so many says, one at least
abbrev pub some_at : ℕ → ℕ → List ℕ → Result (List ℕ) TextFault
some_at number n line =
    if nat_eq (length (word_at n line)) 0 then Err (fault.BadNumber (place_at number n line))
    else bytes_at number n line

-- ---- lines

-- `memory`: the bytes behind the first ones, which may be left out, are 0
unfoldable pub memory_in : ℕ → List ℕ → Result Part TextFault
memory_in number line =
    go_on (λ a. go_on (λ size. go_on (λ first. ended number 4 line (part.Memory (memory_with a size first)))
    (few_at size number 3 line)) (length_at number 2 line)) (number_at number 1 line)

-- `fault`
unfoldable pub fault_in : ℕ → List ℕ → Result Part TextFault
fault_in number line =
    go_on (λ a. go_on (λ size. ended number 3 line (part.Broken (record { address = a; length = size })))
    (length_at number 2 line)) (number_at number 1 line)

-- `keys`
unfoldable pub keys_in : ℕ → List ℕ → Result Part TextFault
keys_in number line = go_on (λ keys. ended number 2 line (part.Keyboard keys)) (some_at number 1 line)

-- the device of the line with a number; a line without words has the fault Unknown
unfoldable pub part_in : ℕ → List ℕ → Result Part TextFault
part_in number line =
    if bytes_eq (word_at 0 line) (codes "memory") then memory_in number line
    else (if bytes_eq (word_at 0 line) (codes "fault") then fault_in number line
    else (if bytes_eq (word_at 0 line) (codes "keys") then keys_in number line
    else (if bytes_eq (word_at 0 line) (codes "clock") then ended number 1 line (part.Clock 0)
    else Err (fault.Unknown (place_at number 0 line)))))

-- the devices of a text, or the first of its words that fits nowhere
abbrev pub parsed_board : List ℕ → Result (List Part) TextFault
parsed_board text = all_said part_in 1 (lines text)
