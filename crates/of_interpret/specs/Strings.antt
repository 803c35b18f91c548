-- Strings of a text: one that is interpreted stands in the scratch region, one that is compiled at `here` (Forth 2012,
-- 6.1.2165; IEEE 1275-1994, 7.3.1 and annex A).
use Rattle.std.specs.Prelude.{ℕ, ◌+◌, nat_le, List, [], ◌∷◌, length, Result, Ok, Err, if◌then◌else◌}
use Rattle.of_cells.specs.declared.cells.Cell.{Cell}
use Rattle.of_stacks.specs.declared.throws.Throw.{Throw}
use Rattle.of_stacks.specs.Stacks.{within}
use Rattle.of_memory.specs.Access.{bytes_written}
use Rattle.of_memory.specs.DataSpace.{DataSpace}
use Rattle.of_memory.specs.Growth.{appended}
use Rattle.of_memory.specs.declared.fault.MemFault.{MemFault}
use Rattle.of_prims.specs.Data.{throw_of}
use Rattle.of_control.specs.Element.{Element}
use Rattle.of_compile.specs.declared.element.PlainItem.{PlainItem}
use Rattle.of_board.specs.declared.board.Board.{Board}
use Rattle.of_compile.specs.SlotWords.{rounded}
use Rattle.of_eval.specs.Defining.{string_element}
use Rattle.of_state.specs.State.{Answered, Calls, Outcome, State, done, failed}

-- ---- interpreted

-- the part of the scratch region in which strings stand, one after another, and how many bytes it has
abbrev pub strings_start : ℕ
strings_start = 0x50_0400

abbrev pub strings_room : ℕ
strings_room = 0xC00

-- how far behind the beginning a string of n bytes stands where so many are taken: one that doesn't fit before the end
-- stands at the beginning again
abbrev pub place_for : ℕ → ℕ → ℕ
place_for taken n = if nat_le (taken + n) strings_room then taken else 0

-- how many bytes are taken, and the board, once a string has been written
abbrev pub string_left :
    Result (List Cell) Throw → Result DataSpace MemFault → ℕ → Board → Result (ℕ × Board) Throw
string_left (Err t) r taken b = Err t
string_left (Ok cells) (Err fault) taken b = Err (throw_of fault)
string_left (Ok cells) (Ok m) taken b = Ok (taken, record b { stack = cells; memory = m })

-- ( -- a n ) the string stands in the scratch region
abbrev pub string_said : List ℕ → ℕ → Board → Result (ℕ × Board) Throw
string_said bytes taken b =
    let at = place_for taken (length bytes) in
    string_left
    (within (record { 0 = length bytes } ∷ record { 0 = strings_start + at } ∷ b.stack))
    (bytes_written b.memory (strings_start + at) bytes) (at + length bytes) b

abbrev pub by_string : {S : Type 0} → Result (ℕ × Board) Throw → State S → Outcome S
by_string (Ok x) s = done (record s { board = x.1; flow = record s.flow { strings = x.0 } })
by_string (Err t) s = failed t s

abbrev pub said : {S : Type 0} → List ℕ → State S → Outcome S
said bytes s = by_string (string_said bytes s.flow.strings s.board) s

-- ---- compiled

-- elements are appended to the open definition, one after another, until one finds no room
abbrev pub unless_thrown : {S : Type 0} → Result (Unit {0}) Throw → Answered S → (S → Answered S) → Answered S
unless_thrown (Ok x) a rest = rest a.code
unless_thrown (Err t) a rest = a

abbrev pub all_appended : {S : Type 0} → Calls S → List (Element PlainItem) → S → Answered S
all_appended c [] code = record { code = code; ended = Ok tt }
all_appended c (e ∷ es) code =
    let a = c.element e code in unless_thrown a.ended a (all_appended c es)

-- the data space with the bytes, and `here` rounded up to a multiple of 4
abbrev pub bytes_put : Result (ℕ × DataSpace) MemFault → Result DataSpace Throw
bytes_put (Ok x) = Ok (rounded x.1)
bytes_put (Err fault) = Err (throw_of fault)

-- the code and the data space with a string, if both have room
abbrev pub string_left_in :
    {S : Type 0} → Result (Unit {0}) Throw → S → Result DataSpace Throw → Result (S × DataSpace) Throw
string_left_in (Err t) code r = Err t
string_left_in (Ok x) code (Err t) = Err t
string_left_in (Ok x) code (Ok m) = Ok (code, m)

abbrev pub string_kept_in : {S : Type 0} → Answered S → Result DataSpace Throw → Result (S × DataSpace) Throw
string_kept_in a r = string_left_in a.ended a.code r

-- the string is copied to `here`, and its element appended with these behind it
abbrev pub string_spelt :
    {S : Type 0} → Calls S → List ℕ → List (Element PlainItem) → DataSpace → S → Result (S × DataSpace) Throw
string_spelt c bytes es m code =
    string_kept_in (all_appended c (string_element m.here (length bytes) ∷ es) code) (bytes_put (appended m bytes))

abbrev pub by_spelling : {S : Type 0} → Result (S × DataSpace) Throw → State S → Outcome S
by_spelling (Ok x) s = done (record s { code = x.0; board = record s.board { memory = x.1 } })
by_spelling (Err t) s = failed t s

abbrev pub spelt : {S : Type 0} → Calls S → List ℕ → List (Element PlainItem) → State S → Outcome S
spelt c bytes es s = by_spelling (string_spelt c bytes es s.board.memory s.code) s
