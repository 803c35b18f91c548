-- A listing with the line of a source beside each of its lines.
use Rattle.std.specs.Prelude.{◌≡◌, ℕ, ◌+◌, ◌-◌, Bool, true, List, [], ◌∷◌, ◌++◌, length, map, take, drop}
use Rattle.std.specs.Prelude.{take_while, reverse, codes, not, nat_eq, nat_le, nat_lt, ◌&&◌, if◌then◌else◌}
use Rattle.std.specs.List.{list_all, repeat}
use Rattle.std.specs.Fmt.{decimal}
use Rattle.of_source.specs.Places.{line_at}

-- ---- the line around a place

abbrev pub goes_on : ℕ → Bool
goes_on b = not (nat_eq b 10)

-- what stands before a place in its line
abbrev pub line_head : List ℕ → ℕ → List ℕ
line_head text place =
    let head = take place text in
    drop (length head - length (take_while goes_on (reverse head))) head

-- what stands from a place on in its line
abbrev pub line_tail : List ℕ → ℕ → List ℕ
line_tail text place = take_while goes_on (drop place text)

-- a byte as it is shown: a blank in place of one that doesn't print
abbrev pub shown : ℕ → ℕ
shown b = if nat_le 33 b && nat_lt b 127 then b else 32

abbrev pub line_around : List ℕ → ℕ → List ℕ
line_around text place = map shown (line_head text place) ++ map shown (line_tail text place)

-- ---- beside a line

-- the column at which the source's lines stand
abbrev pub margin : ℕ
margin = 40

-- the number of a place's line, and the line where it is another than that beside the line above
abbrev pub said : List ℕ → ℕ → ℕ → List ℕ
said text above place =
    decimal (line_at text place) ++ codes ":" ++ (
    if nat_eq (line_at text place) above then [] else 32 ∷ line_around text place)

-- what stands beside a line of so many bytes that comes from the first of these places
abbrev pub beside : List ℕ → ℕ → ℕ → List ℕ → List ℕ
beside text above column [] = []
beside text above column (p ∷ ps) = repeat (margin - column) (32 ∷ []) ++ codes " \\ " ++ said text above p

-- the line beside it
abbrev pub line_beside : List ℕ → ℕ → List ℕ → ℕ
line_beside text above [] = above
line_beside text above (p ∷ ps) = line_at text p

-- The lines of a listing that come from these places of a text, each with that place's line beside it, given the line
-- beside the one above and how many bytes of this one stand before.
abbrev pub with_margin : List ℕ → ℕ → ℕ → List ℕ → List ℕ → List ℕ
with_margin text above column places [] = []
with_margin text above column places (b ∷ bs) =
    if nat_eq b 10
    then beside text above column places
    ++ 10 ∷ with_margin text (line_beside text above places) 0 (drop 1 places) bs
    else b ∷ with_margin text above (column + 1) places bs

-- a whole listing: no line has number 0
unfoldable pub beside_lines : List ℕ → List ℕ → List ℕ → List ℕ
beside_lines text places listing = with_margin text 0 0 places listing

-- Each line of a listing stands as it is, with what is beside it behind, from that column on where the line is shorter;
-- then come the other lines. A line has no newline of its own.
abbrev pub LinesHaveMargins : Type 0
LinesHaveMargins =
    (text : List ℕ) (above : ℕ) (places line more : List ℕ) → list_all goes_on line ≡ true
    → with_margin text above 0 places (line ++ 10 ∷ more)
    ≡ line ++ (beside text above (length line) places
    ++ 10 ∷ with_margin text (line_beside text above places) 0 (drop 1 places) more)
