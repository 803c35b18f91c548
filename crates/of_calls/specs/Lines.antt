-- The lines of a text, and the words of a line, by their order.
use Rattle.std.specs.Prelude.{ℕ, zero, suc, ◌+◌, ◌-◌, ◌^◌, List, [], ◌∷◌, length, take, drop, take_while, Option}
use Rattle.std.specs.Prelude.{if◌then◌else◌, ◌&&◌, not, nat_eq, nat_le, Bool}
use Rattle.std.specs.List.{onto_first}
use Rattle.of_cells.specs.declared.cells.Cell.{Cell}
use Rattle.of_format.specs.Reading.{cell_read, digits_read}
use Rattle.of_source.specs.declared.place.Place.{Place}

-- ---- lines

-- the lines of a text: each ends with a byte 0x0A, which the last may lack
abbrev pub lines : List ℕ → List (List ℕ)
lines [] = []
lines (b ∷ text) = if nat_eq b 10 then [] ∷ lines text else onto_first b (lines text)

-- how many bytes the first line of a text has
abbrev pub line_length : List ℕ → ℕ
line_length text = length (take_while (λ b. not (nat_eq b 10)) text)

-- the first line of a text
abbrev pub first_line : List ℕ → List ℕ
first_line text = take (line_length text) text

-- the text behind the first byte 0x0A; empty where there is none
abbrev pub left_behind : List ℕ → List ℕ
left_behind text = drop 1 (drop (line_length text) text)

-- ---- the words of a line

-- bytes up to 0x20 separate words, but 0x0D is a byte of a word
abbrev pub is_blank : ℕ → Bool
is_blank b = nat_le b 0x20 && not (nat_eq b 0x0d)

-- how many bytes the word has that a text begins with
abbrev pub word_length : List ℕ → ℕ
word_length text = length (take_while (λ b. not (is_blank b)) text)

-- how many blanks a text begins with
abbrev pub blanks : List ℕ → ℕ
blanks text = length (take_while is_blank text)

-- a text from its first word on
abbrev pub from_word : List ℕ → List ℕ
from_word text = drop (blanks text) text

-- the first word of a text; empty where there is none
abbrev pub word_in : List ℕ → List ℕ
word_in text = take (word_length (from_word text)) (from_word text)

-- what stands behind it
abbrev pub behind_word : List ℕ → List ℕ
behind_word text = drop (word_length (from_word text)) (from_word text)

-- what stands behind so many words
abbrev pub rest_behind : ℕ → List ℕ → List ℕ
rest_behind zero line = line
rest_behind (suc n) line = behind_word (rest_behind n line)

-- the word behind so many; empty where there is none
abbrev pub word_at : ℕ → List ℕ → List ℕ
word_at n line = word_in (rest_behind n line)

-- where it stands in the line of a number: at the end of the line where there is none
abbrev pub place_at : ℕ → ℕ → List ℕ → Place
place_at number n line =
    record { line = number; column = 1 + (length line - length (from_word (rest_behind n line))) }

-- what a word says as a number: hexadecimal digits in either case, at most 2^32 - 1
abbrev pub number_of : List ℕ → Option Cell
number_of word = cell_read (digits_read 16 (2 ^ 32 - 1) word)

-- what a word says as a number in decimal digits, at most 2^32 - 1
abbrev pub decimal_of : List ℕ → Option Cell
decimal_of word = cell_read (digits_read 10 (2 ^ 32 - 1) word)
